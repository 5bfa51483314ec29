-- Document 02, P2: "Write an accepted table as struct kvm_cpuid2: .. flag 1 where the row has a subleaf, else flag and index 0; rows stand in
-- P1's order. .. Export starts from pages, as the image does, and after building's refusals gives 9 for a short buffer. Lent bytes beyond the
-- list .. stay." P1's order is that of the places.
use Rattle.std.specs.Prelude.{List, [], ◌∷◌, ℕ, zero, suc}
use Rattle.bits.specs.Choice.{pick}
use Rattle.bits.specs.Lists.{one}
use Rattle.x86defs.specs.declared.CpuidResult.{CpuidResult}
use Rattle.masking.specs.Kept.{places, leaf_at, indexed_at, subleaf_at}
use Rattle.table.specs.declared.Choices.{Choices}
use Rattle.table.specs.declared.CpuidResults.{CpuidResults}
use Rattle.table.specs.Table.{row_in}
use Rattle.build.specs.Build.{answer}
use Rattle.buffer.specs.Front.{AfterWrite, write_verdict}
use Rattle.kvm_list.specs.Format.{ListRow, list_bytes}

-- a row by its function, index and flags
abbrev pub plain_row : ℕ → ℕ → ℕ → CpuidResult → ListRow
plain_row leaf index flags r = record {
  leaf = leaf;
  index = index;
  flags = flags;
  registers = r;
  padding0 = 0;
  padding1 = 0;
  padding2 = 0;
}

-- the row of place i; where it has no subleaf, subleaf_at i is 0 (`subleaf_in_run`, crates/masking/specs/RunLaws.antt)
abbrev pub list_row : ℕ → CpuidResult → ListRow
list_row i r = plain_row (leaf_at i).0 (subleaf_at i) (one (indexed_at i)) r

-- the rows of a table at the n places from k on
unfoldable pub rows_from : CpuidResults → ℕ → ℕ → List ListRow
rows_from t k zero = []
rows_from t k (suc n) = pick (row_in t k).present (list_row k (row_in t k).result ∷ rows_from t (suc k) n) (rows_from t (suc k) n)

-- all of them
unfoldable pub list_rows : CpuidResults → List ListRow
list_rows t = rows_from t 0 places

unfoldable pub list_of : CpuidResults → List ℕ
list_of t = list_bytes (list_rows t)

unfoldable pub write_list : Choices → List ℕ → List ℕ → AfterWrite
write_list chosen s buffer = write_verdict (answer chosen s).verdict (list_of (answer chosen s).table) buffer
