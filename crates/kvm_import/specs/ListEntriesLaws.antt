-- Entries as they are stored, one after another, each on its page.
use Rattle.std.specs.Prelude.{◌≡◌, refl, ℕ, ◌+◌, ◌-◌, ◌*◌, ◌≤◌, length, replicate}
use Rattle.std.proofs.Common.{arith}
use mathlib.Core.List.{List, [], ◌∷◌, ◌++◌}
use Rattle.x86defs.specs.Functions.{cpuid_result}
use Rattle.pages.specs.Layout.{word_at, registers_at}
use Rattle.buffer.specs.Front.{word_bytes, register_bytes}
use Rattle.kvm_list.specs.Words.{bytes_of_words}
use Rattle.kvm_list.specs.WordsLaws.{bytes_append}
use Rattle.kvm_list.specs.Format.{ListRow, row_at, rows_listed}
use Rattle.kvm_import.specs.ListChecks.{rows_on1}
use Rattle.kvm_import.specs.RowsLeftLaws.{list_rows_left}
use Rattle.kvm_import.specs.ListPages.{entry_words, entries_words}
use Rattle.kvm_import.specs.ImportPieces.{entry_bytes, entries_bytes, entered}

-- ---- one entry

pub row_registers : (l : List ℕ) (q : ℕ) → registers_at l (8 + 40 * q + 12) ≡ (row_at l q).registers
unfolding row_at registers_at
row_registers l q =
    let o : ℕ = 8 + 40 * q in
    let a : o + 12 + 4 ≡ o + 16 = omega arith in
    let b : o + 12 + 8 ≡ o + 20 = omega arith in
    let c : o + 12 + 12 ≡ o + 24 = omega arith in
    λ k. cpuid_result (word_at l (o + 12)) (word_at l (a k)) (word_at l (b k)) (word_at l (c k))

pub entry_length : (r : ListRow) → length (entry_bytes r) ≡ 48
unfolding entry_bytes bytes_of_words
entry_length r = refl

pub entry_pieces : (r : ListRow)
    → (((word_bytes r.leaf ++ word_bytes r.index) ++ replicate 16 0) ++ register_bytes r.registers) ++ replicate 8 0 ≡ entry_bytes r
unfolding word_bytes register_bytes entry_bytes bytes_of_words
entry_pieces r = refl

-- ---- entries one after another

pub entries_cons : (r : ListRow) (rs : List ListRow) → entries_bytes (r ∷ rs) ≡ entry_bytes r ++ entries_bytes rs
unfolding entries_bytes entries_words entry_bytes
entries_cons r rs = bytes_append (entry_words r) (entries_words rs)

pub entries_none : entries_bytes [] ≡ []
unfolding entries_bytes entries_words bytes_of_words
entries_none = refl

-- ---- from row to row

-- d entries of page 1 and q - d of page 0 are stored: invariant: the bytes still to be stored are unchanged
pub record Entering (l out₀ out : List ℕ) (q d : ℕ) : Type 0 where
  pub size : length out ≡ length out₀
  pub few : d ≤ q
  pub extended : d + length (rows_on1 (list_rows_left l q)) ≡ length (rows_on1 (rows_listed l))
  pub bytes : entered out (16 + 48 * (q - d)) (4112 + 48 * d) (list_rows_left l q) ≡ entered out₀ 16 4112 (rows_listed l)
