-- Document 02, P2: "rows stand in P1's order", ascending by leaf as an unsigned number, then by subleaf.
use Rattle.std.specs.Prelude.{◌≡◌, Bool, List, ◌∷◌, ◌⊎◌}
use Rattle.std.proofs.Math.Bool.{true, false}
use Prim.Native.Nat.{ℕ, zero, suc, ◌+◌, ◌≤◌, ◌<◌}
use Rattle.std.proofs.Common.{arith}
use Rattle.bits.specs.Choice.{pick}
use Rattle.bits.specs.Ascending.{BeforeAll, Ascending}
use Rattle.masking.specs.Kept.{places}
use Rattle.table.specs.declared.CpuidResults.{CpuidResults}
use Rattle.table.specs.Table.{row_in}
use Rattle.table.specs.OrderLaws.{places_rise}
use Rattle.x86defs.specs.declared.CpuidResult.{CpuidResult}
use Rattle.kvm_list.specs.Format.{ListRow}
use Rattle.kvm_export.specs.Export.{list_row, rows_from, list_rows}

abbrev pub Before : ListRow → ListRow → Type 0
Before a b = (a.leaf < b.leaf) ⊎ ((a.leaf ≡ b.leaf) × (a.index < b.index))

abbrev pub Ascend : List ListRow → Type 0
Ascend rs = Ascending Before rs

module _ (t : CpuidResults) where
  first_before : (i : ℕ) (r : CpuidResult) (k n : ℕ) → i < k → k + n ≤ places → BeforeAll Before (list_row i r) (rows_from t k n)
  unfolding rows_from
  first_before i r k zero l u = tt
  first_before i r k (suc n) l u = go (row_in t k).present (first_before i r (suc k) n (omega arith) (omega arith))
    where
      go : (b : Bool) → BeforeAll Before (list_row i r) (rows_from t (suc k) n)
          → BeforeAll Before (list_row i r) (pick b (list_row k (row_in t k).result ∷ rows_from t (suc k) n) (rows_from t (suc k) n))
      go true h = (places_rise i k l (omega arith), h)
      go false h = h

  ascend_from : (k n : ℕ) → k + n ≤ places → Ascend (rows_from t k n)
  unfolding rows_from
  ascend_from k zero u = tt
  ascend_from k (suc n) u = go (row_in t k).present (ascend_from (suc k) n (omega arith))
    where
      go : (b : Bool) → Ascend (rows_from t (suc k) n)
          → Ascend (pick b (list_row k (row_in t k).result ∷ rows_from t (suc k) n) (rows_from t (suc k) n))
      go true h = (first_before k (row_in t k).result (suc k) n (omega arith) (omega arith), h)
      go false h = h

  pub rows_ascend : Ascend (list_rows t)
  unfolding list_rows
  rows_ascend = ascend_from 0 places (omega arith)
