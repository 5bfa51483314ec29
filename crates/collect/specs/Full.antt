-- Leaves that are full: no entry of them can add a row, because they are not kept or each of their places has a row. A number has a bit for each leaf
-- that is known to be full.
use Rattle.std.specs.Prelude.{◌≡◌, Bool, true, List, ◌≢◌, ℕ, ◌+◌, ◌*◌, ◌/◌, ◌%◌, ◌^◌, ◌≤◌, ◌<◌, get_or}
use Rattle.bits.specs.Bits.{has}
use Rattle.x86defs.specs.declared.CpuidFunction.{CpuidFunction}
use Rattle.pages.specs.declared.ParsedCpuidEntry.{ParsedCpuidEntry}
use Rattle.masking.specs.Kept.{places, place_of}
use Rattle.collect.specs.Collect.{counted_place}

-- the number of a leaf: the leaf turned left by one bit, of which the low six are taken
unfoldable pub leaf_number : CpuidFunction → ℕ
leaf_number l = (2 * l.0 + l.0 / 2 ^ 31) % 64

-- o has where the rows stand: 0 for a place without a row
pub record Full (o : List ℕ) (l : CpuidFunction) : Type 0 where
  pub at : (k : ℕ) → place_of l k < places → get_or o (place_of l k) 0 ≢ 0

-- every leaf whose bit n has is full
pub record FullLeaves (o : List ℕ) (n : ℕ) : Type 0 where
  pub at : (l : CpuidFunction) → has (leaf_number l) n ≡ true → Full o l

-- there are rows at these places, from the first on
pub record RowsFrom (o : List ℕ) (first count : ℕ) : Type 0 where
  pub at : (i : ℕ) → first ≤ i → i < first + count → get_or o i 0 ≢ 0

-- subleaf k of the leaf has a row
pub record HasRow (o : List ℕ) (l : CpuidFunction) (k : ℕ) : Type 0 where
  pub kept : place_of l k < places
  pub there : get_or o (place_of l k) 0 ≢ 0

-- what the code tells of a leaf that has a row: true only where it is full
pub record FullBy (l : CpuidFunction) (o : List ℕ) (r : Bool) : Type 0 where
  pub full : r ≡ true → (k : ℕ) → HasRow o l k → Full o l

-- the leaves that are known to be full before and after
pub record Filled (l : CpuidFunction) (o : List ℕ) (n r : ℕ) : Type 0 where
  pub leaves : (k : ℕ) → HasRow o l k → FullLeaves o n → FullLeaves o r

-- an entry that adds no row: it has no place, or there is a row
pub record Passed (o : List ℕ) (e : ParsedCpuidEntry) : Type 0 where
  pub there : counted_place e < places → get_or o (counted_place e) 0 ≢ 0

-- the place of an entry, or 88 where it adds no row
pub record Asked (n : ℕ) (e : ParsedCpuidEntry) (o : List ℕ) (r : ℕ) : Type 0 where
  pub found : r < places → r ≡ counted_place e
  pub passed : places ≤ r → FullLeaves o n → Passed o e
