-- The order of servers: "at least" composes. Where a guest may move from A to B and from B to C, it may move from A to C. With `rises_itself` and
-- `same_figures` (SameProof.antt) this makes demand 3's hypothesis a preorder on the accepted servers, whose equal classes give one table each.
-- Of tables the same: `TableRises` is a preorder, and tables that rise to each other have the same rows and mask.
use Rattle.std.specs.Prelude.{◌≡◌, true, false, ℕ, ◌<◌, replicate}
use Rattle.x86defs.specs.declared.CpuidResult.{CpuidResult}
use Rattle.masking.specs.Kept.{places}
use Rattle.table.specs.declared.CpuidResults.{CpuidResults}
use Rattle.table.specs.Table.{row_in}

-- what is the same of two tables that rise to each other: which rows are there, the registers of each that is, and the mask. A row that is not there
-- is no row: in a table that building gives its registers are zeros, in another nothing is said of them.
pub record SameRows (t u : CpuidResults) : Type 0 where
  pub present : (i : ℕ) → i < places → (row_in t i).present ≡ (row_in u i).present
  pub registers : (i : ℕ) → i < places → (row_in t i).present ≡ true → (row_in t i).result ≡ (row_in u i).result
  pub mask : t.max_extended_state ≡ u.max_extended_state

-- of rows that are not there nothing can be said: two tables without a row rise to each other whatever registers they hold
abbrev pub without_rows : CpuidResult → CpuidResults
without_rows r = record { present = replicate places false; results = replicate places r; row_count = 0; max_extended_state = 0 }
