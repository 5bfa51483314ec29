-- Finished rows read again: rows 0 and 80000000h are filtered, every other row is masked as an entry is.
use Rattle.std.specs.Prelude.{◌≡◌, Bool, true, ℕ, ◌<◌, ltb}
use Rattle.bits.specs.Choice.{pick}
use Rattle.masking.specs.Kept.{places}
use Rattle.table.specs.Rows.{Row, Rows, vacant}
use Rattle.finish.specs.Finish.{rule_at}
use Rattle.finish.specs.Kinds.{from_entry}
use Rattle.collect.specs.FirstEntries.{masked_at, mask_row}

-- what a page entry made of the row at place i gives
abbrev pub read_again : Bool → ℕ → Row → Row
read_again avic i r = pick (from_entry (rule_at i)) (mask_row avic i r) vacant

-- all rows
unfoldable pub again : Bool → Rows → Rows
again avic t i = pick (ltb i places) (read_again avic i (t i)) vacant

-- rows as pages give them: masking again changes nothing
pub record MaskedAgain (avic : Bool) (m : Rows) : Type 0 where
  pub fixed : (i : ℕ) → i < places → (m i).present ≡ true → masked_at avic i (m i).result ≡ (m i).result
