-- Rows that keep every row of others have the same answer, once no required or needed row was missing.
use Rattle.std.specs.Prelude.{◌≡◌, ℕ}
use Rattle.std.proofs.Math.Path.{refl}
use Rattle.std.proofs.Math.Bool.{false}
use Rattle.std.specs.Int.Bits.{bit_or}
use Rattle.bits.specs.ChoiceLaws.{never_both}
use Rattle.bits.specs.Bits.{has}
use Rattle.table.specs.Rows.{Row}
use Rattle.finish.specs.Finish.{Rule, Settings, finish_row}
use Rattle.finish.specs.Finish.Rule.{made as madeRule, needed, component}
use Rattle.finish.specs.Kinds.{from_entry}

-- ---- rows of which the tables make nothing

pub made_same : (c : Settings) (t : Rule) (a b : Row) → from_entry t ≡ false → finish_row c t b ≡ finish_row c t a
made_same c (madeRule t) a b e = refl
made_same c (needed t) a b e = absurd (never_both refl e)
made_same c (component k) a b e = absurd (never_both refl e)

pub unused_same : (c : Settings) (k : ℕ) (a b : Row) → has k (bit_or c.enabled.xfem c.enabled.xss) ≡ false
    → finish_row c (component k) b ≡ finish_row c (component k) a
unused_same c k a b e = rw e
