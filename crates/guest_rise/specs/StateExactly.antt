-- Refusals 13 and 14 of rows in document 02's words: each is given exactly where it says, and the view is given exactly where neither is.
use Rattle.std.specs.Prelude.{◌≡◌, ◌⊎◌, ℕ, ◌^◌, ◌≤◌, Err, Ok}
use Rattle.std.specs.Int.Bits.{bit_or}
use Rattle.bits.specs.Bits.{bit, Within}
use Rattle.masking.specs.Place
use Rattle.table.specs.declared.Refusal.TheVariants.{StateBeyondTable, CompactSizeTooLarge}
use Rattle.table.specs.Rows.{Rows}
use Rattle.checks.specs.ExtendedState.{xfem, xss as maxXss}
use Rattle.guest_state.specs.Compact.{compact_size}
use Rattle.table.specs.Verdict.{Verdict}

-- 13 is not given: XCR0 x has bit 0 and none beyond XFEM; XSS s has none beyond the table's
pub record Allowed (m : Rows) (x s : ℕ) : Type 0 where
  pub x87 : bit 0 x ≡ 1
  pub user : Within x (xfem m)
  pub supervisor : Within s (maxXss m)

-- D.1.EAX has bit 1 or bit 3
abbrev pub EitherBit : ℕ → Type 0
EitherBit eax = (bit 1 eax ≡ 1) ⊎ (bit 3 eax ≡ 1)

-- 14: "D.1.EAX has bit 1 or 3 and the D.1 size passes 32 bits"
pub record SizeFault (m : Rows) (x s : ℕ) : Type 0 where
  pub compacted : EitherBit (m (Place.extended_state 1)).result.eax
  pub large : 2 ^ 32 ≤ compact_size m (bit_or x s)

-- each verdict with all that it says; the three exclude each other
pub data StateAnswers (m : Rows) (x s : ℕ) (w : Verdict) : Type 0 where
  beyond : (Allowed m x s → ⊥) → w ≡ Err StateBeyondTable → StateAnswers m x s w
  large : Allowed m x s → SizeFault m x s → w ≡ Err CompactSizeTooLarge → StateAnswers m x s w
  given : Allowed m x s → (SizeFault m x s → ⊥) → w ≡ Ok tt → StateAnswers m x s w
