-- Check 3 on the required leaves, and check 4: the verdicts on the two lists' rows and on INVLPGB decide their conditions.
use Rattle.std.specs.Prelude.{◌≡◌, refl, Bool, true, false, ◌↔◌, ℕ}
use Rattle.std.proofs.Common.{arith}
use Rattle.bits.specs.SearchLaws.{Lowest}
use Rattle.bits.specs.Bits.{has}
use Rattle.bits.specs.BitsLaws.{has_bit, has_not}
use Rattle.masking.specs.Place
use Rattle.table.specs.declared.Refusal.TheVariants.{InvlpgbUnavailable}
use Rattle.table.specs.Rows.{Rows}
use Rattle.checks.specs.Required.{required_count, place_required}
use Rattle.checks.specs.Checks.{refuse_unless, missing_required, required_verdict, invlpgb_verdict}
use Rattle.refusals.specs.Conditions.{RequiredFault, InvlpgbFault}
use Rattle.refusals.specs.Settles.{Settles, never, holds, lowest_decides}

-- whether the j-th of the two lists has its row
has_required : Rows → ℕ → Bool
has_required m j = (m (place_required j)).present

required_lowest : (m : Rows) (j : ℕ) → RequiredFault m j ↔ Lowest (has_required m) 0 required_count j
unfolding has_required
required_lowest m j = (
  λ f. record { from = omega arith; below = omega arith; fails = f.absent; before = λ i l. f.before i },
  λ l. record { listed = omega arith; absent = l.fails; before = λ i. l.before i (omega arith) },
)

pub required_decides : (m : Rows) → Settles (λ q. (j : ℕ) × RequiredFault m j × (q ≡ missing_required j)) (required_verdict m)
unfolding required_verdict has_required
required_decides m = lowest_decides (has_required m) 0 required_count missing_required (required_lowest m)

pub invlpgb_decides : (m : Rows) → Settles (λ q. InvlpgbFault m × (q ≡ InvlpgbUnavailable)) (invlpgb_verdict m)
unfolding invlpgb_verdict
invlpgb_decides m = go (has 3 ebx) refl
  where
    ebx : ℕ
    ebx = (m Place.extended_address_space_sizes).result.ebx

    go : (b : Bool) → has 3 ebx ≡ b → Settles (λ q. InvlpgbFault m × (q ≡ InvlpgbUnavailable)) (refuse_unless b InvlpgbUnavailable)
    go true e = never (λ f. omega (arith, f, has_bit 3 ebx e))
    go false e = holds (has_not 3 ebx e)
