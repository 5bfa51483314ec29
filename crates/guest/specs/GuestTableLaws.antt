-- The guest's whole table in memory: the five stores are those of the definition, and count and mask stay.
use Rattle.std.specs.Prelude.{◌≡◌, refl, Bool, true, false, ℕ}
use Rattle.bits.specs.Choice.{pick}
use Rattle.x86defs.specs.declared.CpuidResult.{CpuidResult}
use Rattle.checks.specs.ExtendedState.{xss_of}
use Rattle.guest.specs.Guest.{size_seen}

-- D.0 and D.1 keep the registers of which the mask is made
pub keeps_eax : (b : Bool) (n : ℕ) (r : CpuidResult) → (pick b (size_seen n r) r).eax ≡ r.eax
keeps_eax true n r = refl
keeps_eax false n r = refl

pub keeps_xss : (b : Bool) (n : ℕ) (r : CpuidResult) → xss_of (pick b (size_seen n r) r) ≡ xss_of r
keeps_xss true n r = refl
keeps_xss false n r = refl
