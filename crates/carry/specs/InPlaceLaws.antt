-- Carrying in place by the code's returns and by its two stores.
use Rattle.std.specs.Prelude.{◌≡◌, refl, Bool, true, false, Err, Ok}
use Rattle.std.proofs.Math.Path.{ap}
use Rattle.bits.specs.Choice.{pick}
use Rattle.bits.specs.ChoiceLaws.{never_both}
use Rattle.x86defs.specs.Functions.{cpuid_result}
use Rattle.table.specs.declared.Refusal.{Refusal}
use Rattle.table.specs.Rows.{Row}
use Rattle.table.specs.Verdict.{Verdict}

-- a verdict is not both
abbrev is_accepted : Verdict → Bool
is_accepted (Ok _) = true
is_accepted (Err r) = false

pub not_accepted : {r : Refusal} → ◌≡◌ {A = Verdict} (Err r) (Ok tt) → ⊥
not_accepted e = never_both (ap is_accepted e) refl

-- ---- the rows that are there

abbrev pub own_of : Row → Row
own_of r = record { present = r.present; result = pick r.present r.result (cpuid_result 0 0 0 0) }
