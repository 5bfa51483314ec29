-- Of pages that building refuses by 4 the nearest bit is INVLPGB's own: 80000008h.EBX bit 3.
use Rattle.std.proofs.Math.Path.{◌≡◌, refl, ap}
use Rattle.std.proofs.Common.{sym, ◌∙◌, arith}
use Rattle.std.specs.Prelude.{Bool, List, ℕ, ◌<◌, get_or, Ok}
use Rattle.std.proofs.Math.Bool.{true, false}
use Rattle.pages.specs.Layout.{entry_at}
use Rattle.masking.specs.Place
use Rattle.table.specs.declared.Choices.{Choices}
use Rattle.table.specs.declared.Refusal.TheVariants.{InvlpgbUnavailable}
use Rattle.table.specs.Rows.{Rows}
use Rattle.checks.specs.Checks.{missing_required, required_verdict, rows_verdict}
use Rattle.checks.specs.ChecksLaws.{then_left}
use Rattle.collect.specs.Collect.{stored_at}
use Rattle.build.specs.Build.{edition_verdict, front_verdict, rows_for, verdict_of, answer}
use Rattle.build.proofs.BuildLaws.{front_known, front_lawful, front_refused}
use Rattle.refusals.specs.Conditions.{RequiredFault}
use Rattle.refusals.specs.Settles.{Settles}
use Rattle.refusals.specs.Settles.Settles.{passes, refuses}
use Rattle.refusals.specs.RequiredSettled.{required_decides}
use Rattle.table.specs.Numbers.{numbers_of}
use Rattle.nearest.specs.Flips.{flip}
use Rattle.nearest.specs.Nearest.{nearest}
use Rattle.nearest.specs.NearestFrontLaws.{front_refuses, searched}
use Rattle.nearest_exactly.specs.Invlpgb.{invlpgb, not_four}
use Rattle.nearest_exactly.specs.NoDecisiveBit.{without_invlpgb}
use Rattle.table.specs.Verdict.{Verdict}

-- bit 3 of EBX of an entry that is stored as 80000008h's
abbrev pub InvlpgbNearest : Choices → List ℕ → Type 0
InvlpgbNearest c s =
    (p : ℕ) × (q : ℕ) × (stored_at (entry_at s p q) ≡ Place.extended_address_space_sizes) × (nearest c s ≡ Ok (flip p q 1 3))
