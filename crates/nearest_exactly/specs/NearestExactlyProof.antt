-- Each answer exactly: what the verdicts on edition, length, counts and reserved bytes decide, then what the search comes to.
use Rattle.std.specs.Prelude.{◌≡◌, refl, List, ℕ, Err, Ok}
use Rattle.std.proofs.Common.{sym, ap, ◌∙◌, subst}
use Rattle.pages.specs.Layout.{entry_at}
use Rattle.table.specs.declared.Choices.{Choices}
use Rattle.table.specs.declared.Refusal.{Refusal}
use Rattle.table.specs.declared.Refusal.TheVariants.{PagesLength, PageCount, MissingRequiredResult, InvlpgbUnavailable, SaveAreaOverflow, TopologyInconsistent, BufferTooShort, ListLength, ListRows, ListFields, StateBeyondTable, CompactSizeTooLarge, UnknownEdition, EditionBack, ReservedBytes, PoolSets, PoolDiffers, NothingDecides}
use Rattle.table.specs.Refusal.{and_then}
use Rattle.build.specs.Build.{edition_verdict, front_verdict}
use Rattle.collect.specs.Lawful.{length_verdict, counts_verdict, reserved_verdict, lawful_verdict}
use Rattle.refusals.specs.Conditions.{EditionFault, LengthFault, CountFault, ReservedFault}
use Rattle.refusals.specs.Settles.{Settles}
use Rattle.refusals.specs.Settles.Settles.{passes, refuses}
use Rattle.refusals.specs.PagesSettled.{edition_decides, length_decides, counts_decide}
use Rattle.refusals.specs.ReservedSettled.{reserved_decides}
use Rattle.nearest.specs.Flips.{flips}
use Rattle.nearest.specs.Changes.{changes}
use Rattle.nearest.specs.Nearest.{first_that, unless_refused, nearest}
use Rattle.nearest_exactly.specs.NearestExactly.{LawfulPages, GivenFor, Answers, NearestExactly}
use Rattle.nearest_exactly.specs.FirstLaws.{Searched, searched, none_found, first_found}
use Rattle.nearest_exactly.specs.FirstLaws.Searched.{found, none}
use Rattle.table.specs.Verdict.{Verdict}

-- a decided condition, read both ways
pub settled_accepts : {F : Refusal → Type 0} {v : Verdict} → Settles F v → ((r : Refusal) → F r → ⊥) → v ≡ Ok tt
settled_accepts (passes e n) h = e
settled_accepts (refuses r e f one) h = absurd (h r f)

pub settled_refuses : {F : Refusal → Type 0} {v : Verdict} (r : Refusal) → Settles F v → F r → v ≡ Err r
settled_refuses r (passes e n) f = absurd (n r f)
settled_refuses r (refuses q e g one) f = e ∙ ap Err (sym (one r f))
