-- Examples: a pair of page sets for each answer of a comparison.
use Rattle.std.specs.Prelude.{◌≡◌, refl, [], None, Some}
use Rattle.std.proofs.Common.{sym}
use Rattle.x86defs.specs.Functions.{VersionAndFeatures, ExtendedStateEnumeration}
use Rattle.pages.specs.Layout.{bad_length}
use Rattle.table.specs.declared.Refusal.TheVariants.{PagesLength, SaveAreaOverflow}
use Rattle.collect.proofs.LawfulLaws.{lawful_bad_length}
use Rattle.compare.specs.declared.registers.Register.TheVariants.{Ecx}
use Rattle.compare.specs.declared.Compared.TheVariants.{Rises, RefusedA, UnlawfulB, NoEntry, Differs}
use Rattle.compare.specs.Compare.{compared}
use Rattle.compare.proofs.CompareLaws.{refused_a, unlawful_b}
use Rattle.compare.proofs.DecidesProof.{decides}
use Rattle.page_sets.specs.PageSets.{server_a, server_b, server_without_d12, server_with_large_d6}
use Rattle.page_sets.specs.PassLaws.{lawful_passed}
use Rattle.page_sets.specs.Evaluation.{first_edition, passed}
use Rattle.examples.specs.RisePassed.{passed_compared, compared_passed}
use Rattle.examples.specs.Computed.{server_a_accepted, server_b_rises, server_b_accepted, large_refused}

-- a guest of A may move to B
pub a_to_b : compared first_edition server_a server_b ≡ Rises
a_to_b = (decides first_edition server_a server_b).complete server_b_rises

-- not back: B's 1.ECX has more
pub b_to_a : compared first_edition server_b server_a ≡ Differs VersionAndFeatures None Ecx
unfolding passed passed_compared server_a server_b
b_to_a = compared_passed first_edition server_b server_a server_b_accepted (lawful_passed server_a)

-- B's table has D.12
pub b_to_without_d12 : compared first_edition server_b server_without_d12 ≡ NoEntry ExtendedStateEnumeration (Some 12)
unfolding passed passed_compared server_b server_without_d12
b_to_without_d12 = compared_passed first_edition server_b server_without_d12 server_b_accepted (lawful_passed server_without_d12)

-- a server that is refused has no guest
pub from_large_d6 : compared first_edition server_with_large_d6 server_b ≡ RefusedA SaveAreaOverflow
from_large_d6 = sym (refused_a first_edition server_with_large_d6 server_b large_refused)

-- no pages at all
pub a_to_none : compared first_edition server_a [] ≡ UnlawfulB PagesLength
unfolding bad_length
a_to_none = sym (unlawful_b first_edition server_a [] server_a_accepted (sym (lawful_bad_length [] refl)))
