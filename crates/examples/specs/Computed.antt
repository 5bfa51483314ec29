-- Examples: a whole page set that is accepted, and a pair for each outcome of demand 3, all by computation.
use Rattle.std.specs.Prelude.{◌≡◌, refl, [], ◌∷◌, length, Err, Ok, Some}
use Rattle.std.proofs.Common.{ap, ap₂}
use Rattle.x86defs.specs.Functions.{ExtendedStateEnumeration}
use Rattle.table.specs.declared.CpuidResults.{CpuidResults}
use Rattle.table.specs.declared.Refusal.TheVariants.{MissingRequiredResult, SaveAreaOverflow}
use Rattle.build.specs.Build.{answer}
use Rattle.rise.specs.Rise.{RiseHypothesis}
use Rattle.page_sets.specs.PageSets.{server_a, server_b, server_without_d12, server_with_large_d6}
use Rattle.page_sets.specs.PassLaws.{lawful_passed, verdict_passed, table_passed}
use Rattle.page_sets.specs.Evaluation.{first_edition, passed}
use Rattle.examples.specs.RisePassed.{passed_compared, rises_passed}

-- 8,192 bytes, accepted: 27 rows, AVX state
pub server_a_length : length server_a ≡ 8192
unfolding server_a
server_a_length = refl

pub server_a_accepted : (answer first_edition server_a).verdict ≡ Ok tt
unfolding passed server_a
server_a_accepted = verdict_passed first_edition server_a

pub server_a_rows : (answer first_edition server_a).table.row_count ≡ 27
unfolding passed server_a
server_a_rows = ap (λ (t : CpuidResults). t.row_count) (table_passed first_edition server_a server_a_accepted)

-- B meets the hypothesis, is accepted, and is strictly richer
pub server_b_rises : RiseHypothesis first_edition server_a server_b
unfolding passed passed_compared server_a server_b
server_b_rises = rises_passed first_edition server_a server_b server_a_accepted (lawful_passed server_b) refl

pub server_b_accepted : (answer first_edition server_b).verdict ≡ Ok tt
unfolding passed server_b
server_b_accepted = verdict_passed first_edition server_b

pub masks : (answer first_edition server_a).table.max_extended_state ∷ (answer first_edition server_b).table.max_extended_state ∷ [] ≡ 0x7 ∷ 0x18E7 ∷ []
unfolding passed server_a server_b
masks =
    ap₂ (λ (t u : CpuidResults). t.max_extended_state ∷ u.max_extended_state ∷ []) (table_passed first_edition server_a server_a_accepted)
    (table_passed first_edition server_b server_b_accepted)

-- without D.12: the hypothesis holds, and B is refused by 3
pub without_rises : RiseHypothesis first_edition server_a server_without_d12
unfolding passed passed_compared server_a server_without_d12
without_rises = rises_passed first_edition server_a server_without_d12 server_a_accepted (lawful_passed server_without_d12) refl

pub without_refused : (answer first_edition server_without_d12).verdict ≡ Err (MissingRequiredResult ExtendedStateEnumeration (Some 12))
unfolding passed server_without_d12
without_refused = verdict_passed first_edition server_without_d12

-- with D.6 too large: the hypothesis holds, and B is refused by 5
pub large_rises : RiseHypothesis first_edition server_a server_with_large_d6
unfolding passed passed_compared server_a server_with_large_d6
large_rises = rises_passed first_edition server_a server_with_large_d6 server_a_accepted (lawful_passed server_with_large_d6) refl

pub large_refused : (answer first_edition server_with_large_d6).verdict ≡ Err SaveAreaOverflow
unfolding passed server_with_large_d6
large_refused = verdict_passed first_edition server_with_large_d6
