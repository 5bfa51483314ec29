-- Examples. Three servers, each with more state than the one before, and the move from the first to the last that composing gives. And a server with
-- s = 8: the list of topologies (P14) ends at 7.
use Rattle.std.specs.Prelude.{◌≡◌, refl, List, [], ◌∷◌, ℕ, Ok}
use Rattle.std.proofs.Common.{ap}
use Rattle.x86defs.specs.declared.CpuidResult.{CpuidResult}
use Rattle.x86defs.specs.Functions.{cpuid_result}
use Rattle.masking.specs.Place
use Rattle.table.specs.declared.CpuidResults.{CpuidResults}
use Rattle.table.specs.Table.{row_in}
use Rattle.build.specs.Build.{rows_for, answer}
use Rattle.checks.specs.TopologyInputs.{inputs_of}
use Rattle.rise.specs.Rise.{RiseHypothesis}
use Rattle.rise.proofs.PreorderProof.{rises_compose}
use Rattle.rise.specs.Levels.{AcceptedLevels}
use Rattle.rise.proofs.LevelsProof.{accepted_levels}
use Rattle.page_sets.specs.PageSets.{entry, with_first, server_a, server_b, server_w}
use Rattle.page_sets.specs.PassLaws.{lawful_passed, verdict_passed, table_passed}
use Rattle.page_sets.specs.Evaluation.{first_edition, passed}
use Rattle.examples.specs.RisePassed.{passed_compared, rises_passed}
use Rattle.examples.specs.Computed.{server_b_rises}

-- ---- servers W, A and B

pub w_accepted : (answer first_edition server_w).verdict ≡ Ok tt
unfolding passed server_w
w_accepted = verdict_passed first_edition server_w

pub w_to_a : RiseHypothesis first_edition server_w server_a
unfolding passed passed_compared server_w server_a
w_to_a = rises_passed first_edition server_w server_a w_accepted (lawful_passed server_a) refl

-- x87 and SSE state alone; A has 7, B 18E7h (Computed.antt, `masks`)
pub w_mask : (answer first_edition server_w).table.max_extended_state ≡ 0x3
unfolding passed server_w
w_mask = ap (λ (t : CpuidResults). t.max_extended_state) (table_passed first_edition server_w w_accepted)

pub w_to_b : RiseHypothesis first_edition server_w server_b
w_to_b = rises_compose first_edition server_w server_a server_b w_to_a server_b_rises

-- ---- s = 8: 256 processors, a shift of 8, and one thread a core

unfoldable pub eight : List ℕ
eight = with_first (entry 0x80000008 0 0x3030 0x111ED21F 0x8000 0x10007)

pub eight_accepted : (answer first_edition eight).verdict ≡ Ok tt
unfolding passed eight
eight_accepted = verdict_passed first_edition eight

pub eight_levels : AcceptedLevels (inputs_of (rows_for first_edition eight)) (answer first_edition eight).table
eight_levels = accepted_levels first_edition eight eight_accepted

abbrev pub levels_of : CpuidResults → List CpuidResult
levels_of t = (row_in t Place.thread_level).result ∷ (row_in t Place.core_level).result ∷ []

pub eight_figures : levels_of (answer first_edition eight).table ≡ cpuid_result 0 1 0x100 0 ∷ cpuid_result 8 256 0x201 0 ∷ []
unfolding passed eight
eight_figures = ap levels_of (table_passed first_edition eight eight_accepted)
