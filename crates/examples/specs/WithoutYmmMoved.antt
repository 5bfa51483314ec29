-- Examples: the server without YMM state (XFEM 3) whose entries have F16C, XOP and FMA4, its live guest moved from edition 1 to edition 2,
-- by computation; and each refusal.
use Rattle.std.specs.Prelude.{◌≡◌, refl, List, [], ◌∷◌, ℕ, Err, Ok}
use Rattle.std.proofs.Common.{ap, ◌∙◌}
use Rattle.masking.specs.Place
use Rattle.table.specs.declared.CpuidResults.{CpuidResults}
use Rattle.table.specs.declared.Refusal.TheVariants.{StateBeyondTable}
use Rattle.table.specs.Edition.{known_edition}
use Rattle.table.specs.Table.{empty_table, row_in, rows_of_table}
use Rattle.build.specs.Build.{answer}
use Rattle.guest_state.specs.State.{state_verdict}
use Rattle.rise.specs.RiseProof.{answer_table}
use Rattle.page_sets.specs.Evaluation.{first_edition}
use Rattle.examples.specs.WithoutYmm.{without_ymm, first_accepted, second_figures}
use Rattle.examples.specs.SeenExamples.{viewed, built, state_passed}
use Rattle.table.specs.declared.Refusal.TheVariants.{UnknownEdition, EditionBack}
use Rattle.carry.specs.Carry.{carry_verdict, carry}
use Rattle.images.proofs.MovesProof.{moves_to_second}
use Rattle.table.specs.Verdict.{Verdict}

abbrev pub running : CpuidResults
running = (answer first_edition without_ymm).table

-- the state's verdict, from the table's own rows
state : (xcr0 xss : ℕ) {w : Verdict} → state_verdict (rows_of_table (built first_edition without_ymm)) xcr0 xss ≡ w → (carry running 1 2 xcr0 xss).verdict ≡ w
state xcr0 xss e =
    (moves_to_second first_edition without_ymm xcr0 xss first_accepted).verdict
    ∙ ap (λ (t : CpuidResults). state_verdict (rows_of_table t) xcr0 xss) (answer_table first_edition without_ymm first_accepted)
    ∙ e

in_use_lem : state_verdict (rows_of_table (built first_edition without_ymm)) 3 0 ≡ Ok tt
unfolding viewed without_ymm
in_use_lem = state_passed first_edition without_ymm 3 0

beyond_xfem : state_verdict (rows_of_table (built first_edition without_ymm)) 7 0 ≡ Err StateBeyondTable
unfolding viewed without_ymm
beyond_xfem = state_passed first_edition without_ymm 7 0

-- a guest with x87 and SSE state in use moves
pub moved : (carry running 1 2 3 0).verdict ≡ Ok tt
moved = state 3 0 in_use_lem

-- 1.ECX and 80000001h.ECX are then edition 2's: 8ED82203h and 4001F3h
abbrev pub figures : CpuidResults → List ℕ
figures t = (row_in t Place.version_and_features).result.ecx ∷ (row_in t Place.extended_version_and_features).result.ecx ∷ []

pub moved_figures : figures (carry running 1 2 3 0).table ≡ 0x8ED82203 ∷ 0x4001F3 ∷ []
moved_figures = ap figures ((moves_to_second first_edition without_ymm 3 0 first_accepted).table moved) ∙ second_figures

-- a processor with YMM state, which this server does not give
pub beyond : (carry running 1 2 7 0).verdict ≡ Err StateBeyondTable
beyond = state 7 0 beyond_xfem

-- back to edition 1, and to an edition that there is not, also of an empty table
pub goes_back : (carry empty_table 2 1 0 0).verdict ≡ Err EditionBack
unfolding carry carry_verdict known_edition
goes_back = refl

pub no_such : (carry empty_table 3 1 0 0).verdict ≡ Err UnknownEdition
unfolding carry carry_verdict known_edition
no_such = refl
