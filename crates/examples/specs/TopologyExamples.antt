-- Examples: whole page sets with five given inputs, by computation. Three processors with two threads a unit and 128 are listed; nc = 255 with
-- s = 0, whose lps would be 256, is not.
use Rattle.std.specs.Prelude.{◌≡◌, refl, false, List, [], ◌∷◌, ◌++◌, ℕ, ◌+◌, ◌*◌, ◌^◌, ◌<◌, Err, Ok}
use Rattle.std.proofs.Common.{sym, ap, ap₂, ◌∙◌, lit<}
use Rattle.std.proofs.lemmas.Bool.{false≢true}
use Rattle.x86defs.specs.declared.CpuidResult.{CpuidResult}
use Rattle.x86defs.specs.Functions.{cpuid_result}
use Rattle.topology.specs.declared.TopologyError.TheVariants.{ProcessorCount}
use Rattle.topology.specs.Topology.{Inputs, inputs, topology_of, threads_in, processors, least_power, shift_of, thread_level, core_level}
use Rattle.table.specs.declared.Refusal.TheVariants.{TopologyInconsistent}
use Rattle.table.specs.Rows.{Row}
use Rattle.checks.specs.TopologyInputs.{inputs_of}
use Rattle.build.specs.Build.{answer}
use Rattle.topologies.specs.Topologies.{accepts, accepted_inputs}
use Rattle.topology_list.specs.Listed.{In}
use Rattle.topology_list.proofs.ListedProof.{determined}
use Rattle.topology_list.specs.Builds.{inputs_for}
use Rattle.topology_list.proofs.BuildsProof.{builds_listed}
use Rattle.page_sets.specs.PageSets.{entry, page, required_entries, state_entries}
use Rattle.page_sets.specs.Pass.{passed_for}
use Rattle.page_sets.specs.PassLaws.{rows_passed, verdict_passed}
use Rattle.page_sets.specs.Evaluation.{first_edition, passed}
use Rattle.examples.specs.Chain as Chain

-- server A with entries of leaves 1, 80000008h and 8000001Eh before all others, in which the five inputs stand
abbrev with_inputs : Inputs → List ℕ
with_inputs i =
    page 25
    (entry 1 0 0xA00F11 (i.lps * 2 ^ 16) 0x3ED83203 (0x78BFBFF + i.mt * 2 ^ 28)
    ++ entry 0x80000008 0 0x3030 0x111ED21F (i.s * 2 ^ 12 + i.nc) 0x10007
    ++ entry 0x8000001E 0 0 (i.t * 2 ^ 8) 0 0
    ++ required_entries 0x3ED83203 0x219C07A9 0x3F)
    ++ page 3 (state_entries 0x7 0x7 0)

-- the inputs, of entries that are read in one pass
inputs_passed : (s : List ℕ) → inputs_for first_edition s ≡ inputs_of (passed_for first_edition s)
inputs_passed s = ap inputs_of (rows_passed false s)

-- B.0 and B.1
abbrev pub levels_of : List ℕ → List CpuidResult
levels_of s = Chain.levels_of (answer first_edition s).table

-- an accepted set with s up to 7: its inputs are listed, and its B.0 and B.1 are those of its inputs
module _ (s : List ℕ) (i : Inputs) (e : inputs_for first_edition s ≡ i) where
  listed : i.s < 8 → (answer first_edition s).verdict ≡ Ok tt → In i accepted_inputs
  listed h a = rw e at (((builds_listed first_edition s).accepted (rw e h)).0 a).1

  levels : {v : ℕ} → In i accepted_inputs → (answer first_edition s).verdict ≡ Ok tt → topology_of i ≡ Ok v
      → levels_of s ≡ thread_level i.t ∷ core_level v ∷ []
  levels p a o =
      let l = (builds_listed first_edition s).levels a (rw e p) in
      let same = ap processors (sym l.processors ∙ ap topology_of e ∙ o) in
      ap₂ (λ (x y : CpuidResult). x ∷ y ∷ [])
      (ap (λ (r : Row). r.result) l.threads ∙ ap (λ (j : Inputs). thread_level j.t) e)
      (ap (λ (r : Row). r.result) l.cores ∙ ap core_level same)

-- ---- three processors

abbrev pub three : Inputs
three = inputs 0 2 3 1 1

unfoldable pub three_processors : List ℕ
three_processors = with_inputs three

pub three_inputs : inputs_for first_edition three_processors ≡ three
unfolding passed three_processors
three_inputs = inputs_passed three_processors

pub three_accepted : (answer first_edition three_processors).verdict ≡ Ok tt
unfolding passed three_processors
three_accepted = verdict_passed first_edition three_processors

pub three_listed : In three accepted_inputs
three_listed = listed three_processors three three_inputs (lit< tt) three_accepted

pub three_levels : levels_of three_processors ≡ cpuid_result 1 2 0x100 0 ∷ cpuid_result 2 3 0x201 0 ∷ []
unfolding topology_of threads_in shift_of least_power
three_levels = levels three_processors three three_inputs three_listed three_accepted refl

-- ---- the largest, 128

abbrev pub largest : Inputs
largest = inputs 7 127 128 1 1

unfoldable pub largest_server : List ℕ
largest_server = with_inputs largest

pub largest_inputs : inputs_for first_edition largest_server ≡ largest
unfolding passed largest_server
largest_inputs = inputs_passed largest_server

pub largest_accepted : (answer first_edition largest_server).verdict ≡ Ok tt
unfolding passed largest_server
largest_accepted = verdict_passed first_edition largest_server

pub largest_listed : In largest accepted_inputs
largest_listed = listed largest_server largest largest_inputs (lit< tt) largest_accepted

pub largest_levels : levels_of largest_server ≡ cpuid_result 1 2 0x100 0 ∷ cpuid_result 7 128 0x201 0 ∷ []
unfolding topology_of threads_in shift_of least_power
largest_levels = levels largest_server largest largest_inputs largest_listed largest_accepted refl

-- ---- nc = 255 with s = 0 and an lps of 0, as nc + 1 in eight bits would have it

abbrev pub wrapped : Inputs
wrapped = inputs 0 255 0 1 0

unfoldable pub wrapped_server : List ℕ
wrapped_server = with_inputs wrapped

pub wrapped_inputs : inputs_for first_edition wrapped_server ≡ wrapped
unfolding passed wrapped_server
wrapped_inputs = inputs_passed wrapped_server

pub wrapped_refused : (answer first_edition wrapped_server).verdict ≡ Err (TopologyInconsistent (ProcessorCount 0))
unfolding passed wrapped_server
wrapped_refused = verdict_passed first_edition wrapped_server

wrapped_rejected : accepts wrapped ≡ false
unfolding accepts topology_of
wrapped_rejected = refl

pub wrapped_unlisted : In wrapped accepted_inputs → ⊥
wrapped_unlisted p = false≢true (sym wrapped_rejected ∙ (determined.has.no_other wrapped p).1)
