-- The topology: the least shift, and every topology up to size seven that is accepted.
-- `answer chosen s` is the answer of the definition (crates/build/specs/Build.antt) to the page bytes s under what the caller chooses.
use Rattle.std.specs.Prelude.{◌≡◌, List, [], ◌∷◌, ℕ, ◌≤◌, ◌<◌, ◌^◌, length, Err, Ok}
use Rattle.x86defs.specs.Functions.{cpuid_result}
use Rattle.table.specs.declared.Choices.{Choices}
use Rattle.table.specs.declared.Refusal.TheVariants.{TopologyInconsistent}
use Rattle.checks.specs.TopologyInputs.{inputs_of}
use Rattle.topology.specs.Topology.{Inputs, inputs, topology_of, shift_of}
use Rattle.topology.specs.TopologyLaws.{LeastShift, shift_least}
use Rattle.topology.specs.ShiftChange.{HighestBit, ShiftChange}
use Rattle.topology.specs.ShiftChangeProof.{three_and_128}
use Rattle.topology.proofs.ShiftChangeProof.{shift_changes}
use Rattle.topologies.specs.Topologies.{accepted_inputs, inputs_bytes, write_topologies}
use Rattle.topologies.specs.TopologyWriteLaws.{list_bytes_lem}
use Rattle.topology_list.specs.Listed.{In, Determined, Counted as TopologiesCounted}
use Rattle.topology_list.proofs.ListedProof.{determined, counted as topologies-counted}
use Rattle.topology_list.specs.Builds.{BuildsListed, inputs_for}
use Rattle.topology_list.proofs.BuildsProof.{builds_listed}
use Rattle.topology_list.specs.Writes.{writes_exactly as topologies-write-exactly}
use Rattle.examples.specs.TopologyExamples as Topologies
use Rattle.build.specs.Build.{rows_for, answer}
use Rattle.rise.specs.Levels.{AcceptedLevels}
use Rattle.rise.proofs.LevelsProof.{accepted_levels}
use Rattle.buffer.specs.WritesExactly.{FrontExactly}
use Rattle.topology.specs.declared.TopologyError.TheVariants.{ProcessorCount}
use Rattle.page_sets.specs.Evaluation.{first_edition}
use Rattle.examples.specs.Chain as Chain

-- ---- P5: three processors need two bits. crates/topology/specs/Topology.antt, ShiftChange.antt.

-- the shift of v processors, v at least 1: its power of two is at least v, and no lower number's is
pub shift_is_least : (v : ℕ) → 0 < v → v ≤ 2 ^ 32 → LeastShift v (shift_of v)
shift_is_least = shift_least

-- of an accepted topology it is the place of the highest one bit of v, but where v comes from the legacy method and is no power of two: there
-- it is one more
pub shift_changed_only_there : (i : Inputs) (v p : ℕ) → i.lps < 256 → i.s < 16 → topology_of i ≡ Ok v → HighestBit v p → ShiftChange i v p
shift_changed_only_there = shift_changes

-- both happen: three processors, and 128
pub three_need_two_bits : shift_of 3 ∷ shift_of 128 ∷ [] ≡ 2 ∷ 7 ∷ []
three_need_two_bits = three_and_128

-- ---- P14: every lawful topology up to size seven. crates/topologies/specs/Topologies.antt has the list, from the topology's own definition, and
-- what writing it answers; crates/topology_list/specs/Listed.antt what P14 asks of a list.

-- each accepted input with s up to 7 stands in the list, no other does, and they ascend by s, nc, lps, mt and t, so that none stands twice; any list
-- of which this is true is the list
pub topologies_determined : Determined
topologies_determined = determined

-- there are 1,019: 511 for s = 0 and 508 above, five bytes each
pub topologies_1019 : TopologiesCounted accepted_inputs
topologies_1019 = topologies-counted

pub topologies_5095_bytes : length (inputs_bytes accepted_inputs) ≡ 5095
topologies_5095_bytes = list_bytes_lem

-- 9 exactly where the buffer is shorter, and then every lent byte is as it was; else the list is at its front, and the bytes beyond it are as
-- they were
pub each_topologies_write_exactly : (buffer : List ℕ) → FrontExactly (Ok tt) (inputs_bytes accepted_inputs) buffer (write_topologies buffer)
each_topologies_write_exactly = topologies-write-exactly

-- a page set with s up to 7 is accepted if and only if no check before the topology's refuses it and its inputs are listed; its table's B.0 and B.1
-- are then those of the listed input. crates/topology_list/specs/Builds.antt
pub building_accepts_the_listed : (chosen : Choices) (s : List ℕ) → BuildsListed chosen s
building_accepts_the_listed = builds_listed

-- Examples: whole page sets with three processors and with 128, each with its inputs, which are listed, and its B.0 and B.1; nc = 255 with
-- s = 0 is refused by 7 and not listed. crates/examples/specs/TopologyExamples.antt
pub three_processors_listed : (inputs_for first_edition Topologies.three_processors ≡ inputs 0 2 3 1 1)
    × ((answer first_edition Topologies.three_processors).verdict ≡ Ok tt)
    × In (inputs 0 2 3 1 1) accepted_inputs
    × (Topologies.levels_of Topologies.three_processors ≡ cpuid_result 1 2 0x100 0 ∷ cpuid_result 2 3 0x201 0 ∷ [])
three_processors_listed = (Topologies.three_inputs, Topologies.three_accepted, Topologies.three_listed, Topologies.three_levels)

pub largest_listed : (inputs_for first_edition Topologies.largest_server ≡ inputs 7 127 128 1 1)
    × ((answer first_edition Topologies.largest_server).verdict ≡ Ok tt)
    × In (inputs 7 127 128 1 1) accepted_inputs
    × (Topologies.levels_of Topologies.largest_server ≡ cpuid_result 1 2 0x100 0 ∷ cpuid_result 7 128 0x201 0 ∷ [])
largest_listed = (Topologies.largest_inputs, Topologies.largest_accepted, Topologies.largest_listed, Topologies.largest_levels)

pub nc_255_not_listed : (inputs_for first_edition Topologies.wrapped_server ≡ inputs 0 255 0 1 0)
    × ((answer first_edition Topologies.wrapped_server).verdict ≡ Err (TopologyInconsistent (ProcessorCount 0)))
    × (In (inputs 0 255 0 1 0) accepted_inputs → ⊥)
nc_255_not_listed = (Topologies.wrapped_inputs, Topologies.wrapped_refused, Topologies.wrapped_unlisted)

-- of any accepted table, whatever s: B.0 and B.1 by the five inputs. v is 1, lps = nc + 1 or 2^s, EBX of B.1 is v and EAX the least k with 2^k at
-- least v. crates/rise/specs/Levels.antt
pub any_levels : (chosen : Choices) (s : List ℕ) → (answer chosen s).verdict ≡ Ok tt
    → AcceptedLevels (inputs_of (rows_for chosen s)) (answer chosen s).table
any_levels = accepted_levels

-- an example with s = 8, beyond the list: 256 processors. crates/examples/specs/Chain.antt
pub eight_levels : Chain.levels_of (answer first_edition Chain.eight).table ≡ cpuid_result 0 1 0x100 0 ∷ cpuid_result 8 256 0x201 0 ∷ []
eight_levels = Chain.eight_figures
