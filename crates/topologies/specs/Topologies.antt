-- Document 02, P14: "all accepted inputs (s, nc, lps, mt, t) with s from 0 to 7, ordered by s, nc, lps, mt, t in turn, five bytes each". nc, lps and
-- t are fields of eight bits and mt is one bit (document 01, "Corners of snp.rs"); an input is accepted where the topology's own definition gives a
-- number of processors. crates/topology_list/specs/Listed.antt says what P14 asks of the list, and that no other list has it.
use Rattle.std.specs.Prelude.{Bool, true, false, List, [], ◌∷◌, ◌++◌, ℕ, Err, Ok, Result}
use Rattle.bits.specs.Choice.{pick}
use Rattle.topology.specs.Topology.{Inputs, inputs, topology_of}
use Rattle.buffer.specs.Front.{AfterWrite, write_front}
use Rattle.topologies.specs.Gather.{gather}
use Rattle.topology.specs.declared.TopologyError.{TopologyError}

abbrev pub consistent : Result ℕ TopologyError → Bool
consistent (Ok v) = true
consistent (Err e) = false

unfoldable pub accepts : Inputs → Bool
accepts i = consistent (topology_of i)

-- an input where it is accepted, else nothing
unfoldable pub if_accepted : Inputs → List Inputs
if_accepted i = pick (accepts i) (i ∷ []) []

-- those of one s and one nc, by lps, mt and t in turn
unfoldable pub accepted_at : ℕ → ℕ → List Inputs
accepted_at s nc = gather 256 (λ lps. gather 2 (λ mt. gather 256 (λ t. if_accepted (inputs s nc lps mt t))))

-- those of one s, by nc
unfoldable pub accepted_of : ℕ → List Inputs
accepted_of s = gather 256 (accepted_at s)

-- all of them, by s
unfoldable pub accepted_inputs : List Inputs
accepted_inputs = gather 8 accepted_of

-- "five bytes each"
unfoldable pub inputs_bytes : List Inputs → List ℕ
inputs_bytes [] = []
inputs_bytes (i ∷ is) = (i.s ∷ i.nc ∷ i.lps ∷ i.mt ∷ i.t ∷ []) ++ inputs_bytes is

-- "Bytes beyond the list stay. Answers: 9 fewer than 5,095 lent bytes, which then stay untouched": what a write at the front answers and leaves
abbrev pub write_topologies : List ℕ → AfterWrite
write_topologies buffer = write_front (inputs_bytes accepted_inputs) buffer
