-- Examples: three refused page sets, each with the bytes of its line. Reading such a line gives the refusal back.
use Rattle.pages.specs.Bytes.{bytes_at}
use Rattle.topology.specs.declared.TopologyError.TheVariants.{ThreadsPerUnit}
use Rattle.table.specs.declared.Refusal.TheVariants.{TopologyInconsistent}
use Rattle.page_sets.specs.Evaluation.{first_edition}
use Rattle.refusals.specs.Lined.{Lined}
use Rattle.refusals.proofs.LinedProof.{building_lined}
use Rattle.refusals.specs.RefusedLines.{threads_bytes, threads_refused, two_threads}

pub threads_lined : Lined (TopologyInconsistent ThreadsPerUnit)
threads_lined = building_lined first_edition two_threads (bytes_at two_threads threads_bytes) (TopologyInconsistent ThreadsPerUnit) threads_refused
