-- Building accepts what is listed, and makes B.0 and B.1 of it.
use Rattle.std.specs.Prelude.{◌≡◌, refl, true, List, ℕ, ◌<◌, Err, Ok, Result}
use Rattle.std.proofs.Math.Path.{sym}
use Rattle.std.proofs.Common.{ap, ◌∙◌, arith, lit<}
use Rattle.std.proofs.lemmas.Bool.{false≢true}
use Rattle.bits.specs.ChoiceLaws.{pick_true}
use Rattle.bits.specs.BitsLaws.{field_lt, bit_lt}
use Rattle.topology.specs.Topology.{topology_of, processors}
use Rattle.masking.specs.Kept.{places}
use Rattle.masking.specs.Place
use Rattle.table.specs.declared.Choices.{Choices}
use Rattle.table.specs.Refusal.{and_then}
use Rattle.table.specs.Rows.{Rows, row}
use Rattle.table.specs.Table.{row_in}
use Rattle.checks.specs.Checks.{topology_refusal, topology_verdict, rows_verdict}
use Rattle.checks.specs.ChecksLaws.{then_left, then_right, then_accepted}
use Rattle.checks.specs.TopologyInputs.{inputs_of}
use Rattle.finish.specs.Finish.{rule_at, settings, finish, finished}
use Rattle.finish.specs.PlaceLaws.{always}
use Rattle.finish.specs.RemainsLaws.{finished_present}
use Rattle.build.specs.Build.{rows_for, verdict_of, answer}
use Rattle.rise.specs.RiseProof.{answer_row}
use Rattle.rise.specs.BuiltLaws.{always_finished}
use Rattle.topologies.specs.Topologies.{consistent, accepts, accepted_inputs}
use Rattle.topology_list.specs.Listed.{In, FieldsFit}
use Rattle.topology_list.specs.Builds.{inputs_for, before_topology, Levels, BuildsListed}
use Rattle.table.specs.Verdict.{Verdict}
use Rattle.topology.specs.declared.TopologyError.{TopologyError}

-- ---- the topology's check is the list's

pub fits : (m : Rows) → (inputs_of m).s < 8 → FieldsFit (inputs_of m)
unfolding inputs_of
fits m h = record { s = omega arith; nc = field_lt 0 8 _; lps = field_lt 16 8 _; mt = bit_lt _ _; t = field_lt 8 8 _ }

pub verdict_accepts : (o : Result ℕ TopologyError) → topology_refusal o ≡ Ok tt → consistent o ≡ true
verdict_accepts (Ok v) e = refl
verdict_accepts (Err x) e = cc

pub accepts_verdict : (o : Result ℕ TopologyError) → consistent o ≡ true → topology_refusal o ≡ Ok tt
accepts_verdict (Ok v) e = refl
accepts_verdict (Err x) e = absurd (false≢true e)

-- v, where there is one
pub given : (o : Result ℕ TopologyError) → consistent o ≡ true → o ≡ Ok (processors o)
given (Ok v) e = refl
given (Err x) e = absurd (false≢true e)

pub then_joins : (a b c : Verdict) → and_then (and_then a b) c ≡ and_then a (and_then b c)
then_joins (Ok _) b c = refl
then_joins (Err r) b c = refl
