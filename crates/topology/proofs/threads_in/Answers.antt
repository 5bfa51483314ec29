-- `topology::threads_in` meets its contract: each return is one case of `threads_in`.
use Rattle.topology.specs.TopologyLaws.{threads_above_one, threads_too_many, threads_fit}
use Rattle.topology.proofs.threads_in.Goals as goal

pub returns-then-t-gt1 : goal.returns-then-t-gt1
returns-then-t-gt1 c = threads_above_one _ _ c.if-t-gt1.true

pub returns-then-v-t : goal.returns-then-v-t
returns-then-v-t c = threads_too_many _ _ c.if-t-gt1.false c.if-v-t.true

pub returns : goal.returns
returns c = threads_fit _ _ c.if-t-gt1.false c.if-v-t.false
