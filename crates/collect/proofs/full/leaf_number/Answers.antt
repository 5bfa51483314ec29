-- `collect::full::leaf_number` meets its contract, by the laws of a leaf's number.
use Rattle.collect.specs.FullLaws.{number_lt, number_32}
use Rattle.collect.proofs.full.leaf_number.Goals as goal

pub returns : goal.returns
returns c = record { value = number_32 _; small = rw (number_32 c.args.leaf) (number_lt c.args.leaf) }
