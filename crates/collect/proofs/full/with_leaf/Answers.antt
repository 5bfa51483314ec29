-- `collect::full::with_leaf` meets its contract: a leaf that is full comes with its bit, by the law `leaves_with`.
use Rattle.collect.proofs.FullLaws.{number_bit, leaves_with}
use Rattle.collect.proofs.full.with_leaf.Goals as goal

pub returns-then-is_full : goal.returns-then-is_full
returns-then-is_full c =
    rw (number_bit c.args.leaf)
    (record { leaves = λ k h. leaves_with _ _ _ k h (c.is_full.ensures.full c.if-is_full.true k h) })
