-- `validate_invlpgb` meets its contract: the test is the definition's.
use Rattle.checks.proofs.validate_invlpgb.Goals as goal

pub returns-then-invlpgb : goal.returns-then-invlpgb
returns-then-invlpgb c = rw (← c.invlpgb.ensures, c.if-invlpgb.true)

pub returns : goal.returns
returns c = rw (← c.invlpgb.ensures, c.if-invlpgb.false)
