-- `extended_state::xsave_size` meets its contract: the area so far is that of the subleaves below the bits that are left, of which each turn takes
-- the lowest.
use Rattle.checks.specs.SaveAreaLaws.{Growing}
use Rattle.rows.specs.Checked.{registers_in}
use Rattle.rows.proofs.checked.extended_state.xsave_size.Given as goal

abbrev pub invariant-loop-rest : goal.invariant-loop-rest
invariant-loop-rest l = Growing (registers_in l.registers) l.mask l.area l.rest

abbrev pub decreases-loop-rest : goal.decreases-loop-rest
decreases-loop-rest l = l.rest
