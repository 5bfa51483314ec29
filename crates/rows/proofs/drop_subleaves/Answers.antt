-- `drop_subleaves` meets its contract: a turn takes the lowest subleaf that is left of the mask, and drops what stands before it where it stays.
use borrow.Author.Rules.{rules}
use mathlib.Core.Path.{◌≡◌, refl, ◌∙◌}
use Prim.Native.Nat.{◌<◌}
use native.Mathlib.Omega.{arith}
use lib.Count.{count_trailing_zeros}
use lib.ListN.{length}
use Rattle.checks.specs.LowestLaws.{left_starts}
use Rattle.rows.specs.DropLaws.{running_starts, taken, running_from, running_stays, running_goes, running_ends, dropping_ends}
use Rattle.rows.proofs.drop_subleaves.Goals as goal
use Rattle.rows.proofs.drop_subleaves.Goals.{At-loop-rest, In-loop-rest, then-is_there, else-is_there}

pub loop-rest-init : goal.loop-rest-init
loop-rest-init c = running_starts _ _ _ c.requires.0 (left_starts _ (search rules))

-- a turn takes the lowest bit
inside : (c : In-loop-rest) → count_trailing_zeros 64 c.loop-rest.rest < 64
inside c = (taken _ _ _ c.loop-rest.invariant c.requires.1 c.loop-rest-test.true).inside

-- and where it came to
size : (c : At-loop-rest) → length c.loop-rest.origins ≡ 88
size c = c.loop-rest.invariant.done.origins.size ∙ c.requires.1

pub drop_run-requires : goal.drop_run-requires
drop_run-requires c =
    (running_from _ _ _ c.loop-rest.invariant c.requires.1 c.loop-rest-test.true, omega (arith, inside (goal.at.drop_run-requires c).In-loop-rest), size (goal.at.drop_run-requires c).At-loop-rest)

pub loop-rest-preserved : goal.loop-rest-preserved
loop-rest-preserved c =
    let d = c.loop-rest.invariant in let o = c.requires.1 in let n = c.loop-rest-test.true in
    elim c.if-is_there.branch [
      | then-is_there w ↦
          rw (w.k-is, w.registers-is, w.origins-is)
          (running_stays _ _ _ d o n c.is_there.ensures w.if-is_there.true w.drop_run.ensures.0 w.drop_run.ensures.1)
      | else-is_there w ↦
          rw (w.k-is, w.registers-is, w.origins-is) (running_goes _ _ _ d o n c.is_there.ensures w.if-is_there.false)
    ]

pub returns : goal.returns
returns c =
    let o = c.requires.1 in
    dropping_ends _ _ _ 64 refl o (running_ends _ _ _ c.loop-rest.invariant o c.loop-rest-test.false c.drop_run-2.ensures.0 c.drop_run-2.ensures.1)
