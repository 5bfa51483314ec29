-- `kvm_import::list_checks::bad_list_length` meets its contract: the length against the count, over unbounded numbers.
use Prim.Native.Nat.{◌≤◌}
use native.Mathlib.Omega.{arith}
use lib.ListN.{length}
use borrow.Author.Tests.{lt-ltb, le-ltb}
use Rattle.kvm_import.specs.ListChecks.{bad_list_length}
use Rattle.kvm_import.proofs.list_checks.bad_list_length.Goals as goal

pub returns-then-list-lt-HEAD_SIZE : goal.returns-then-list-lt-HEAD_SIZE
unfolding bad_list_length
returns-then-list-lt-HEAD_SIZE c = rw (lt-ltb _ 8 c.if-list-lt-HEAD_SIZE.true)

pub returns : goal.returns
unfolding bad_list_length
returns c =
    let h : 8 ≤ length c.args.list.now = omega arith in
    rw (le-ltb _ 8 h, ← c.row_count.ensures.0)
