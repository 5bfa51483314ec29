-- `collect::full::is_full` meets its contract: by the places of leaves Bh and 8000001Dh, and for any other leaf by its one place.
use mathlib.Core.Path.{refl}
use mathlib.Core.Bool.{false≢true}
use Rattle.masking.specs.Kept.{kept_leaves, slot}
use Rattle.collect.specs.FullLaws.{run_full, one_place_full, rows_join}
use Rattle.collect.proofs.full.is_full.Goals as goal

pub returns-then-two_rows : goal.returns-then-two_rows
unfolding slot kept_leaves
returns-then-two_rows c = record {
  full = λ e k h.
      run_full _ _ 0x8000001D 82 4 c.in-2147483677.is refl
      (rows_join _ 82 2 2 (c.two_rows-in-2147483677.ensures c.if-two_rows.true) (c.two_rows-then-two_rows.ensures e));
}

pub returns-in-11 : goal.returns-in-11
unfolding slot kept_leaves
returns-in-11 c = record { full = λ e k h. run_full _ _ 0xB 4 2 c.in-11.is refl (c.two_rows.ensures e) }

pub returns-in-13 : goal.returns-in-13
returns-in-13 c = record { full = λ e. absurd (false≢true e) }

pub returns-in_default : goal.returns-in_default
returns-in_default c = record { full = λ e k h. let n = c.in_default.in_default-own.rest in one_place_full _ _ k n.0.0.1 n.0.1 n.1 h }
