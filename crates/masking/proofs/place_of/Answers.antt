-- `masking::place_of` meets its contract. A leaf without subleaves is computed, and so is the run of 80000001h to 80000008h. A leaf with
-- subleaves goes by the law `subleaf_run`, and any other leaf by the law `filtered`.
use mathlib.Core.Path.{refl}
use mathlib.Core.Logic.{inl, inr}
use Prim.Native.Nat.{◌+◌, ◌-◌}
use native.Mathlib.Omega.{arith}
use borrow.Author.Rules.{rules}
use Rattle.bits.specs.Lists.{tabulate}
use Rattle.x86defs.specs.Functions.{function}
use Rattle.masking.specs.Kept.{kept_leaves, place_of}
use Rattle.masking.specs.RunLaws.{on_run}
use Rattle.masking.specs.PlaceOfLaws.{subleaf_run, filtered}
use Rattle.masking.proofs.place_of.Goals as goal

pub subleaf_place-requires : goal.subleaf_place-requires
unfolding place_of kept_leaves tabulate
subleaf_place-requires c = search rules

pub subleaf_place-requires-in-11 : goal.subleaf_place-requires-in-11
unfolding place_of kept_leaves tabulate
subleaf_place-requires-in-11 c = search rules

pub subleaf_place-requires-in-13 : goal.subleaf_place-requires-in-13
unfolding place_of kept_leaves tabulate
subleaf_place-requires-in-13 c = search rules

pub subleaf_place-requires-in-2147483677 : goal.subleaf_place-requires-in-2147483677
unfolding place_of kept_leaves tabulate
subleaf_place-requires-in-2147483677 c = search rules

pub overflow_sub-result : goal.overflow_sub-result
unfolding place_of kept_leaves tabulate
overflow_sub-result c = search rules

pub overflow_cast-result : goal.overflow_cast-result
unfolding place_of kept_leaves tabulate
overflow_cast-result c = record { fits = omega (arith, c.in-2147483649-to-2147483656.if-n-lt2147483657-own.true) }

pub overflow_add-result : goal.overflow_add-result
unfolding place_of kept_leaves tabulate
overflow_add-result c = record { fits = omega (arith, c.in-2147483649-to-2147483656.if-n-lt2147483657-own.true) }

pub returns-in-1 : goal.returns-in-1
unfolding place_of kept_leaves tabulate
returns-in-1 c = record { value = rw c.in-1.is; small = search rules }

pub returns-in-5 : goal.returns-in-5
unfolding place_of kept_leaves tabulate
returns-in-5 c = record { value = rw c.in-5.is; small = search rules }

pub returns-in-7 : goal.returns-in-7
unfolding place_of kept_leaves tabulate
returns-in-7 c = record { value = subleaf_run _ _ c.args.subleaf c.in-7.is c.subleaf_place.ensures.value refl refl; small = c.subleaf_place.ensures.small }

pub returns-in-11 : goal.returns-in-11
unfolding place_of kept_leaves tabulate
returns-in-11 c = record { value = subleaf_run _ _ c.args.subleaf c.in-11.is c.subleaf_place-in-11.ensures.value refl refl; small = c.subleaf_place-in-11.ensures.small }

pub returns-in-13 : goal.returns-in-13
unfolding place_of kept_leaves tabulate
returns-in-13 c = record { value = subleaf_run _ _ c.args.subleaf c.in-13.is c.subleaf_place-in-13.ensures.value refl refl; small = c.subleaf_place-in-13.ensures.small }

pub returns-in-2147483658 : goal.returns-in-2147483658
unfolding place_of kept_leaves tabulate
returns-in-2147483658 c = record { value = rw c.in-2147483658.is; small = search rules }

pub returns-in-2147483673 : goal.returns-in-2147483673
unfolding place_of kept_leaves tabulate
returns-in-2147483673 c = record { value = rw c.in-2147483673.is; small = search rules }

pub returns-in-2147483674 : goal.returns-in-2147483674
unfolding place_of kept_leaves tabulate
returns-in-2147483674 c = record { value = rw c.in-2147483674.is; small = search rules }

pub returns-in-2147483677 : goal.returns-in-2147483677
unfolding place_of kept_leaves tabulate
returns-in-2147483677 c = record { value = subleaf_run _ _ c.args.subleaf c.in-2147483677.is c.subleaf_place-in-2147483677.ensures.value refl refl; small = c.subleaf_place-in-2147483677.ensures.small }

pub returns-in-2147483678 : goal.returns-in-2147483678
unfolding place_of kept_leaves tabulate
returns-in-2147483678 c = record { value = rw c.in-2147483678.is; small = search rules }

pub returns-in-2147483679 : goal.returns-in-2147483679
unfolding place_of kept_leaves tabulate
returns-in-2147483679 c = record { value = rw c.in-2147483679.is; small = search rules }

pub returns-in-2147483649-to-2147483656 : goal.returns-in-2147483649-to-2147483656
unfolding place_of kept_leaves tabulate
returns-in-2147483649-to-2147483656 c = record { value = on_run (λ n. 70 + (n - 0x80000000)) (λ n. place_of (function n) c.args.subleaf) c.in-2147483649-to-2147483656.if-n-lt2147483649-own.false c.in-2147483649-to-2147483656.if-n-lt2147483657-own.true refl; small = omega (arith, c.in-2147483649-to-2147483656.if-n-lt2147483657-own.true) }

pub returns-in_default : goal.returns-in_default
unfolding place_of kept_leaves tabulate
returns-in_default c = record { value = filtered _ c.args.subleaf c.in_default.in_default-own.rest (inl c.in_default.if-n-lt2147483649-own.true); small = search rules }

pub returns-in_default-2 : goal.returns-in_default-2
unfolding place_of kept_leaves tabulate
returns-in_default-2 c = record { value = filtered _ c.args.subleaf c.in_default.in_default-own.rest (inr c.in_default.if-n-lt2147483657-own.false); small = search rules }
