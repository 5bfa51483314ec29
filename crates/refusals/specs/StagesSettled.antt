-- The answer's verdict is the verdicts of the eleven checks in the order of their ranks, and so refuses exactly at the first fault.
use Rattle.std.specs.Prelude.{◌≡◌, List, [], ◌∷◌, eqb, get_or, Err, Ok}
use Rattle.std.proofs.Math.Path.{refl}
use Rattle.std.proofs.Common.{sym, ap, ◌∙◌, lit<, eqb-true}
use Prim.Native.Nat.{ℕ, ◌<◌}
use Rattle.bits.specs.SearchLaws.{every_at}
use Rattle.table.specs.Refusal.{and_then}
use Rattle.refusals.specs.Conditions.{Check, rank}
use Rattle.refusals.specs.Conditions.Check.{edition, length_of_pages, page_counts, reserved_bytes, required_leaves, invlpgb, components, save_area, processor_count, hyperthreading, threads_per_unit}
use Rattle.table.specs.Verdict.{Verdict}

-- ---- the check of each rank

unfoldable pub checks : List Check
checks =
    edition
    ∷ length_of_pages
    ∷ page_counts
    ∷ reserved_bytes
    ∷ required_leaves
    ∷ invlpgb
    ∷ components
    ∷ save_area
    ∷ processor_count
    ∷ hyperthreading
    ∷ threads_per_unit
    ∷ []

unfoldable pub check_at : ℕ → Check
check_at n = get_or checks n threads_per_unit

abbrev pub check_count : ℕ
check_count = 11

check_rank : (c : Check) → (rank c < check_count) × (check_at (rank c) ≡ c)
unfolding check_at checks
check_rank edition = (lit< tt, refl)
check_rank length_of_pages = (lit< tt, refl)
check_rank page_counts = (lit< tt, refl)
check_rank reserved_bytes = (lit< tt, refl)
check_rank required_leaves = (lit< tt, refl)
check_rank invlpgb = (lit< tt, refl)
check_rank components = (lit< tt, refl)
check_rank save_area = (lit< tt, refl)
check_rank processor_count = (lit< tt, refl)
check_rank hyperthreading = (lit< tt, refl)
check_rank threads_per_unit = (lit< tt, refl)

pub rank_lt : (c : Check) → rank c < check_count
rank_lt c = (check_rank c).0

pub rank_check : (n : ℕ) → n < check_count → rank (check_at n) ≡ n
unfolding check_at checks
rank_check n l = eqb-true _ _ (every_at (λ k. eqb (rank (check_at k)) k) check_count refl n l)

-- the check of a rank is the only one of that rank
pub rank_unique : (c d : Check) → rank c ≡ rank d → c ≡ d
rank_unique c d e = sym (check_rank c).1 ∙ ap check_at e ∙ (check_rank d).1

-- ---- the checks in order

pub then_assoc : (u v w : Verdict) → and_then (and_then u v) w ≡ and_then u (and_then v w)
then_assoc (Ok _) v w = refl
then_assoc (Err r) v w = refl
