-- The rows of an image ascend: the places do, and leaving out the absent ones keeps their order.
use Rattle.std.specs.Prelude.{◌≡◌, refl, Bool, true, false, List, [], ◌∷◌, ◌++◌, ℕ, zero, suc, ◌<◌}
use Rattle.std.proofs.Common.{ap, ◌∙◌, subst, sym, arith}
use Rattle.bits.specs.Choice.{pick}
use Rattle.bits.specs.Lists.{tabulate, keep_if}
use Rattle.bits.specs.Ascending.{BeforeAll, Ascending}
use Rattle.masking.specs.Kept.{places}
use Rattle.table.specs.declared.CpuidResults.{CpuidResults}
use Rattle.table.specs.Table.{row_in}
use Rattle.table.specs.Order.{Precedes, row_order}
use Rattle.table.specs.OrderLaws.{places_rise, row_order_lem}
use Rattle.image.specs.Image.{place_bytes, image_in, row_bytes, image}
use Rattle.images.specs.Images.{rows_in_order, bytes_of_rows, ImageAscends}

below_tabulate : (i n : ℕ) (f : ℕ → ℕ) → ((k : ℕ) → k < n → Precedes i (f k)) → BeforeAll Precedes i (tabulate n f)
unfolding tabulate
below_tabulate i zero f h = tt
below_tabulate i (suc n) f h = (h 0 (omega arith), below_tabulate i n (λ k. f (suc k)) (λ k l. h (suc k) (omega arith)))

ascending_tabulate : (n : ℕ) (f : ℕ → ℕ) → ((j k : ℕ) → j < k → k < n → Precedes (f j) (f k)) → Ascending Precedes (tabulate n f)
unfolding tabulate
ascending_tabulate zero f h = tt
ascending_tabulate (suc n) f h = (
  below_tabulate (f 0) n (λ k. f (suc k)) (λ k l. h 0 (suc k) (omega arith) (omega arith)),
  ascending_tabulate n (λ k. f (suc k)) (λ j k l u. h (suc j) (suc k) (omega arith) (omega arith)),
)

below_kept : (test : ℕ → Bool) (i : ℕ) (is : List ℕ) → BeforeAll Precedes i is → BeforeAll Precedes i (keep_if test is)
unfolding keep_if
below_kept test i [] h = tt
below_kept test i (j ∷ js) h = go (below_kept test i js h.1) (test j)
  where
    go : BeforeAll Precedes i (keep_if test js) → (b : Bool) → BeforeAll Precedes i (pick b (j ∷ keep_if test js) (keep_if test js))
    go ih true = (h.0, ih)
    go ih false = ih

ascending_kept : (test : ℕ → Bool) (is : List ℕ) → Ascending Precedes is → Ascending Precedes (keep_if test is)
unfolding keep_if
ascending_kept test [] h = tt
ascending_kept test (i ∷ is) h = go (ascending_kept test is h.1) (below_kept test i is h.0) (test i)
  where
    go : Ascending Precedes (keep_if test is) → BeforeAll Precedes i (keep_if test is) → (b : Bool) → Ascending Precedes (pick b (i ∷ keep_if test is) (keep_if test is))
    go ih below true = (below, ih)
    go ih below false = ih

pub order_ascends : Ascending Precedes row_order
order_ascends = subst (Ascending Precedes) (sym row_order_lem) (ascending_tabulate places (λ i. i) (λ j k l u. places_rise j k l u))

bytes_kept : (t : CpuidResults) (is : List ℕ) → image_in is t ≡ bytes_of_rows t (keep_if (λ i. (row_in t i).present) is)
unfolding image_in keep_if bytes_of_rows
bytes_kept t [] = refl
bytes_kept t (i ∷ is) = go (bytes_kept t is) (row_in t i).present
  where
    go : image_in is t ≡ bytes_of_rows t (keep_if (λ i. (row_in t i).present) is) → (b : Bool)
        → pick b (row_bytes i (row_in t i).result) [] ++ image_in is t
        ≡ bytes_of_rows t (pick b (i ∷ keep_if (λ i. (row_in t i).present) is) (keep_if (λ i. (row_in t i).present) is))
    go ih true = ap (λ (l : List ℕ). row_bytes i (row_in t i).result ++ l) ih
    go ih false = ih

pub image_ascends : (t : CpuidResults) → ImageAscends t
unfolding image
image_ascends t = record { bytes = bytes_kept t row_order; ascend = ascending_kept (λ i. (row_in t i).present) row_order order_ascends }
