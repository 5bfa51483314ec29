-- How many bytes an image has: the rows are counted in stretches of places whose rows are equally long.
use Rattle.std.specs.Prelude.{◌≡◌, Bool, true, false, List, [], eqb, get_or}
use Rattle.std.proofs.Math.Path.{refl, ap}
use Rattle.std.proofs.Common.{sym, ◌∙◌, lit≤}
use Prim.Native.Nat.{ℕ, zero, suc, ◌+◌, ◌-◌, ◌*◌, ◌/◌, ◌^◌, ◌≤◌, ◌<◌}
use Rattle.std.proofs.Math.Nat.{add-zero, sub_self, mul-add}
use native.Mathlib.Omega.{arith}
use Rattle.std.specs.Int.Count.{ones}
use Rattle.std.proofs.Math.ListN.{length, length-append}
use borrow.Author.Tests.{eqb-true}
use Rattle.bits.specs.Choice.{pick}
use Rattle.bits.specs.ChoiceLaws.{and_left, and_right}
use Rattle.bits.specs.Bits.{has}
use Rattle.bits.specs.Lists.{sum_to, one}
use Rattle.bits.specs.ListsLaws.{sum_ext}
use Rattle.bits.specs.Search.{every}
use Rattle.masking.specs.Kept.{kept_leaves, slot, places, indexed_at}
use Rattle.masking.specs.Place
use Rattle.table.specs.declared.CpuidResults.{CpuidResults}
use Rattle.table.specs.Rows.{Row}
use Rattle.table.specs.Table.{row_in}
use Rattle.memory.specs.Held.{held_in, flags, flag_at}
use Rattle.image.specs.Components.{Components}
use Rattle.image.specs.ComponentsLaws.{ones_sum}
use Rattle.image.specs.Image.{place_bytes, image}
use Rattle.image.specs.ImagePieces.{rows_from, rows_among}
use Rattle.image.specs.PiecesLaws.{rows_more, rows_all, rows_none}

-- ---- counting rows

pub among_none : (p : List Bool) (i : ℕ) → rows_among p i i ≡ 0
unfolding rows_among sum_to
among_none p i = rw sub_self

pub among_more : (p : List Bool) (first i : ℕ) → first ≤ i → rows_among p first (i + 1) ≡ rows_among p first i + one (get_or p i false)
unfolding rows_among sum_to
among_more p first i h =
    let d : i + 1 - first ≡ suc (i - first) = omega arith in
    let e : first + (i - first) ≡ i = omega arith in
    rw (d, e)

among_split : (p : List Bool) (first i n : ℕ) → first ≤ i → rows_among p first (i + n) ≡ rows_among p first i + rows_among p i (i + n)
among_split p first i zero h = rw (add-zero, among_none p i) (omega arith)
among_split p first i (suc n) h =
    let q : i + suc n ≡ i + n + 1 = omega arith in
    rw q (omega (arith, among_split p first i n h, among_more p first (i + n) (omega arith), among_more p i (i + n) (omega arith)))

-- the components, by the ones of the word that tells which of them have a row
components_among : (o : List ℕ) (x : ℕ) → Components o x → x < 2 ^ 64
    → rows_among (flags o) (Place.extended_state 2) Place.extended_max_function ≡ ones (x / 2 ^ 2)
unfolding rows_among
components_among o x c h = sum_ext _ _ 62 (λ k l. ap one (at k l)) ∙ sym (ones_sum x h)
  where
    at : (k : ℕ) → k < 62 → get_or (flags o) (Place.extended_state 2 + k) false ≡ has (2 + k) x
    at k l =
        let q : Place.extended_state 2 + k ≡ Place.extended_state (2 + k) = omega arith in
        rw q (flag_at o (Place.extended_state (2 + k)) (omega arith) ∙ c.there (2 + k) (omega arith) (omega arith))

-- ---- how many bytes

-- 25 bytes of a row with a subleaf, 21 of one without
abbrev pub width : ℕ → ℕ
width i = pick (indexed_at i) 25 21

picked_length : (p q : Bool) (a b : List ℕ) → length a ≡ 25 → length b ≡ 21 → length (pick p (pick q a b) []) ≡ pick q 25 21 * one p
picked_length true true a b e f = e
picked_length true false a b e f = f
picked_length false true a b e f = refl
picked_length false false a b e f = refl

pub place_length : (i : ℕ) (r : Row) → length (place_bytes i r) ≡ width i * one r.present
place_length i r = picked_length r.present (indexed_at i) _ _ refl refl

module _ (t : CpuidResults) where
  -- the n places from a on, whose rows are equally long
  stretch : (w a n : ℕ) → a + n ≤ places → every (λ k. eqb (width (a + k)) w) n ≡ true
      → length (rows_from t a) ≡ w * sum_to (λ k. one (get_or t.present (a + k) false)) n + length (rows_from t (a + n))
  unfolding sum_to
  stretch w a zero h e = rw add-zero (omega arith)
  stretch w a (suc n) h e =
      let q : a + suc n ≡ a + n + 1 = omega arith in
      let f : width (a + n) ≡ w = eqb-true (width (a + n)) w (and_left _ _ e) in
      rw (q, mul-add w)
      (omega (
        arith,
        stretch w a n (omega arith) (and_right (eqb (width (a + n)) w) _ e),
        ap length (rows_more t (a + n) (omega arith)),
        rw f at (place_length (a + n) (row_in t (a + n))),
        length-append (place_bytes (a + n) (row_in t (a + n))) (rows_from t (a + n + 1)),
      ))

  pub image_length :
      length (image t)
      ≡ 21
      * (rows_among t.present 0 Place.extended_features
      + rows_among t.present Place.extended_max_function (Place.cache_topology 0)
      + rows_among t.present Place.processor_topology_definition places)
      + 25
      * (rows_among t.present Place.extended_features Place.extended_max_function
      + rows_among t.present (Place.cache_topology 0) Place.processor_topology_definition)
  unfolding rows_among slot kept_leaves
  image_length =
      omega (
        arith,
        ap length (rows_all t),
        stretch 21 0 Place.extended_features (lit≤ tt) refl,
        stretch 25 Place.extended_features 67 (lit≤ tt) refl,
        stretch 21 Place.extended_max_function 12 (lit≤ tt) refl,
        stretch 25 (Place.cache_topology 0) 4 (lit≤ tt) refl,
        stretch 21 Place.processor_topology_definition 2 (lit≤ tt) refl,
        ap length (rows_none t),
      )

-- the same with the components by their word
pub components_length : (w o : List ℕ) (x : ℕ) → Components o x → x < 2 ^ 64
    → length (image (held_in w o))
    ≡ 21
    * (rows_among (flags o) 0 Place.extended_features
    + rows_among (flags o) Place.extended_max_function (Place.cache_topology 0)
    + rows_among (flags o) Place.processor_topology_definition places)
    + 25
    * (rows_among (flags o) Place.extended_features (Place.extended_state 2)
    + rows_among (flags o) (Place.cache_topology 0) Place.processor_topology_definition
    + ones (x / 2 ^ 2))
components_length w o x c h =
    omega (
      arith,
      image_length (held_in w o),
      among_split (flags o) Place.extended_features (Place.extended_state 2) 62 (lit≤ tt),
      components_among o x c h,
    )
