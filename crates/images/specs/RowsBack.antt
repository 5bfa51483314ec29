-- The image of a table read from place to place: what is left at a place are the rows from there on.
use Rattle.std.specs.Prelude.{◌≡◌, Bool, false, ◌&&◌, eqb, length}
use Rattle.std.proofs.Math.Path.{refl, sym, ap}
use Rattle.std.proofs.Common.{◌∙◌, add-one, arith, le-leb}
use Rattle.std.proofs.Math.Bool.{true}
use mathlib.Core.List.{List, [], ◌∷◌, ◌++◌}
use Prim.Native.Nat.{ℕ, zero, suc, ◌+◌, ◌-◌, ◌*◌, ◌/◌, ◌%◌, ◌≤◌, ◌<◌}
use Rattle.std.proofs.Math.ListN.{drop}
use Rattle.bits.specs.Choice.{pick}
use Rattle.bits.specs.ChoiceLaws.{never_both, and_left, and_right, and_both}
use Rattle.bits.specs.SearchLaws.{every_at}
use Rattle.x86defs.specs.declared.CpuidResult.{CpuidResult}
use Rattle.pages.specs.Layout.{word_at, registers_at}
use Rattle.masking.specs.Kept.{places, leaf_at, indexed_at, subleaf_at, slot, kept_leaves}
use Rattle.table.specs.declared.CpuidResults.{CpuidResults}
use Rattle.table.specs.Rows.{row, vacant}
use Rattle.table.specs.Table.{row_in}
use Rattle.buffer.specs.Front.{bytes_of, result_bytes}
use Rattle.image.specs.Image.{row_bytes, image}
use Rattle.image.specs.ImagePieces.{rows_from}
use Rattle.image.specs.PiecesLaws.{rows_all, rows_none}
use Rattle.images.specs.ImageRowLaws.{place_told, row_begins, registers_told, spelt}
use Rattle.images.specs.ImageTableLaws.{Plain, from_row}
use Rattle.image_read.specs.ReadImage.{opens, begins, row_read, after_row, left, rows_read}
use Rattle.image_read.specs.WrittenAgain.{registers_fit, row_again}
use Rattle.images.specs.ImageBytesLaws.{bytes_from}

-- ---- a row begins with what its place says

-- the four bytes of each place's leaf, and of its subleaf, give it back
spelt_back : (i : ℕ) → i < places → (eqb (spelt (leaf_at i).0) (leaf_at i).0 ≡ true) × (eqb (spelt (subleaf_at i)) (subleaf_at i) ≡ true)
unfolding slot kept_leaves
spelt_back i h =
    let both = every_at (λ i. eqb (spelt (leaf_at i).0) (leaf_at i).0 && eqb (spelt (subleaf_at i)) (subleaf_at i)) places refl i h in
    (and_left _ _ both, and_right (eqb (spelt (leaf_at i).0) (leaf_at i).0) _ both)

abbrev start_of : Bool → ℕ → CpuidResult → List ℕ → List ℕ
start_of b i r l = pick b (2 ∷ bytes_of (leaf_at i).0 ++ bytes_of (subleaf_at i) ++ result_bytes r) (1 ∷ bytes_of (leaf_at i).0 ++ result_bytes r) ++ l

abbrev start_begins : Bool → ℕ → List ℕ → Bool
start_begins b i l = pick b (opens l 25 2 (leaf_at i).0 && eqb (word_at l 5) (subleaf_at i)) (opens l 21 1 (leaf_at i).0)

row_there : (i : ℕ) → i < places → (r : CpuidResult) (l : List ℕ) → begins (row_bytes i r ++ l) i ≡ true
unfolding begins opens
row_there i h r l = go (indexed_at i)
  where
    leaf : eqb (spelt (leaf_at i).0) (leaf_at i).0 ≡ true
    leaf = (spelt_back i h).0

    go : (b : Bool) → start_begins b i (start_of b i r l) ≡ true
    go true = and_both (and_both (le-leb 25 (length (start_of true i r l)) (omega arith)) leaf) (spelt_back i h).1
    go false = and_both (le-leb 21 (length (start_of false i r l)) (omega arith)) leaf

-- ---- from place to place

module _ (t : CpuidResults) (p : Plain t) where
  -- a row of place i is not among those of later places
  not_later : (i : ℕ) → i < places → (q : CpuidResult) (l : List ℕ) (n j : ℕ) → j + n ≡ places → i < j → row_bytes i q ++ l ≡ rows_from t j → ⊥
  not_later i h q l zero j e u f = let k : j ≡ places = omega arith in row_begins i q l (f ∙ ap (rows_from t) k ∙ rows_none t)
  not_later i h q l (suc n) j e u f = go (not_later i h q l n (j + 1) (omega arith) (omega arith)) (row_in t j).present refl
    where
      go : (row_bytes i q ++ l ≡ rows_from t (j + 1) → ⊥) → (b : Bool) → (row_in t j).present ≡ b → ⊥
      go later true g = let same : i ≡ j = place_told i j h (omega arith) q _ l _ (f ∙ from_row t j (omega arith) g) in omega arith
      go later false g = later (f ∙ from_row t j (omega arith) g)

  -- what is read of the rows from place i on
  step : (i : ℕ) → i < places → (row_read (rows_from t i) i ≡ row_in t i) × (after_row (rows_from t i) i ≡ rows_from t (i + 1))
  unfolding row_read after_row
  step i h = go (row_in t i).present refl (begins (rows_from t i) i) refl
    where
      again : begins (rows_from t i) i ≡ true
          → row_bytes i (registers_at (rows_from t i) (pick (indexed_at i) 9 5)) ++ drop (pick (indexed_at i) 25 21) (rows_from t i) ≡ rows_from t i
      again = row_again (rows_from t i) (bytes_from t i (omega arith)) i

      go : (b : Bool) → (row_in t i).present ≡ b → (c : Bool) → begins (rows_from t i) i ≡ c
          → (pick c (row (registers_at (rows_from t i) (pick (indexed_at i) 9 5))) vacant ≡ row_in t i)
          × (pick c (drop (pick (indexed_at i) 25 21) (rows_from t i)) (rows_from t i) ≡ rows_from t (i + 1))
      go true f true g =
          let told =
          registers_told i _ _ (registers_fit (rows_from t i) (bytes_from t i (omega arith)) _) (p.fits i h) _ _ (again g ∙ from_row t i h f) in
          (λ k. record { present = sym f k; result = told.0 k }, told.1)
      go true f false g = absurd (never_both (ap (λ (l : List ℕ). begins l i) (from_row t i h f) ∙ row_there i h _ _) g)
      go false f true g = absurd (not_later i h _ _ (places - (i + 1)) (i + 1) (omega arith) (omega arith) (again g ∙ from_row t i h f))
      go false f false g = (sym (p.absent i h f), from_row t i h f)

  left_from : (i : ℕ) → i ≤ places → left (image t) i ≡ rows_from t i
  unfolding left
  left_from zero h = sym (rows_all t)
  left_from (suc i) h = ap (λ (l : List ℕ). after_row l i) (left_from i (omega arith)) ∙ (step i (omega arith)).1 ∙ ap (rows_from t) (add-one i)

  pub rows_back : (i : ℕ) → i < places → rows_read (image t) i ≡ row_in t i
  rows_back i h = ap (λ (l : List ℕ). row_read l i) (left_from i (omega arith)) ∙ (step i h).0

  pub none_left : left (image t) places ≡ []
  none_left = left_from places (omega arith) ∙ rows_none t
