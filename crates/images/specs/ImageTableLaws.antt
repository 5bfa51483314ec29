-- An image tells its table's rows: going from place to place, two equal images have each row of the one in the other.
use Rattle.std.specs.Prelude.{◌≡◌, refl, Bool, true, false, List, [], ◌++◌, ◌⊎◌, ℕ, zero, suc, ◌+◌, ◌-◌, ◌≤◌, ◌<◌}
use Rattle.std.proofs.Common.{sym, ap, ap₂, ◌∙◌, inl, inr, eq-or-lt_of_le, arith}
use Rattle.bits.specs.Choice.{pick}
use Rattle.x86defs.specs.declared.CpuidResult.{CpuidResult}
use Rattle.masking.specs.Kept.{places}
use Rattle.table.specs.declared.CpuidResults.{CpuidResults}
use Rattle.table.specs.Rows.{Row, vacant}
use Rattle.table.specs.Table.{row_in}
use Rattle.table.specs.Fits.{Fits}
use Rattle.image.specs.Image.{row_bytes, place_bytes, image}
use Rattle.image.specs.ImagePieces.{rows_from}
use Rattle.image.specs.PiecesLaws.{rows_more, rows_all, rows_none}
use Rattle.images.specs.ImageRowLaws.{place_told, row_begins, registers_told}

-- absent rows are all zeros, and registers fit 32 bits
pub record Plain (t : CpuidResults) : Type 0 where
  pub absent : (i : ℕ) → i < places → (row_in t i).present ≡ false → row_in t i ≡ vacant
  pub fits : (i : ℕ) → i < places → Fits (row_in t i).result

-- ---- what is left of an image from a place on

pub from_row : (t : CpuidResults) (i : ℕ) → i < places → {b : Bool} → (row_in t i).present ≡ b
    → rows_from t i ≡ pick b (row_bytes i (row_in t i).result) [] ++ rows_from t (i + 1)
from_row t i h e = rows_more t i h ∙ ap (λ (b : Bool). pick b (row_bytes i (row_in t i).result) [] ++ rows_from t (i + 1)) e

-- it begins with the row of a place that is not before
pub record Starts (u : CpuidResults) (i : ℕ) : Type 0 where
  pub place : ℕ
  pub from : i ≤ place
  pub below : place < places
  pub row : CpuidResult
  pub rest : List ℕ
  pub bytes : rows_from u i ≡ row_bytes place row ++ rest

starts : (u : CpuidResults) (n i : ℕ) → i + n ≡ places → (rows_from u i ≡ []) ⊎ Starts u i
starts u zero i e = inl (let q : i ≡ places = omega arith in ap (rows_from u) q ∙ rows_none u)
starts u (suc n) i e = go (starts u n (i + 1) (omega arith)) (row_in u i).present refl
  where
    h : i < places
    h = omega arith

    go : (rows_from u (i + 1) ≡ []) ⊎ Starts u (i + 1) → (b : Bool) → (row_in u i).present ≡ b → (rows_from u i ≡ []) ⊎ Starts u i
    go later true f = inr (record {
      place = i;
      from = omega arith;
      below = h;
      row = (row_in u i).result;
      rest = rows_from u (i + 1);
      bytes = from_row u i h f;
    })
    go (inl z) false f = inl (from_row u i h f ∙ z)
    go (inr s) false f = inr (record {
      place = s.place;
      from = omega (arith, s.from);
      below = s.below;
      row = s.row;
      rest = s.rest;
      bytes = from_row u i h f ∙ s.bytes;
    })

-- a row that only one of two tables has tells them apart
one_sided : (t u : CpuidResults) (i : ℕ) → i < places → (row_in t i).present ≡ true → (row_in u i).present ≡ false → rows_from t i ≡ rows_from u i → ⊥
one_sided t u i h f g e = go (starts u (places - (i + 1)) (i + 1) (omega arith))
  where
    begins : row_bytes i (row_in t i).result ++ rows_from t (i + 1) ≡ rows_from u (i + 1)
    begins = sym (from_row t i h f) ∙ e ∙ from_row u i h g

    go : (rows_from u (i + 1) ≡ []) ⊎ Starts u (i + 1) → ⊥
    go (inl z) = row_begins i _ _ (begins ∙ z)
    go (inr s) =
        let same : i ≡ s.place = place_told i s.place h s.below _ s.row _ s.rest (begins ∙ s.bytes) in
        omega (arith, s.from)

module _ (t u : CpuidResults) where
  module _ (p : Plain t) (q : Plain u) where
    step : (i : ℕ) → i < places → rows_from t i ≡ rows_from u i → (row_in t i ≡ row_in u i) × (rows_from t (i + 1) ≡ rows_from u (i + 1))
    step i h e = go (row_in t i).present refl (row_in u i).present refl
      where
        go : (a : Bool) → (row_in t i).present ≡ a → (b : Bool) → (row_in u i).present ≡ b → (row_in t i ≡ row_in u i) × (rows_from t (i + 1) ≡ rows_from u (i + 1))
        go true f true g =
            let told = registers_told i _ _ (p.fits i h) (q.fits i h) _ _ (sym (from_row t i h f) ∙ e ∙ from_row u i h g) in
            (λ k. record { present = (f ∙ sym g) k; result = told.0 k }, told.1)
        go true f false g = absurd (one_sided t u i h f g e)
        go false f true g = absurd (one_sided u t i h g f (sym e))
        go false f false g = (p.absent i h f ∙ sym (q.absent i h g), sym (from_row t i h f) ∙ e ∙ from_row u i h g)

    same_from_lem : (n i : ℕ) → i + n ≡ places → rows_from t i ≡ rows_from u i → (j : ℕ) → i ≤ j → j < places → row_in t j ≡ row_in u j
    same_from_lem zero i e s j l h = absurd (omega arith)
    same_from_lem (suc n) i e s j l h =
        let both = step i (omega arith) s in
        elim (eq-or-lt_of_le {n = i} {m = j} l) [
          | inl r ↦ rw (← r) both.0
          | inr r ↦ same_from_lem n (i + 1) (omega arith) both.1 j (omega arith) h
        ]

    pub rows_told : image t ≡ image u → (i : ℕ) → i < places → row_in t i ≡ row_in u i
    rows_told e i h = same_from_lem places 0 refl (rows_all t ∙ e ∙ sym (rows_all u)) i (omega arith) h

  module _ (same : (i : ℕ) → i < places → row_in t i ≡ row_in u i) where
    rows_from_lem : (n i : ℕ) → i + n ≡ places → rows_from t i ≡ rows_from u i
    rows_from_lem zero i e =
        let q : i ≡ places = omega arith in
        ap (rows_from t) q ∙ rows_none t ∙ sym (rows_none u) ∙ sym (ap (rows_from u) q)
    rows_from_lem (suc n) i e =
        let h : i < places = omega arith in
        rows_more t i h
        ∙ ap₂ (λ (r : Row) (l : List ℕ). place_bytes i r ++ l) (same i h) (rows_from_lem n (i + 1) (omega arith))
        ∙ sym (rows_more u i h)

    pub same_image : image t ≡ image u
    same_image = sym (rows_all t) ∙ rows_from_lem places 0 refl ∙ rows_all u
