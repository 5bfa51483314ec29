-- What is read has the bytes that were read for its image: a row's bytes, written again, are the same, from place to place.
use Rattle.std.specs.Prelude.{◌≡◌, Bool, ◌&&◌, eqb, leb, drop}
use Rattle.std.proofs.Math.Path.{refl, sym, ap}
use Rattle.std.proofs.Common.{ap₂, ◌∙◌, add-one, arith, lit≤, drop-cons}
use Rattle.std.proofs.Math.Bool.{true, false}
use mathlib.Core.List.{List, [], ◌∷◌, ◌++◌}
use Prim.Native.Nat.{ℕ, zero, suc, ◌+◌, ◌*◌, ◌/◌, ◌%◌, ◌^◌, ◌≤◌, ◌<◌}
use Rattle.std.proofs.Math.Numerals.{towards_suc}
use Rattle.std.proofs.Math.ListN.{length, get_or}
use Rattle.std.proofs.Math.Seq.{get_or-drop}
use borrow.Author.Tests.{leb-true, eqb-true}
use Rattle.bits.specs.Choice.{pick}
use Rattle.bits.specs.ChoiceLaws.{and_left, and_right}
use Rattle.pages.specs.Layout.{word_at, registers_at}
use Rattle.masking.specs.Kept.{places, leaf_at, indexed_at, subleaf_at}
use Rattle.table.specs.declared.CpuidResults.{CpuidResults}
use Rattle.table.specs.Rows.{Row, row, vacant}
use Rattle.table.specs.TableLaws.{table_row}
use Rattle.table.specs.Table.{table_of}
use Rattle.table.specs.Fits.{Fits}
use Rattle.buffer.specs.Front.{bytes_of, result_bytes}
use Rattle.image.specs.Image.{row_bytes, place_bytes, image}
use Rattle.image.specs.ImagePieces.{rows_from}
use Rattle.image.specs.PiecesLaws.{rows_more, rows_all, rows_none}
use Rattle.image_read.specs.ReadImage.{opens, begins, row_read, after_row, left, rows_read, is_image, read_image}

-- the row of a table at a place
empty : (l : List ℕ) → length l ≡ 0 → l ≡ []
empty [] e = refl
empty (a ∷ l) e = absurd (omega arith)

-- ---- four bytes

word_again : (a b c d : ℕ) → a < 256 → b < 256 → c < 256 → d < 256 → bytes_of (a + 256 * b + 65536 * c + 16777216 * d) ≡ a ∷ b ∷ c ∷ d ∷ []
word_again a b c d p q r s =
    let n : ℕ = a + 256 * b + 65536 * c + 16777216 * d in
    let e : n % 256 ≡ a = omega arith in
    let f : n / 256 ≡ b + 256 * (c + 256 * d) = omega arith in
    let g : n / 65536 ≡ c + 256 * d = omega arith in
    let h : n / 16777216 ≡ d = omega arith in
    rw (e, f, g, h) (ap (λ (l : List ℕ). a ∷ l) (low3 b (c + 256 * d) q c d r s))
  where
    low3 : (b m : ℕ) → b < 256 → (c d : ℕ) → c < 256 → d < 256
        → (b + 256 * m) % 256 ∷ (c + 256 * d) % 256 ∷ d % 256 ∷ [] ≡ b ∷ c ∷ d ∷ []
    low3 b m q c d r s =
        let e : (b + 256 * m) % 256 ≡ b = omega arith in
        let f : (c + 256 * d) % 256 ≡ c = omega arith in
        let g : d % 256 ≡ d = omega arith in
        rw (e, f, g)

-- ---- a list of bytes

module _ (l : List ℕ) (bytes : (k : ℕ) → get_or l k 0 < 256) where
  word_ahead : (o p : ℕ) → p ≡ o + 4 → p ≤ length l → bytes_of (word_at l o) ++ drop p l ≡ drop o l
  word_ahead o p e h =
      rw e
      (ap (λ (w : List ℕ). w ++ drop (o + 4) l) (word_again _ _ _ _ (bytes o) (bytes (o + 1)) (bytes (o + 2)) (bytes (o + 3))) ∙ sym four)
    where
      four : drop o l ≡ get_or l o 0 ∷ get_or l (o + 1) 0 ∷ get_or l (o + 2) 0 ∷ get_or l (o + 3) 0 ∷ drop (o + 4) l
      four =
          simp towards_suc
          (rw (
            drop-cons l o 0 (omega arith),
            drop-cons l (suc o) 0 (omega arith),
            drop-cons l (suc (suc o)) 0 (omega arith),
            drop-cons l (suc (suc (suc o))) 0 (omega arith),
          ))

  registers_ahead : (o p : ℕ) → p ≡ o + 16 → p ≤ length l → result_bytes (registers_at l o) ++ drop p l ≡ drop o l
  unfolding registers_at
  registers_ahead o p e h =
      ap (bytes_of (word_at l o) ++◌)
      (ap (bytes_of (word_at l (o + 4)) ++◌)
      (ap (bytes_of (word_at l (o + 8)) ++◌) (word_ahead (o + 12) p (omega arith) h) ∙ word_ahead (o + 8) (o + 12) (omega arith) (omega arith))
      ∙ word_ahead (o + 4) (o + 8) (omega arith) (omega arith))
      ∙ word_ahead o (o + 4) (omega arith) (omega arith)

  pub registers_fit : (o : ℕ) → Fits (registers_at l o)
  unfolding registers_at
  registers_fit o = record { eax = word_fits o; ebx = word_fits (o + 4); ecx = word_fits (o + 8); edx = word_fits (o + 12) }
    where
      word_fits : (o : ℕ) → word_at l o < 2 ^ 32
      word_fits o = omega (arith, bytes o, bytes (o + 1), bytes (o + 2), bytes (o + 3))

  -- a row's kind and leaf, written again
  opening_again : (n kind leaf : ℕ) → 5 ≤ n → opens l n kind leaf ≡ true → (kind ∷ bytes_of leaf ++ drop 5 l ≡ l) × (n ≤ length l)
  unfolding opens
  opening_again n kind leaf h e =
      let long : n ≤ length l = leb-true n (length l) (and_left _ _ e) in
      let same = and_right (leb n (length l)) _ e in
      let k : get_or l 0 0 ≡ kind = eqb-true _ _ (and_left _ _ same) in
      let f : word_at l 1 ≡ leaf = eqb-true _ _ (and_right (eqb (get_or l 0 0) kind) _ same) in
      (rw (← k, ← f) (ap (get_or l 0 0 ∷◌) (word_ahead 1 5 refl (omega arith)) ∙ sym (drop-cons l 0 0 (omega arith))), long)

  -- the row of a place, written again
  pub row_again : (i : ℕ) → begins l i ≡ true → row_bytes i (registers_at l (pick (indexed_at i) 9 5)) ++ drop (pick (indexed_at i) 25 21) l ≡ l
  unfolding begins
  row_again i = go (indexed_at i)
    where
      leaf : List ℕ
      leaf = bytes_of (leaf_at i).0

      registers : Bool → List ℕ
      registers b = result_bytes (registers_at l (pick b 9 5))

      go : (b : Bool) → pick b (opens l 25 2 (leaf_at i).0 && eqb (word_at l 5) (subleaf_at i)) (opens l 21 1 (leaf_at i).0) ≡ true
          → pick b (2 ∷ leaf ++ bytes_of (subleaf_at i) ++ registers b) (1 ∷ leaf ++ registers b) ++ drop (pick b 25 21) l ≡ l
      go true e =
          let opened = and_left _ _ e in
          let head = opening_again 25 2 (leaf_at i).0 (lit≤ tt) opened in
          let sub : word_at l 5 ≡ subleaf_at i = eqb-true _ _ (and_right (opens l 25 2 (leaf_at i).0) _ e) in
          ap (λ (m : List ℕ). 2 ∷ bytes_of (leaf_at i).0 ++ m)
          (ap (bytes_of (subleaf_at i) ++◌) (registers_ahead 9 25 refl head.1)
          ∙ rw (← sub) (word_ahead 5 9 refl (omega (arith, head.1))))
          ∙ head.0
      go false e =
          let head = opening_again 21 1 (leaf_at i).0 (lit≤ tt) e in
          ap (λ (m : List ℕ). 1 ∷ bytes_of (leaf_at i).0 ++ m) (registers_ahead 5 21 refl head.1) ∙ head.0

-- ---- from place to place

module _ (s : List ℕ) (bytes : (k : ℕ) → get_or s k 0 < 256) where
  pub bytes_left : (i k : ℕ) → get_or (left s i) k 0 < 256
  unfolding left after_row
  bytes_left zero k = bytes k
  bytes_left (suc i) k = go (bytes_left i) (begins (left s i) i)
    where
      go : ((j : ℕ) → get_or (left s i) j 0 < 256) → (b : Bool) → get_or (pick b (drop (pick (indexed_at i) 25 21) (left s i)) (left s i)) k 0 < 256
      go before true = rw get_or-drop (before _)
      go before false = before k

  -- what place i gives, written again, and what is left after it
  place_again : (i : ℕ) → place_bytes i (rows_read s i) ++ left s (i + 1) ≡ left s i
  unfolding left after_row row_read
  place_again i = rw (add-one, left) (go (begins (left s i) i) refl)
    where
      go : (b : Bool) → begins (left s i) i ≡ b
          → place_bytes i (pick b (row (registers_at (left s i) (pick (indexed_at i) 9 5))) vacant)
          ++ pick b (drop (pick (indexed_at i) 25 21) (left s i)) (left s i)
          ≡ left s i
      go true e = row_again (left s i) (bytes_left i) i e
      go false e = refl

  module _ (x : ℕ) (none : left s places ≡ []) where
    abbrev t : CpuidResults
    t = table_of (rows_read s) x

    again_from : (n i : ℕ) → i + n ≡ places → rows_from t i ≡ left s i
    again_from zero i e = let q : i ≡ places = omega arith in rw q (rows_none t ∙ sym none)
    again_from (suc n) i e =
        let h : i < places = omega arith in
        rows_more t i h
        ∙ ap₂ (λ (r : Row) (m : List ℕ). place_bytes i r ++ m) (table_row (rows_read s) x i h) (again_from n (i + 1) (omega arith))
        ∙ place_again i

    again_whole : image t ≡ s
    unfolding left
    again_whole = sym (rows_all t) ∙ again_from places 0 refl

  -- what is read has the bytes for its image
  pub read_has_image : (read_image s).is_image ≡ true → image (read_image s).table ≡ s
  unfolding read_image is_image
  read_has_image e = rw e (again_whole _ (empty (left s places) (eqb-true _ _ e)))
