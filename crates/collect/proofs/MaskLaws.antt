-- First entries masked in place, one place after the other, are the masked first entries.
use Rattle.std.specs.Prelude.{◌≡◌, refl, Bool, true, false, ◌||◌, List, ℕ, ◌*◌, ◌<◌, eqb, length, get_or}
use Rattle.std.proofs.Common.{sym, ap, ap₂, ◌∙◌, lit<, eqb-true}
use Rattle.bits.specs.Choice.{pick}
use Rattle.bits.specs.ChoiceLaws.{pick_false}
use Rattle.bits.specs.ListsLaws.{tabulate_ext}
use Rattle.x86defs.specs.declared.CpuidResult.{CpuidResult}
use Rattle.x86defs.specs.Functions.{cpuid_result}
use Rattle.pages.specs.Entries.{counted}
use Rattle.masking.specs.Masks.{Masks, all_ones, apply_mask}
use Rattle.masking.specs.Kept.{places, masks_at}
use Rattle.masking.specs.declared.masks.KeptLeaf.{KeptLeaf}
use Rattle.masking.specs.MaskTable.{table, no_row, masks_of, row_of_place}
use Rattle.masking.specs.KeptTableLaws.{masks_of_row, is_masked, all_ones_lem}
use Rattle.masking.specs.Place
use Rattle.table.specs.Rows.{Row, row, vacant}
use Rattle.memory.specs.Memory.{row_of, put_row, is_there, rows_in, layout}
use Rattle.memory.specs.MemoryLaws.{put_length, put_at, layout_length, layout_ext, known_by_rows}
use Rattle.memory.proofs.MemoryLaws.{layout_row}
use Rattle.collect.specs.FirstEntries.{first_at, words, word_row, firsts_of, masked_at, mask_row, rows_of}
use Rattle.collect.specs.FirstEntriesLaws.{first_of_place, row_of_place_lem}
use Rattle.collect.specs.FirstEntryOrigin.{found_origins}
use Rattle.collect.proofs.FirstEntryOriginLaws.{stands_there}
use Rattle.collect.specs.Mask.{Unmasked, Masked, legacy_row}
use Rattle.collect.specs.MaskLaws.{mask_twice, mask_words, mask_zero, words_words}

-- ---- the first entries of a page set in lent memory

module _ (s : List ℕ) where
  abbrev w : List ℕ
  w = layout (λ i. (firsts_of s i).result)

  first_result : (i : ℕ) → i < places → row_of w i ≡ (word_row (first_at i (counted s))).result
  first_result i h = layout_row (λ i. (firsts_of s i).result) i h ∙ ap (λ (x : Row). x.result) (first_of_place s i h)

  pub firsts_unmasked : Unmasked w (found_origins s)
  firsts_unmasked = record {
    size = layout_length (λ i. (firsts_of s i).result);
    wide = λ i h. ap words (first_result i h) ∙ wide (first_at i (counted s)) (first_at i (counted s)).present ∙ sym (first_result i h);
    none = λ i h e. first_result i h ∙ none (first_at i (counted s)) (first_at i (counted s)).present (sym (stands_there s i h) ∙ e);
  }
    where
      wide : (r : Row) (b : Bool) → words (pick b (row (words r.result)) vacant).result ≡ (pick b (row (words r.result)) vacant).result
      wide r true = words_words r.result
      wide r false = mask_zero all_ones

      none : (r : Row) (b : Bool) → b ≡ false → (pick b (row (words r.result)) vacant).result ≡ cpuid_result 0 0 0 0
      none r b e = rw e

  -- masked, they are the rows
  pub firsts_masked : (avic : Bool) → layout (λ i. (mask_row avic i (rows_in w (found_origins s) i)).result) ≡ layout (λ i. (rows_of avic s i).result)
  firsts_masked avic = layout_ext _ _ (λ i h. at i h)
    where
      go : (i : ℕ) → i < places → (r : Row) (b : Bool)
          → (pick b (row (masked_at avic i (pick b (row (words r.result)) vacant).result)) vacant).result ≡ (pick b (row (masked_at avic i r.result)) vacant).result
      go i h r true = mask_words avic i h r.result
      go i h r false = refl

      at : (i : ℕ) → i < places → (mask_row avic i (rows_in w (found_origins s) i)).result ≡ (rows_of avic s i).result
      at i h =
          ap₂ (λ (b : Bool) (q : CpuidResult). (pick b (row (masked_at avic i q)) vacant).result) (stands_there s i h) (first_result i h)
          ∙ go i h (first_at i (counted s)) (first_at i (counted s)).present
          ∙ sym (ap (λ (x : Row). x.result) (row_of_place_lem avic s i h))

-- ---- places masked one after the other

pub masked_none : (avic : Bool) (w : List ℕ) → length w ≡ 4 * places → Masked avic w w (λ j. false)
masked_none avic w e = record { size = e; at = λ j. refl }

-- one more place: the code names the row of the table of kept leaves that has it
pub masked_next : {avic : Bool} {w v : List ℕ} {done : ℕ → Bool} {kept : List KeptLeaf} → kept ≡ table avic → Masked avic w v done → (i j : ℕ) → i < places
    → done i ≡ false → j ≡ row_of_place i → {x : List ℕ} → x ≡ put_row v i (apply_mask (masks_of (get_or kept j no_row)) (row_of v i))
    → Masked avic w x (λ l. eqb l i || done l)
masked_next {avic} {w} {v} {done} {kept} t k i j h n r {x} e = record {
  size = ap length e ∙ put_length v i _ k.size h;
  at = λ l. ap (λ (y : List ℕ). row_of y l) e ∙ put_at v i _ k.size h l ∙ go l (eqb l i) refl;
}
  where
    f : masks_of (get_or kept j no_row) ≡ masks_at avic i
    f = ap₂ (λ (y : List KeptLeaf) (n : ℕ). masks_of (get_or y n no_row)) t r ∙ masks_of_row avic i

    go : (l : ℕ) (b : Bool) → eqb l i ≡ b
        → pick b (apply_mask (masks_of (get_or kept j no_row)) (row_of v i)) (row_of v l) ≡ pick (b || done l) (apply_mask (masks_at avic l) (row_of w l)) (row_of w l)
    go l true q =
        ap₂ apply_mask f (k.at i ∙ pick_false _ _ n) ∙ ap (λ (y : ℕ). apply_mask (masks_at avic y) (row_of w y)) (sym (eqb-true l i q))
    go l false q = k.at l

-- some places, and then others
pub masked_both : {avic : Bool} {w v x : List ℕ} {a b : ℕ → Bool} → Masked avic w v a → Masked avic v x b → Masked avic w x (λ j. b j || a j)
masked_both {avic} {w} {v} {x} {a} {b} k m = record { size = m.size; at = λ j. m.at j ∙ go j (b j) (a j) (k.at j) }
  where
    go : (j : ℕ) (p q : Bool) → row_of v j ≡ pick q (apply_mask (masks_at avic j) (row_of w j)) (row_of w j)
        → pick p (apply_mask (masks_at avic j) (row_of v j)) (row_of v j) ≡ pick (p || q) (apply_mask (masks_at avic j) (row_of w j)) (row_of w j)
    go j true true e = ap (apply_mask (masks_at avic j)) e ∙ mask_twice (masks_at avic j) (row_of w j)
    go j true false e = ap (apply_mask (masks_at avic j)) e
    go j false q e = e

-- all of them, and then the two bits of D.0.EAX
pub masked_last : {avic : Bool} {w v o : List ℕ} → Unmasked w o → Masked avic w v is_masked → {x : List ℕ}
    → x ≡ put_row v (Place.extended_state 0) (legacy_row (is_there (get_or o (Place.extended_state 0) 0)) (row_of v (Place.extended_state 0)))
    → x ≡ layout (λ i. (mask_row avic i (rows_in w o i)).result)
masked_last {avic} {w} {v} {o} u k {x} e =
    known_by_rows x _ (ap length e ∙ put_length v 6 _ k.size inside)
    (tabulate_ext places (row_of x) (λ i. (mask_row avic i (rows_in w o i)).result) (λ j h.
    ap (λ (l : List ℕ). row_of l j) e ∙ put_at v 6 _ k.size inside j ∙ go j h (eqb j 6) refl))
  where
    inside : 6 < places
    inside = lit< tt

    all : (j : ℕ) → j < places → row_of v j ≡ apply_mask (masks_at avic j) (row_of w j)
    all j h = k.at j ∙ which (is_masked j) refl
      where
        which : (b : Bool) → is_masked j ≡ b → pick b (apply_mask (masks_at avic j) (row_of w j)) (row_of w j) ≡ apply_mask (masks_at avic j) (row_of w j)
        which true q = refl
        which false q = sym (u.wide j h) ∙ ap (λ (m : Masks). apply_mask m (row_of w j)) (sym (all_ones_lem avic j h q))

    -- where there is no row, nothing is left of it
    zero : (j : ℕ) → j < places → is_there (get_or o j 0) ≡ false → row_of v j ≡ cpuid_result 0 0 0 0
    zero j h q = all j h ∙ ap (apply_mask (masks_at avic j)) (u.none j h q) ∙ mask_zero (masks_at avic j)

    go : (j : ℕ) → j < places → (b : Bool) → eqb j 6 ≡ b
        → pick b (legacy_row (is_there (get_or o 6 0)) (row_of v 6)) (row_of v j) ≡ (mask_row avic j (rows_in w o j)).result
    go j h true q = let z : j ≡ 6 = eqb-true j 6 q in rw z (there (is_there (get_or o 6 0)) refl)
      where
        there : (c : Bool) → is_there (get_or o 6 0) ≡ c
            → legacy_row c (row_of v 6) ≡ (pick c (row (masked_at avic 6 (row_of w 6))) vacant).result
        there true p = ap (legacy_row true) (all 6 inside)
        there false p = zero 6 inside p
    go j h false q = there (is_there (get_or o j 0)) refl
      where
        there : (c : Bool) → is_there (get_or o j 0) ≡ c → row_of v j ≡ (pick c (row (masked_at avic j (row_of w j))) vacant).result
        there true p = all j h ∙ rw q
        there false p = zero j h p
