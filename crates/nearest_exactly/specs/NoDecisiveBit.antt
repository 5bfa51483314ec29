-- Where the search ends: no flip changes anything exactly where a leaf of the two required lists is missing.
use Rattle.std.specs.Prelude.{◌≡◌, Bool, true, not, ◌⊎◌, ◌≢◌, ℕ, zero, suc, ◌/◌, ◌%◌, ◌≤◌, ◌<◌, eqb, ltb, length, set, replicate, Err, None, Ok, Option, Result, Some}
use Rattle.std.proofs.Math.Path.{refl, ap}
use Rattle.std.proofs.Common.{sym, ◌∙◌, inl, inr, arith, length-set, get_or-set_other, eqb-true, ne_eqb, ltb-true, ltb-false}
use Rattle.std.proofs.Math.Bool.{false}
use mathlib.Core.List.{List, ◌++◌, append-nil}
use Rattle.std.proofs.Math.ListN.{get_or}
use Rattle.std.proofs.lemmas.List.{get_or-replicate}
use Rattle.std.proofs.lemmas.Bool.{eqb-false}
use Rattle.bits.specs.ChoiceLaws.{never_both}
use Rattle.bits.specs.Search.{Failing, lowest}
use Rattle.bits.specs.Search.Failing.{at, none}
use Rattle.bits.specs.SearchLaws.{Lowest, lowest_none, lowest_at, lowest_unique}
use Rattle.bits.specs.Bits.{has}
use Rattle.x86defs.specs.declared.CpuidResult.{CpuidResult}
use Rattle.pages.specs.declared.CpuidPageIndex.{CpuidPageIndex}
use Rattle.pages.specs.Layout.{Entry, entry_at, pages_in}
use Rattle.pages.specs.Walk.{first_index, incremented, rest}
use Rattle.pages.specs.WalkLaws.{turn, rest_end}
use Rattle.masking.specs.Kept.{kept_leaves, place_of, places}
use Rattle.masking.specs.Masks.{apply_mask}
use Rattle.masking.specs.Place
use Rattle.masking.specs.declared.masks.KeptLeaf.{KeptLeaf}
use Rattle.masking.specs.MaskTable.{table, no_row, masks_of, row_of_place}
use Rattle.table.specs.declared.Choices.{Choices}
use Rattle.table.specs.declared.Refusal.{Refusal}
use Rattle.table.specs.declared.Refusal.TheVariants.{InvlpgbUnavailable, NothingDecides}
use Rattle.table.specs.Edition.{known_edition}
use Rattle.table.specs.Rows.{Row, Rows, row}
use Rattle.checks.specs.Required.{common_required_leaves, snp_required_leaves, required_at, place_required}
use Rattle.checks.specs.Checks.{required_verdict, invlpgb_verdict}
use Rattle.checks.specs.ChecksLaws.{required_present}
use Rattle.collect.specs.FirstEntries.{set_legacy, masked_at}
use Rattle.collect.specs.Collect.{stored_at, first_among}
use Rattle.collect.specs.CollectLaws.{row_masks}
use Rattle.collect.specs.Lawful.{lawful_verdict}
use Rattle.build.specs.Build.{rows_for}
use Rattle.collect.proofs.LawfulLaws.{lawful_counts}
use Rattle.nearest.specs.Flips.{flip, flips}
use Rattle.nearest.specs.OneBit.{one_bit, xor_result}
use Rattle.nearest.specs.SameVerdict.{same_from}
use Rattle.nearest.specs.Changes.{changes}
use Rattle.nearest.specs.WithRow.{with_row}
use Rattle.nearest.specs.WithRowLaws.{required_same}
use Rattle.nearest.specs.FlippedRowLaws.{rows_present, taken_row}
use Rattle.nearest.specs.Irrelevant.{irrelevant}
use Rattle.nearest.specs.SearchReturnLaws.{irrelevant_missing, irrelevant_clear}
use Rattle.nearest.specs.BitLaws.{keeps, bit_found, first_bit}
use Rattle.nearest.proofs.BitLaws.{bit_irrelevant}
use Rattle.nearest.specs.Nearest.{first_that}
use Rattle.nearest.specs.NearestSearchLaws.{Searching, searching_first, searching_last}
use Rattle.nearest.proofs.NearestSearchLaws.{search_passes, search_none, search_found, seen_taken, not_kept, here, inside}
use Rattle.nearest_exactly.specs.Invlpgb.{invlpgb, invlpgb_flip, flip_below, clear_same}
use Rattle.nearest.specs.declared.flips.Flip.{Flip}

-- the lowest number that fails a test is the one that is searched
lowest_is : (test : ℕ → Bool) (k n j : ℕ) → Lowest test k n j → lowest test k n ≡ at j
lowest_is test k n j w = go (lowest test k n) refl
  where
    go : (f : Failing) → lowest test k n ≡ f → f ≡ at j
    go (at i) e = ap at (lowest_unique (lowest_at test k n i e) w)
    go none e = absurd (never_both (lowest_none test k n e j w.from w.below) w.fails)

module _ (c : Choices) (s : List ℕ) (bytes : (n : ℕ) → get_or s n 0 < 256) (known : known_edition c.edition ≡ true)
    (lawful : lawful_verdict s ≡ Ok tt) where
  abbrev avic : Bool
  avic = c.secure_avic

  abbrev m : Rows
  m = rows_for c s

  abbrev found : Result Flip Refusal
  found = first_that (changes c s) (flips s)

  abbrev kept : ℕ → KeptLeaf
  kept place = get_or (table avic) (row_of_place place) no_row

  abbrev entry : CpuidPageIndex → Entry
  entry i = entry_at s i.page_index i.function_index

  abbrev bit_at : ℕ → CpuidPageIndex → Option ℕ
  bit_at place i = first_bit c.edition m (kept place) place (entry i).registers

  -- an entry that is the first of its place
  record Fresh (seen : List Bool) (i : CpuidPageIndex) (place : ℕ) : Type 0 where
    pub searching : Searching c s seen i
    pub on : i.page_index < pages_in s
    pub small : place < places
    pub at : stored_at (entry i) ≡ place
    pub new : get_or seen place false ≡ false

  fresh_row : (seen : List Bool) (i : CpuidPageIndex) (place : ℕ) → Fresh seen i place → m place ≡ row (masked_at avic place (entry i).registers)
  fresh_row seen i place f =
      let w = f.searching in
      taken_row avic s i.page_index i.function_index 0 0 (inside c s bytes known lawful seen i w f.on 0 (omega arith))
      (lawful_counts s lawful) w.done
      (rest s (incremented s i)) (here c s bytes known lawful seen i w f.on) place f.small f.at (sym (w.marks place f.small) ∙ f.new)

  masks : (place : ℕ) (x : CpuidResult) → set_legacy place (apply_mask (masks_of (kept place)) x) ≡ masked_at avic place x
  masks place x = row_masks avic place (row_of_place place) (table avic) x refl refl

  -- a walk to the end: what holds of the places seen is kept by each entry that is passed, or the walk is left
  module _ (P : Type 0) (Q : List Bool → Type 0)
      (last : (seen : List Bool) (i : CpuidPageIndex) → Searching c s seen i → pages_in s ≤ i.page_index → Q seen → P)
      (fresh : (seen : List Bool) (i : CpuidPageIndex) (place : ℕ) → Fresh seen i place → Q seen
      → ((bit_at place i ≡ None) × Q (set seen place true)) ⊎ P) where
    one_turn : (n : ℕ) → ((seen : List Bool) (i : CpuidPageIndex) → Searching c s seen i → length (rest s i) ≤ n → Q seen → P)
        → (seen : List Bool) (i : CpuidPageIndex) → Searching c s seen i → length (rest s i) ≤ suc n → i.page_index < pages_in s → Q seen → P
    one_turn n ih seen i w l h q = go (ltb place places) (get_or seen place false) refl refl
      where
        place : ℕ
        place = stored_at (entry i)

        shorter : length (rest s (incremented s i)) ≤ n
        shorter = omega (arith, (turn s i w.valid h).falls)

        go : (a b : Bool) → ltb place places ≡ a → get_or seen place false ≡ b → P
        go false b f g = ih seen (incremented s i) (search_passes c s bytes known lawful seen i w h (not_kept seen refl (ltb-false _ _ f))) shorter q
        go true true f g = ih seen (incremented s i) (search_passes c s bytes known lawful seen i w h (seen_taken seen refl g)) shorter q
        go true false f g =
            let small = ltb-true place places f in
            elim (fresh seen i place (record { searching = w; on = h; small = small; at = refl; new = g }) q) [
              | inl x ↦ ih (set seen place true) (incremented s i)
                  (search_none c s bytes known lawful seen i w h place small refl g (kept place) (masks place) x.0) shorter x.1
              | inr p ↦ p
            ]

    walk : (n : ℕ) (seen : List Bool) (i : CpuidPageIndex) → Searching c s seen i → length (rest s i) ≤ n → Q seen → P
    walk zero seen i w l q = go (ltb i.page_index (pages_in s)) refl
      where
        go : (b : Bool) → ltb i.page_index (pages_in s) ≡ b → P
        go true f = absurd (omega (arith, (turn s i w.valid (ltb-true _ _ f)).falls))
        go false f = last seen i w (ltb-false _ _ f) q
    walk (suc n) seen i w l q = go (λ seen' i' w' l' q'. walk n seen' i' w' l' q') (ltb i.page_index (pages_in s)) refl
      where
        go : ((seen : List Bool) (i : CpuidPageIndex) → Searching c s seen i → length (rest s i) ≤ n → Q seen → P)
            → (b : Bool) → ltb i.page_index (pages_in s) ≡ b → P
        go ih true f = one_turn n ih seen i w l (ltb-true _ _ f) q
        go ih false f = last seen i w (ltb-false _ _ f) q

  -- ---- where one is missing, no flip changes anything

  pub nothing_decides : (r : Refusal) → required_verdict m ≡ Err r → found ≡ Err NothingDecides
  nothing_decides r e =
      sym (walk (Err NothingDecides ≡ found) (λ seen. length seen ≡ places) (λ seen i w l q. searching_last c s seen i w l)
      (λ seen i place f q. inl (
        sym (bit_irrelevant c.edition m (kept place) place _ (ap (λ (x : Row). x.present) (fresh_row seen i place f)) (missing place)),
        length-set seen place true ∙ q,
      ))
      (length (rest s (first_index s))) (replicate places false) (first_index s) (searching_first c s) (omega arith) (searching_first c s).whole)
    where
      missing : (place : ℕ) → irrelevant m place ≡ true
      missing place = sym (irrelevant_missing m place e)

  -- ---- where none is missing, some flip does: at the latest that of INVLPGB

  abbrev sizes : ℕ
  sizes = Place.extended_address_space_sizes

  required_there : required_verdict m ≡ Ok tt → (m sizes).present ≡ true
  unfolding place_required required_at common_required_leaves snp_required_leaves place_of kept_leaves
  required_there e = required_present m e 9 (omega arith)

  -- at the end every place that has a row is seen
  all_seen : (seen : List Bool) (i : CpuidPageIndex) → Searching c s seen i → pages_in s ≤ i.page_index → get_or seen sizes false ≡ (m sizes).present
  all_seen seen i w l =
      w.marks sizes (omega arith)
      ∙ ap (λ (x : List Entry). (first_among sizes x).present)
      (sym (w.split ∙ ap (λ (x : List Entry). w.done ++ x) (rest_end s i l) ∙ append-nil w.done))
      ∙ sym (rows_present avic s sizes (omega arith))

  pub some_decides : required_verdict m ≡ Ok tt → found ≡ Err NothingDecides → ⊥
  unfolding keeps first_bit
  some_decides e None-found =
      walk ⊥ (λ seen. get_or seen sizes false ≡ false) (λ seen i w l q. never_both (all_seen seen i w l ∙ required_there e) q) fresh
      (length (rest s (first_index s))) (replicate places false) (first_index s) (searching_first c s) (omega arith)
      (get_or-replicate places sizes false false (omega arith))
    where
      keeps_35 : (seen : List Bool) (i : CpuidPageIndex) → Fresh seen i sizes → bit_at sizes i ≡ None → ⊥
      keeps_35 seen i f b =
          never_both
          (lowest_none (keeps c.edition m (kept sizes) sizes (entry i).registers) 0 128 (none_of_lem _ b) 35 (omega arith) (omega arith))
          (ap (λ (y : CpuidResult). same_from c.edition (with_row sizes y m) m) (masks sizes (xor_result (entry i).registers (one_bit 1 3)))
          ∙ invlpgb_flip avic c.edition m (entry i).registers e (fresh_row seen i sizes f))
        where
          none_of_lem : (x : Failing) → bit_found x ≡ None → x ≡ none
          none_of_lem (at n) g = cc
          none_of_lem none g = refl

      fresh : (seen : List Bool) (i : CpuidPageIndex) (place : ℕ) → Fresh seen i place → get_or seen sizes false ≡ false
          → ((bit_at place i ≡ None) × (get_or (set seen place true) sizes false ≡ false)) ⊎ ⊥
      fresh seen i place f q = go (bit_at place i) refl (eqb sizes place) refl
        where
          go : (b : Option ℕ) → bit_at place i ≡ b → (d : Bool) → eqb sizes place ≡ d
              → ((bit_at place i ≡ None) × (get_or (set seen place true) sizes false ≡ false)) ⊎ ⊥
          go (Some n) g d h =
              let z = search_found c s bytes known lawful seen i f.searching f.on place f.small
              f.at f.new (kept place) (masks place) n g in
              let y : ◌≡◌ {A = ℕ} 0 1 = cc in absurd (omega arith)
          go None g true h = let p : sizes ≡ place = eqb-true sizes place h in inr (keeps_35 seen i (rw p f) (rw p g))
          go None g false h = inl (g, get_or-set_other seen place sizes true false (eqb-false sizes place h) ∙ q)

  -- ---- without INVLPGB its own bit is the first that decides

  abbrev flipped_row : ℕ → CpuidPageIndex → CpuidResult
  flipped_row j i = masked_at avic sizes (xor_result (entry i).registers (one_bit (j / 32) (j % 32)))

  -- bit 35 of the entry's 128, EBX bit 3
  first_35 : required_verdict m ≡ Ok tt → invlpgb m ≡ false → (seen : List Bool) (i : CpuidPageIndex) → Fresh seen i sizes → bit_at sizes i ≡ Some 35
  unfolding first_bit keeps with_row
  first_35 e g seen i f =
      ap bit_found (lowest_is (keeps c.edition m (kept sizes) sizes (entry i).registers) 0 128 35 (record {
        from = omega arith;
        below = omega arith;
        fails = at_row 35 ∙ invlpgb_flip avic c.edition m (entry i).registers e there;
        before = λ j a l.
            at_row j ∙ clear_same c.edition m (with_row sizes (flipped_row j i) m) e
            (required_same sizes (flipped_row j i) m (ap (λ (x : Row). x.present) there) ∙ e) g
            (flip_below avic (entry i).registers j l ∙ ap (λ (x : Row). has 3 x.result.ebx) (sym there) ∙ g);
      }))
    where
      there : m sizes ≡ row (masked_at avic sizes (entry i).registers)
      there = fresh_row seen i sizes f

      at_row : (j : ℕ) → keeps c.edition m (kept sizes) sizes (entry i).registers j ≡ same_from c.edition (with_row sizes (flipped_row j i) m) m
      at_row j =
          ap (λ (y : CpuidResult). same_from c.edition (with_row sizes y m) m) (masks sizes (xor_result (entry i).registers (one_bit (j / 32) (j % 32))))

  pub without_invlpgb : required_verdict m ≡ Ok tt → invlpgb m ≡ false
      → (p : ℕ) × (q : ℕ) × (stored_at (entry_at s p q) ≡ sizes) × (found ≡ Ok (flip p q 1 3))
  without_invlpgb e g =
      walk Found (λ seen. get_or seen sizes false ≡ false) (λ seen i w l q. absurd (never_both (all_seen seen i w l ∙ required_there e) q)) fresh
      (length (rest s (first_index s))) (replicate places false) (first_index s) (searching_first c s) (omega arith)
      (get_or-replicate places sizes false false (omega arith))
    where
      Found : Type 0
      Found = (p : ℕ) × (q : ℕ) × (stored_at (entry_at s p q) ≡ sizes) × (found ≡ Ok (flip p q 1 3))

      clear : invlpgb_verdict m ≡ Err InvlpgbUnavailable
      clear = unfold invlpgb_verdict in rw g

      decides : (seen : List Bool) (i : CpuidPageIndex) → Fresh seen i sizes → Found
      decides seen i f = (
        i.page_index,
        i.function_index,
        f.at,
        sym (search_found c s bytes known lawful seen i f.searching f.on sizes f.small f.at f.new (kept sizes) (masks sizes) 35
            (first_35 e g seen i f)),
      )

      fresh : (seen : List Bool) (i : CpuidPageIndex) (place : ℕ) → Fresh seen i place → get_or seen sizes false ≡ false
          → ((bit_at place i ≡ None) × (get_or (set seen place true) sizes false ≡ false)) ⊎ Found
      fresh seen i place f q = go (eqb sizes place) refl
        where
          go : (d : Bool) → eqb sizes place ≡ d → ((bit_at place i ≡ None) × (get_or (set seen place true) sizes false ≡ false)) ⊎ Found
          go true h = let p : sizes ≡ place = eqb-true sizes place h in inr (decides seen i (rw p f))
          go false h =
              let n : sizes ≢ place = eqb-false sizes place h in
              inl (
                sym (bit_irrelevant c.edition m (kept place) place _ (ap (λ (x : Row). x.present) (fresh_row seen i place f))
                    (sym (irrelevant_clear m place e clear) ∙ ap not (ne_eqb place sizes (λ z. n (sym z))))),
                get_or-set_other seen place sizes true false n ∙ q,
              )
