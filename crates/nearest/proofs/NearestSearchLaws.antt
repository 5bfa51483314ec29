-- The search, entry by entry: the 128 flips of an entry are searched, or passed over together.
use Rattle.std.specs.Prelude.{◌≡◌, Bool, false, ℕ, zero, suc, ◌+◌, ◌/◌, ◌%◌, ◌≤◌, ◌<◌, eqb, length, get_or, set, Err, None, Ok, Option, Some}
use Rattle.std.proofs.Math.Path.{refl, sym, ap}
use Rattle.std.proofs.Common.{◌∙◌, arith, length-set, get_or-set_same, get_or-set_other, eqb-true, eq-eqb, ne_eqb}
use Rattle.std.proofs.Math.Bool.{true, not}
use mathlib.Core.List.{List, [], ◌∷◌, ◌++◌, append_assoc}
use Rattle.std.proofs.lemmas.Bool.{eqb-false}
use Rattle.bits.specs.Choice.{pick}
use Rattle.bits.specs.ChoiceLaws.{never_both}
use Rattle.bits.specs.Lists.{tabulate}
use Rattle.bits.specs.Search.{Failing, lowest}
use Rattle.bits.specs.Search.Failing.{at, none}
use Rattle.bits.specs.SearchLaws.{lowest_all}
use Rattle.x86defs.specs.declared.CpuidFunction.{CpuidFunction}
use Rattle.x86defs.specs.declared.CpuidResult.{CpuidResult}
use Rattle.pages.specs.declared.CpuidPageIndex.{CpuidPageIndex}
use Rattle.pages.specs.declared.ParsedCpuidEntry.{ParsedCpuidEntry}
use Rattle.pages.specs.Layout.{Entry, entry_at, pages_in}
use Rattle.pages.specs.Entries.{entries}
use Rattle.pages.specs.Parsed.{parsed}
use Rattle.pages.specs.ReservedLaws.{clean_at}
use Rattle.pages.specs.Walk.{incremented, rest}
use Rattle.pages.specs.WalkLaws.{Turn, turn}
use Rattle.pages.specs.Read.{entry_here, clean_here, read_at}
use Rattle.pages.specs.ReadLaws.{read_entry, read_unclean}
use Rattle.masking.specs.Kept.{places}
use Rattle.masking.specs.Masks.{apply_mask}
use Rattle.masking.specs.declared.masks.KeptLeaf.{KeptLeaf}
use Rattle.masking.specs.MaskTable as Kept
use Rattle.masking.specs.MaskTable.{no_row, masks_of, row_of_place}
use Rattle.table.specs.declared.Choices.{Choices}
use Rattle.table.specs.Edition.{known_edition}
use Rattle.table.specs.Rows.{Row, Rows, row, vacant}
use Rattle.collect.specs.FirstEntries.{set_legacy, masked_at}
use Rattle.collect.specs.Collect.{counted_place, stored_at, first_among}
use Rattle.collect.specs.CollectLaws.{counted_place_stored, first_none, first_cons, row_masks}
use Rattle.collect.specs.Lawful.{lawful_verdict}
use Rattle.build.specs.Build.{rows_for}
use Rattle.collect.proofs.LawfulLaws.{lawful_counts, lawful_clean}
use Rattle.nearest.specs.declared.flips.Flip.{Flip}
use Rattle.nearest.specs.Flips.{flip, flips_of, flips_in, flips}
use Rattle.nearest.specs.OneBit.{one_bit, xor_result}
use Rattle.nearest.specs.FlippedEntryLaws.{Inside}
use Rattle.nearest.specs.SameVerdict.{same_from}
use Rattle.nearest.specs.Changes.{changes}
use Rattle.nearest.specs.WithRow.{with_row}
use Rattle.nearest.specs.FlippedRowLaws.{first_append, taken_row}
use Rattle.nearest.proofs.ChangesLaws.{changes_nothing, changes_row}
use Rattle.nearest.specs.Nearest.{first_that}
use Rattle.nearest.specs.BitLaws.{keeps, bit_found, first_bit}
use Rattle.nearest.specs.NearestSearchLaws.{AtEntry, Searching, flip_number, lowest_ext, not_not, position_fits, when_found}

first_run : (test : Flip → Bool) (g f : ℕ → Flip) (k m : ℕ) (fs : List Flip) → ((j : ℕ) → f j ≡ g (k + j))
    → first_that test (tabulate m f ++ fs) ≡ when_found g (lowest (λ n. not (test (g n))) k m) (first_that test fs)
unfolding first_that tabulate lowest
first_run test g f k zero fs h = refl
first_run test g f k (suc m) fs h =
    let e : f 0 ≡ g k = h 0 ∙ ap g (let z : k + 0 ≡ k = omega arith in z) in
    let ih = first_run test g (λ j. f (suc j)) (suc k) m fs (λ j. h (suc j) ∙ ap g (let z : k + suc j ≡ suc k + j = omega arith in z)) in
    rw (e, ih) (go (test (g k)))
  where
    go : (b : Bool) → pick b (Ok (g k)) (when_found g (lowest (λ n. not (test (g n))) (suc k) m) (first_that test fs))
        ≡ when_found g (pick (not b) (lowest (λ n. not (test (g n))) (suc k) m) (at k)) (first_that test fs)
    go true = refl
    go false = refl

search_entry : (test : Flip → Bool) (e : Entry) (es : List Entry)
    → first_that test (flips_in (e ∷ es)) ≡ when_found (flip_number e) (lowest (λ n. not (test (flip_number e n))) 0 128) (first_that test (flips_in es))
unfolding flips_in flips_of
search_entry test e es =
    first_run test (flip_number e) (flip_number e) 0 128 (flips_in es) (λ j. ap (flip_number e) (let z : j ≡ 0 + j = omega arith in z))

-- ---- one turn

module _ (c : Choices) (s : List ℕ) (bytes : (n : ℕ) → get_or s n 0 < 256) (known : known_edition c.edition ≡ true)
    (lawful : lawful_verdict s ≡ Ok tt) (seen : List Bool)
    (i : CpuidPageIndex) (w : Searching c s seen i) (h : i.page_index < pages_in s) where
  abbrev p : ℕ
  p = i.page_index

  abbrev q : ℕ
  q = i.function_index

  abbrev e : Entry
  e = entry_at s p q

  pub step : Turn s i
  step = turn s i w.valid h

  pub here : entries s ≡ w.done ++ e ∷ rest s (incremented s i)
  here = w.split ∙ ap (λ (x : List Entry). w.done ++ x) step.taken

  pub inside : (n : ℕ) → n < 128 → Inside s p q (n / 32) (n % 32)
  inside n l = record { bytes = bytes; page = h; entry = position_fits s i lawful w.valid h; register = omega arith; bit = omega arith }

  abbrev test : ℕ → Bool
  test n = changes c s (flip p q (n / 32) (n % 32))

  from_here : first_that (changes c s) (flips s)
      ≡ when_found (λ n. flip p q (n / 32) (n % 32)) (lowest (λ n. not (test n)) 0 128) (first_that (changes c s) (flips_in (rest s (incremented s i))))
  unfolding entry_at
  from_here =
      w.left ∙ ap (λ (x : List Entry). first_that (changes c s) (flips_in x)) step.taken ∙ search_entry (changes c s) e (rest s (incremented s i))

  one_more : entries s ≡ (w.done ++ e ∷ []) ++ rest s (incremented s i)
  one_more = here ∙ sym (append_assoc w.done (e ∷ []) (rest s (incremented s i)))

  marked : (j : ℕ) → j < places → (first_among j (w.done ++ e ∷ [])).present ≡ pick (get_or seen j false) true (eqb (stored_at e) j)
  marked j l =
      rw (first_append j l w.done (e ∷ []), first_cons j l e [], first_none j, w.marks j l) (go (first_among j w.done) (eqb (stored_at e) j))
    where
      go : (x : Row) (b : Bool) → (pick x.present x (pick b (row e.registers) vacant)).present ≡ pick x.present true b
      go x b = side x.present b refl
        where
          side : (a b : Bool) → x.present ≡ a → (pick a x (pick b (row e.registers) vacant)).present ≡ pick a true b
          side true b f = f
          side false true f = refl
          side false false f = refl

  -- nothing is found among the entry's flips, and the marks take it in
  onward : {seen' : List Bool} → length seen' ≡ places
      → ((j : ℕ) → j < places → get_or seen' j false ≡ pick (get_or seen j false) true (eqb (stored_at e) j))
      → lowest (λ n. not (test n)) 0 128 ≡ none → Searching c s seen' (incremented s i)
  onward whole marks f = record {
    valid = step.valid;
    done = w.done ++ e ∷ [];
    split = one_more;
    whole = whole;
    marks = λ j l. marks j l ∙ sym (marked j l);
    left = from_here
        ∙ ap (λ (x : Failing). when_found (λ n. flip p q (n / 32) (n % 32)) x (first_that (changes c s) (flips_in (rest s (incremented s i))))) f;
  }

  -- an entry that is not kept, or whose place is seen
  pub search_passes : ((j : ℕ) → j < places → get_or seen j false ≡ false → stored_at e ≡ j → ⊥) → Searching c s seen (incremented s i)
  search_passes n =
      onward w.whole (λ j l. mark j l (get_or seen j false) (eqb (stored_at e) j) refl refl)
      (lowest_all (λ n. not (test n)) 0 128 (λ m u v.
      ap not (changes_nothing c s p q (m / 32) (m % 32) (inside m (omega arith)) known lawful w.done (rest s (incremented s i)) here
      (λ j l f g. n j l (w.marks j l ∙ f) g))))
    where
      mark : (j : ℕ) → j < places → (a b : Bool) → get_or seen j false ≡ a → eqb (stored_at e) j ≡ b → a ≡ pick a true b
      mark j l true b u v = refl
      mark j l false true u v = absurd (n j l u (eqb-true (stored_at e) j v))
      mark j l false false u v = refl

  -- the first entry of its place gives it its row
  fresh_row : (place : ℕ) → place < places → stored_at e ≡ place → get_or seen place false ≡ false
      → rows_for c s place ≡ row (masked_at c.secure_avic place e.registers)
  fresh_row place small at_place new =
      taken_row c.secure_avic s p q 0 0 (inside 0 (omega arith)) (lawful_counts s lawful) w.done (rest s (incremented s i)) here
      place small at_place (sym (w.marks place small) ∙ new)

  module _ (place : ℕ) (small : place < places) (at_place : stored_at e ≡ place) (new : get_or seen place false ≡ false) (kept : KeptLeaf)
      (masks : (x : CpuidResult) → set_legacy place (apply_mask (masks_of kept) x) ≡ masked_at c.secure_avic place x) where
    agrees : lowest (λ n. not (test n)) 0 128 ≡ lowest (keeps c.edition (rows_for c s) kept place e.registers) 0 128
    unfolding keeps
    agrees =
        lowest_ext _ _ 0 128 (λ n l u.
        ap not (changes_row c s p q (n / 32) (n % 32) (inside n (omega arith)) known lawful w.done
        (rest s (incremented s i)) here place small at_place
        (sym (w.marks place small) ∙ new))
        ∙ not_not _
        ∙ ap (λ (x : CpuidResult). same_from c.edition (with_row place x (rows_for c s)) (rows_for c s))
        (sym (masks (xor_result e.registers (one_bit (n / 32) (n % 32))))))

    pub search_none : first_bit c.edition (rows_for c s) kept place e.registers ≡ None
        → Searching c s (set seen place true) (incremented s i)
    unfolding first_bit
    search_none f =
        onward (length-set seen place true ∙ w.whole) (λ j l. mark j (eqb j place) refl)
        (agrees ∙ found (lowest (keeps c.edition (rows_for c s) kept place e.registers) 0 128) f)
      where
        found : (x : Failing) → bit_found x ≡ None → x ≡ none
        found (at n) g = cc
        found none g = refl

        mark : (j : ℕ) (b : Bool) → eqb j place ≡ b → get_or (set seen place true) j false ≡ pick (get_or seen j false) true (eqb (stored_at e) j)
        mark j true g =
            rw (eqb-true j place g, get_or-set_same seen place true false (omega (arith, w.whole)), new, eq-eqb (stored_at e) place at_place)
        mark j false g =
            let n : j ≡ place → ⊥ = eqb-false j place g in
            rw (get_or-set_other seen place j true false n, ne_eqb (stored_at e) j (λ x. n (sym x ∙ at_place))) (sym (pick_mark (get_or seen j false)))
          where
            pick_mark : (b : Bool) → pick b true false ≡ b
            pick_mark true = refl
            pick_mark false = refl

    pub search_found : (n : ℕ) → first_bit c.edition (rows_for c s) kept place e.registers ≡ Some n
        → Ok (flip p q (n / 32) (n % 32)) ≡ first_that (changes c s) (flips s)
    unfolding first_bit
    search_found n f =
        sym (from_here
        ∙ ap (λ (x : Failing). when_found (λ n. flip p q (n / 32) (n % 32)) x (first_that (changes c s) (flips_in (rest s (incremented s i)))))
        (agrees ∙ found (lowest (keeps c.edition (rows_for c s) kept place e.registers) 0 128) f))
      where
        found : (x : Failing) → bit_found x ≡ Some n → x ≡ at n
        found (at m) g = cc
        found none g = cc

-- a place that is seen, or past the last, passes
pub seen_taken : (seen : List Bool) {place stored : ℕ} → place ≡ stored → get_or seen place false ≡ true
    → (j : ℕ) → j < places → get_or seen j false ≡ false → stored ≡ j → ⊥
seen_taken seen e f j l g h = never_both (rw (e ∙ h) at f) g

pub not_kept : (seen : List Bool) {place stored : ℕ} → place ≡ stored → places ≤ place
    → (j : ℕ) → j < places → get_or seen j false ≡ false → stored ≡ j → ⊥
not_kept seen e f j l g h = omega arith

module _ {c : Choices} {s : List ℕ} {seen : List Bool} {i : CpuidPageIndex} {e : ParsedCpuidEntry} {place : ℕ}
    (a : AtEntry c s seen i e place) where
  given : (e ≡ parsed (entry_here s i)) × (clean_here s i ≡ true)
  given = read_entry s i a.read

  at_place : place ≡ stored_at (entry_here s i)
  at_place = a.stored ∙ ap counted_place given.0 ∙ counted_place_stored (entry_here s i)

  pub entry_falls : length (rest s (incremented s i)) < length (rest s i)
  entry_falls = (turn s i a.searching.valid a.inside).falls

  module _ (bytes : (n : ℕ) → get_or s n 0 < 256) where
    passes : ((k : ℕ) → k < places → get_or seen k false ≡ false → stored_at (entry_here s i) ≡ k → ⊥) → Searching c s seen (incremented s i)
    passes f = search_passes c s bytes a.known a.lawful seen i a.searching a.inside f

    pub entry_seen : get_or seen place false ≡ true → Searching c s seen (incremented s i)
    entry_seen f = passes (seen_taken seen at_place f)

    -- the first entry of its place has a row there
    pub entry_present : place < places → get_or seen place false ≡ false → {m : Rows} → m ≡ rows_for c s → (m place).present ≡ true
    entry_present small new e =
        ap (λ (q : Rows). (q place).present) e
        ∙ ap (λ (x : Row). x.present)
        (fresh_row c s bytes a.known a.lawful seen i a.searching a.inside place small (sym at_place) new)

    pub entry_not_kept : places ≤ place → Searching c s seen (incremented s i)
    entry_not_kept f = passes (not_kept seen at_place f)

    -- the first entry of its place; b is what the code finds at the collected rows
    module _ (small : place < places) (new : get_or seen place false ≡ false) {m : Rows} {kept : List KeptLeaf} {row : ℕ} {b : Option ℕ}
        (rows : m ≡ rows_for c s) (table : kept ≡ Kept.table c.secure_avic) (masks : row ≡ row_of_place place)
        (bit : b ≡ first_bit c.edition m (get_or kept row no_row) place e.result) where
      bit_here : first_bit c.edition (rows_for c s) (get_or kept row no_row) place (entry_here s i).registers ≡ b
      bit_here =
          sym (bit ∙ (λ k. first_bit c.edition (rows k) (get_or kept row no_row) place (ap (λ (p : ParsedCpuidEntry). p.result) given.0 k)))

      pub entry_none : b ≡ None → Searching c s (set seen place true) (incremented s i)
      entry_none f =
          search_none c s bytes a.known a.lawful seen i a.searching a.inside place small (sym at_place) new
          (get_or kept row no_row) (λ x. row_masks c.secure_avic place row kept x table masks) (bit_here ∙ f)

      pub entry_decides : {n : ℕ} → b ≡ Some n
          → Ok (flip i.page_index i.function_index (n / 32) (n % 32)) ≡ first_that (changes c s) (flips s)
      entry_decides {n} f =
          search_found c s bytes a.known a.lawful seen i a.searching a.inside place small (sym at_place) new
          (get_or kept row no_row) (λ x. row_masks c.secure_avic place row kept x table masks) n (bit_here ∙ f)

-- lawful pages have no unclean entry
pub no_unclean : {c : Choices} {s : List ℕ} {seen : List Bool} {i : CpuidPageIndex} {l : CpuidFunction} → lawful_verdict s ≡ Ok tt
    → Searching c s seen i → i.page_index < pages_in s → Err l ≡ read_at s i → ⊥
no_unclean {c} {s} {seen} {i} e w h f =
    never_both (clean_at s (lawful_clean s e) i.page_index i.function_index h (turn s i w.valid h).below)
    (read_unclean s i f).1
