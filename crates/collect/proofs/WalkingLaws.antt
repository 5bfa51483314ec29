-- One walk over the entries: before each turn the entries that are left give what all give, rows, numbers and the first that is not clean; and the
-- leaves whose bits are set are full.
use Rattle.std.specs.Prelude.{◌≡◌, refl, Bool, true, false, not, List, ◌≢◌, ℕ, ◌+◌, ◌*◌, ◌≤◌, ◌<◌, eqb, length, get_or, set, replicate, Err, Ok}
use Rattle.std.proofs.Common.{sym, ap₂, ◌∙◌, subst, arith, length-set, eqb-true, eq-eqb, ne_eqb}
use Rattle.std.proofs.Math.Path.{ap}
use Rattle.std.proofs.lemmas.List.{length-replicate, get_or-replicate}
use Rattle.std.proofs.lemmas.Bool.{eqb-false}
use Rattle.bits.specs.Choice.{pick}
use Rattle.bits.specs.ChoiceLaws.{never_both, pick_true, pick_false}
use Rattle.bits.specs.ListsLaws.{tabulated, tabulate_ext}
use Rattle.x86defs.specs.declared.CpuidFunction.{CpuidFunction}
use Rattle.x86defs.specs.declared.CpuidResult.{CpuidResult}
use Rattle.x86defs.specs.Functions.{cpuid_result}
use Rattle.pages.specs.declared.ParsedCpuidEntry.{ParsedCpuidEntry}
use Rattle.pages.specs.declared.CpuidPageIndex.{CpuidPageIndex}
use Rattle.pages.specs.Layout.{entry_at, pages_in}
use Rattle.pages.specs.Entries.{entries, counted}
use Rattle.pages.specs.Walk.{first_index, incremented, rest}
use Rattle.pages.specs.WalkLaws.{turn, first_valid, rest_first, rest_end}
use Rattle.pages.specs.Reserved.{first_nonzero, reserved_of, all_clean}
use Rattle.pages.proofs.ReservedLaws.{clean_zero}
use Rattle.pages.specs.Read.{entry_here, clean_here, read_at}
use Rattle.pages.specs.ReadLaws.{read_unclean}
use Rattle.masking.specs.Kept.{places}
use Rattle.table.specs.Rows.{Row}
use Rattle.memory.specs.Origin.{origin_number}
use Rattle.memory.specs.Origin.Origin.{entry}
use Rattle.memory.specs.Memory.{row_of, put_row, is_there}
use Rattle.memory.specs.MemoryLaws.{set_at, put_at, put_length, known_by_rows}
use Rattle.collect.specs.FirstEntries.{words, firsts_of}
use Rattle.collect.specs.FirstEntryOrigin.{found_origins}
use Rattle.collect.specs.Collect.{stored_at, counted_place, stands_among, Stored, stored_in, to_store}
use Rattle.collect.specs.CollectLaws.{counted_place_stored, stored}
use Rattle.collect.proofs.CollectLaws.{store_none, store_cons, store_all}
use Rattle.collect.specs.Walked.{Walked}
use Rattle.collect.specs.Full.{FullLeaves, Passed}
use Rattle.collect.specs.FullLaws.{none_kept, none_kept_full, leaves_stay}
use Rattle.collect.specs.WalkingLaws.{Added, AtEntry, Placed, Walking}

cleared : (j : ℕ) → j < places → stored_in (replicate (4 * places) 0) (replicate places 0) j ≡ stored (cpuid_result 0 0 0 0) 0
cleared j h =
    let z : (k : ℕ) → k < 4 * places → ◌≡◌ {A = ℕ} (get_or (replicate (4 * places) 0) k 0) 0 = λ k l. get_or-replicate (4 * places) k 0 0 l in
    λ t. record {
      result = cpuid_result (z (4 * j) (omega arith) t) (z (4 * j + 1) (omega arith) t) (z (4 * j + 2) (omega arith) t) (z (4 * j + 3) (omega arith) t);
      origin = get_or-replicate places j 0 0 h t;
    }

pub walking_first : (s : List ℕ) (n : ℕ) → none_kept n ≡ true → Walking s (replicate (4 * places) 0) (replicate places 0) n (first_index s)
unfolding reserved_of
walking_first s n e = record {
  full = none_kept_full (replicate places 0) n e;
  registers = length-replicate {A = ℕ} (4 * places) 0;
  origins = length-replicate {A = ℕ} places 0;
  valid = first_valid s;
  placed = λ j h. subst (Placed s (first_index s) j) (sym (cleared j h)) (record { none = λ _. refl; left = ap (to_store j) (rest_first s) });
  answer = ap (first_nonzero s) (rest_first s);
}

pub walking_last : (s w o : List ℕ) (n : ℕ) (i : CpuidPageIndex) → Walking s w o n i → pages_in s ≤ i.page_index → Walked s (Ok tt) w o
unfolding first_nonzero found_origins stands_among counted
walking_last s w o n i k h = record {
  answer = sym (ap (first_nonzero s) (rest_end s i h)) ∙ k.answer;
  rows = λ _. known_by_rows w (λ j. (firsts_of s j).result) k.registers (tabulate_ext places _ _ (λ j l.
      ap (λ (x : Stored). x.result) (at j l) ∙ ap (λ (x : Row). x.result) (store_all s j l)));
  stands = λ _. tabulated places (λ j. stands_among j (entries s)) o 0 k.origins (λ j l. ap (λ (x : Stored). x.origin) (at j l));
}
  where
    at : (j : ℕ) → j < places → stored_in w o j ≡ to_store j (entries s)
    at j l = go (is_there (get_or o j 0)) refl
      where
        go : (b : Bool) → is_there (get_or o j 0) ≡ b → stored_in w o j ≡ to_store j (entries s)
        go true e = sym (pick_true _ _ e) ∙ (k.placed j l).left
        go false e =
            (k.placed j l).none e ∙ sym (store_none j) ∙ ap (to_store j) (sym (rest_end s i h)) ∙ sym (pick_false _ _ e) ∙ (k.placed j l).left

-- the answer, from what the reader finds at the first entry that is left
turn_answer : (s w o : List ℕ) (n : ℕ) (i : CpuidPageIndex) → Walking s w o n i → i.page_index < pages_in s
    → pick (clean_here s i) (first_nonzero s (rest s (incremented s i))) (Err (entry_here s i).leaf) ≡ reserved_of s
unfolding first_nonzero entry_at
turn_answer s w o n i k h = sym (ap (first_nonzero s) (turn s i k.valid h).taken) ∙ k.answer

-- a turn at an entry that is not clean ends the walk
pub walking_stops : (s w o : List ℕ) (n : ℕ) (i : CpuidPageIndex) → Walking s w o n i → i.page_index < pages_in s
    → {l : CpuidFunction} → Err l ≡ read_at s i → Walked s (Err l) w o
walking_stops s w o n i k h {l} f =
    let (e, unclean) = read_unclean s i f in
    let a : Err l ≡ reserved_of s = ap Err e ∙ sym (pick_false _ _ unclean) ∙ turn_answer s w o n i k h in
    let no : all_clean s ≡ true → ⊥ = λ c. let z : ◌≡◌ {A = ℕ} 0 1 = cc (clean_zero s c) in omega arith in
    record { answer = a; rows = λ c. absurd (no c); stands = λ c. absurd (no c) }

module _ {s w o : List ℕ} {n : ℕ} {i : CpuidPageIndex} {e : ParsedCpuidEntry} (a : AtEntry s w o n i e) where
  abbrev k : Walking s w o n i
  k = a.walking

  abbrev h : i.page_index < pages_in s
  h = a.inside

  abbrev place : ℕ
  place = counted_place e

  abbrev number : ℕ
  number = origin_number (entry i.page_index i.function_index)

  at : place ≡ stored_at (entry_here s i)
  at = ap counted_place a.entry ∙ counted_place_stored (entry_here s i)

  onward : first_nonzero s (rest s (incremented s i)) ≡ reserved_of s
  onward = sym (pick_true _ _ a.clean) ∙ turn_answer s w o n i k h

  -- fewer entries are left, and the page is the same one, or a later one where the step comes to position 0
  pub walking_falls : length (rest s (incremented s i)) < length (rest s i)
  walking_falls = (turn s i k.valid h).falls

  pub walking_leaves : (incremented s i).function_index ≡ 0 → i.page_index < (incremented s i).page_index
  walking_leaves = (turn s i k.valid h).leaves

  pub walking_stays : (incremented s i).function_index ≢ 0 → (incremented s i).page_index ≡ i.page_index
  walking_stays = (turn s i k.valid h).stays

  -- what a place gets of the entries that are left, by whether this one goes there
  takes : (j : ℕ) → j < places → to_store j (rest s i)
      ≡ pick (eqb (stored_at (entry_here s i)) j) (stored (words e.result) number) (to_store j (rest s (incremented s i)))
  unfolding entry_at
  takes j l =
      ap (to_store j) (turn s i k.valid h).taken
      ∙ store_cons j l (entry_here s i) (rest s (incremented s i))
      ∙ ap (λ (p : ParsedCpuidEntry). pick (eqb (stored_at (entry_here s i)) j) (stored (words p.result) number) (to_store j (rest s (incremented s i))))
      (sym a.entry)

  -- a place that has a row, or that this entry does not go to
  stays : (j : ℕ) → j < places → (is_there (get_or o j 0) ≡ false → j ≢ place) → Placed s (incremented s i) j (stored_in w o j)
  stays j l apart = record { none = (k.placed j l).none; left = go (is_there (get_or o j 0)) refl }
    where
      go : (b : Bool) → is_there (get_or o j 0) ≡ b
          → pick (is_there (get_or o j 0)) (stored_in w o j) (to_store j (rest s (incremented s i))) ≡ to_store j (entries s)
      go true f = pick_true _ _ f ∙ sym (pick_true _ _ f) ∙ (k.placed j l).left
      go false f =
          pick_false _ _ f
          ∙ sym (takes j l ∙ pick_false _ _ (ne_eqb (stored_at (entry_here s i)) j (λ q. apart f (sym q ∙ sym at))))
          ∙ sym (pick_false _ _ f)
          ∙ (k.placed j l).left

  -- an entry that adds no row, whichever leaves are known to be full after it
  pub walking_passed : Passed o e → {m : ℕ} → FullLeaves o m → Walking s w o m (incremented s i)
  walking_passed p {m} f = record {
    full = f;
    registers = k.registers;
    origins = k.origins;
    valid = (turn s i k.valid h).valid;
    placed = λ j l. stays j l (λ z q.
        p.there (subst (λ (x : ℕ). x < places) q l)
        (sym (ap (λ (x : ℕ). get_or o x 0) q) ∙ ap (λ (x : Stored). x.origin) ((k.placed j l).none z)));
    answer = onward;
  }

  -- one that adds a row: r is the row as the code stores it
  pub walking_new : place < places → get_or o place 0 ≡ 0 → {r : CpuidResult} → r ≡ words e.result
      → Walking s (put_row w place r) (set o place number) n (incremented s i)
  walking_new l z {r} d = record {
    full = leaves_stay o n place number inside (λ x. omega arith) k.full;
    registers = put_length w place r k.registers l;
    origins = length-set o place number ∙ k.origins;
    valid = (turn s i k.valid h).valid;
    placed = λ j u. subst (Placed s (incremented s i) j) (sym (after j)) (go j u (eqb j place) refl);
    answer = onward;
  }
    where
      inside : place < length o
      inside = subst (λ (x : ℕ). place < x) (sym k.origins) l

      after : (j : ℕ) → stored_in (put_row w place r) (set o place number) j ≡ pick (eqb j place) (stored r number) (stored_in w o j)
      after j = ap₂ stored (put_at w place r k.registers l j) (set_at o place j number 0 inside) ∙ both (eqb j place)
        where
          both : (b : Bool) → stored (pick b r (row_of w j)) (pick b number (get_or o j 0)) ≡ pick b (stored r number) (stored_in w o j)
          both true = refl
          both false = refl

      there : is_there number ≡ true
      there = ap not (ne_eqb number 0 (λ x. omega arith))

      added : stored r number ≡ to_store place (entries s)
      added =
          ap (λ (q : CpuidResult). stored q number) d
          ∙ sym (takes place l ∙ pick_true _ _ (eq-eqb (stored_at (entry_here s i)) place (sym at)))
          ∙ sym (pick_false _ _ (ap not (eq-eqb _ 0 z)))
          ∙ (k.placed place l).left

      go : (j : ℕ) → j < places → (b : Bool) → eqb j place ≡ b → Placed s (incremented s i) j (pick b (stored r number) (stored_in w o j))
      go j u true q =
          rw (eqb-true j place q) (record { none = λ f. absurd (never_both there f); left = pick_true _ _ there ∙ added })
      go j u false q = stays j u (λ _. eqb-false j place q)

pub added_new : (n : ℕ) (e : ParsedCpuidEntry) (origin : ℕ) (w o : List ℕ) {p : ℕ} → p ≡ counted_place e → p < places → get_or o p 0 ≡ 0
    → {r : CpuidResult} → r ≡ words e.result → {v : List ℕ} → v ≡ put_row w p r → Added n e origin w o n v (set o p origin)
added_new n e origin w o {p} q h z {r} d {v} f = record {
  turned = λ a g.
      rw (f, g, q) (walking_new a (subst (λ (x : ℕ). x < places) q h) (sym (ap (λ (x : ℕ). get_or o x 0) q) ∙ z) d);
}
