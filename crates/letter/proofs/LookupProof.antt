-- The table of any page bytes is the paper's, and the lookup is the paper's search through its rows.
use Rattle.std.specs.Prelude.{◌≡◌, Bool, ◌&&◌, List, eqb, ltb, length, Err, None, Ok, Option, Some}
use Rattle.std.proofs.Math.Path.{refl, sym, ap, ap₂}
use Rattle.std.proofs.Common.{◌∙◌, le_of_eq, arith}
use Rattle.std.proofs.Math.Bool.{true, false}
use Rattle.std.proofs.lemmas.Bool.{false≢true}
use Prim.Native.Nat.{ℕ, zero, suc, ◌<◌, ◌≤◌}
use Rattle.std.proofs.Math.ListN.{get_or-eq_default}
use borrow.Author.Tests.{eqb-true, eqb-false, eq-eqb, ne_eqb, ltb-true, ltb-false, lt-ltb, le-ltb}
use Rattle.bits.specs.Choice.{pick}
use Rattle.bits.specs.ChoiceLaws.{never_both, pick_true, pick_false, and_left, and_right, and_both}
use Rattle.bits.specs.Lists.{tabulate}
use Rattle.bits.specs.ListsLaws.{tabulate_at}
use Rattle.x86defs.specs.declared.CpuidFunction.{CpuidFunction}
use Rattle.x86defs.specs.Functions.{function, same_function, VendorAndMaxFunction, ExtendedMaxFunction}
use Rattle.masking.specs.Kept.{kept_leaves, place_of, slot, leaf_at, indexed_at, subleaf_at}
use Rattle.masking.specs.Place
use Rattle.masking.specs.Place.{made_here}
use Rattle.masking.specs.KeptLaws.{place_of_slot, Belongs, entry_belongs}
use Rattle.table.specs.declared.Choices.{Choices}
use Rattle.table.specs.declared.CpuidResults.{CpuidResults}
use Rattle.table.specs.Table.{row_in}
use Rattle.lookup.specs.Lookup.{with_subleaves, place_whole, place_asked, row_result, lookup}
use Rattle.lookup.proofs.LookupLaws.{lookup_at, empty_finds_nothing}
use Rattle.build.specs.Build.{answer}
use Rattle.refusals.proofs.ExactlyProof.{builds_exactly}
use Rattle.letter.specs.Paper.{Line, asked, find, find_after, lines_of, combined_of, table_with, table_after, table, verdict}
use Rattle.letter.specs.Names.{sub_at}
use Rattle.letter.specs.ImageProof.{told}
use Rattle.letter.specs.LookupProof.{indexed_not_made, leaf_whole, subleaves_at, whole_at}
use Rattle.letter.proofs.TableProof.{table_by_figures}
use Rattle.letter.proofs.VerdictProof.{verdict_by_figures}
use Rattle.letter.proofs.ImageProof.{rows_by_figures}
use Rattle.letter.specs.LookupProof.{find_at}
use Rattle.table.specs.Verdict.{Verdict}

-- ---- which row is asked for

module _ (l : ℕ) (enforce : Bool) (i : ℕ) (h : i < 88) where
  indexed_is : {b : Bool} → with_subleaves (function l) ≡ b → function l ≡ leaf_at i → indexed_at i ≡ b
  indexed_is w q = sym (tabulate_at 88 _ _ subleaves_at i h) ∙ ap with_subleaves (sym q) ∙ w

  with_is : {b : Bool} → indexed_at i ≡ b → function l ≡ leaf_at i → with_subleaves (function l) ≡ b
  with_is w q = ap with_subleaves q ∙ tabulate_at 88 _ _ subleaves_at i h ∙ w

  whole_place : indexed_at i ≡ false → function l ≡ leaf_at i → place_whole (function l) ≡ i
  whole_place w q = ap place_whole q ∙ sym (pick_false _ _ w) ∙ tabulate_at 88 _ _ whole_at i h

  same_leaf : function l ≡ leaf_at i → eqb (leaf_at i).0 l ≡ true
  same_leaf q = eq-eqb _ _ (sym (ap (λ (f : CpuidFunction). f.0) q))

  leaf_same : eqb (leaf_at i).0 l ≡ true → function l ≡ leaf_at i
  leaf_same q = ap function (sym (eqb-true _ _ q))

  -- asked, so it is the place
  to : (k : Option ℕ) → asked l k enforce (sub_at i) (leaf_at i).0 ≡ true → place_asked (function l) k enforce ≡ i
  unfolding place_asked
  to None = go (indexed_at i) refl
    where
      go : (b : Bool) → indexed_at i ≡ b → asked l None enforce (pick b (Some (subleaf_at i)) None) (leaf_at i).0 ≡ true
          → pick (with_subleaves (function l)) 88 (place_whole (function l)) ≡ i
      go true w q = absurd (false≢true q)
      go false w q = pick_false _ _ (with_is w (leaf_same q)) ∙ whole_place w (leaf_same q)
  to (Some j) = go (indexed_at i) enforce refl
    where
      go : (b c : Bool) → indexed_at i ≡ b → asked l (Some j) c (pick b (Some (subleaf_at i)) None) (leaf_at i).0 ≡ true
          → pick (with_subleaves (function l)) (place_of (function l) j) (pick c 88 (place_whole (function l))) ≡ i
      go true c w q =
          let f : function l ≡ leaf_at i = leaf_same (and_left _ _ q) in
          pick_true _ _ (with_is w f)
          ∙ ap₂ place_of f (eqb-true _ _ (and_right (eqb (leaf_at i).0 l) _ q))
          ∙ place_of_slot i h
          ∙ pick_false _ _ (sym (ap (λ (b : Bool). b && made_here i) w) ∙ tabulate_at 88 _ _ indexed_not_made i h)
      go false true w q = absurd (never_both (and_right (eqb (leaf_at i).0 l) _ q) refl)
      go false false w q = pick_false _ _ (with_is w (leaf_same (and_left _ _ q))) ∙ whole_place w (leaf_same (and_left _ _ q))

  -- the place, so it is asked
  from : (k : Option ℕ) → place_asked (function l) k enforce ≡ i → asked l k enforce (sub_at i) (leaf_at i).0 ≡ true
  unfolding place_asked
  from None = go (with_subleaves (function l)) refl
    where
      go : (b : Bool) → with_subleaves (function l) ≡ b → pick b 88 (place_whole (function l)) ≡ i
          → asked l None enforce (pick (indexed_at i) (Some (subleaf_at i)) None) (leaf_at i).0 ≡ true
      go true w q = absurd (omega arith)
      go false w q =
          let f : function l ≡ leaf_at i = leaf_whole (function l) i h q in
          ap (λ (b : Bool). asked l None enforce (pick b (Some (subleaf_at i)) None) (leaf_at i).0) (indexed_is w f) ∙ same_leaf f
  from (Some j) = go (with_subleaves (function l)) enforce refl
    where
      go : (b c : Bool) → with_subleaves (function l) ≡ b → pick b (place_of (function l) j) (pick c 88 (place_whole (function l))) ≡ i
          → asked l (Some j) c (pick (indexed_at i) (Some (subleaf_at i)) None) (leaf_at i).0 ≡ true
      go true c w q =
          let b : Belongs (function l) j (slot false i) = entry_belongs (function l) j i q h in
          let f : function l ≡ leaf_at i = sym b.leaf in
          ap (λ (x : Bool). asked l (Some j) c (pick x (Some (subleaf_at i)) None) (leaf_at i).0) (indexed_is w f)
          ∙ and_both (same_leaf f) (eq-eqb _ _ (sym (b.subleaf (indexed_is w f))))
      go false true w q = absurd (omega arith)
      go false false w q =
          let f : function l ≡ leaf_at i = leaf_whole (function l) i h q in
          ap (λ (b : Bool). asked l (Some j) false (pick b (Some (subleaf_at i)) None) (leaf_at i).0) (indexed_is w f)
          ∙ and_both (same_leaf f) refl

  pub same_test : (k : Option ℕ) → asked l k enforce (sub_at i) (leaf_at i).0 ≡ eqb i (place_asked (function l) k enforce)
  same_test k = go (asked l k enforce (sub_at i) (leaf_at i).0) (eqb i (place_asked (function l) k enforce)) refl refl
    where
      go : (a b : Bool) → asked l k enforce (sub_at i) (leaf_at i).0 ≡ a → eqb i (place_asked (function l) k enforce) ≡ b → a ≡ b
      go true true p q = refl
      go false false p q = refl
      go true false p q = absurd (never_both (eq-eqb _ _ (sym (to k p))) q)
      go false true p q = absurd (never_both (from k (sym (eqb-true _ _ q))) p)

-- ---- the lookup

pub lookup_told : (t : CpuidResults) → length t.present ≤ 88 → (l : ℕ) (k : Option ℕ) (enforce : Bool)
    → lookup t (function l) k enforce ≡ find (told (row_in t)) l k enforce
lookup_told t whole l k enforce =
    sym (lookup_at t whole (function l) k enforce p refl)
    ∙ go (ltb p 88) refl
    ∙ sym (find_at l k enforce 88 p _ (λ i h. same_test l enforce i h k))
  where
    p : ℕ
    p = place_asked (function l) k enforce

    go : (b : Bool) → ltb p 88 ≡ b → row_result (row_in t p) ≡ pick b (row_result (row_in t p)) None
    go true e = refl
    go false e =
        let past : length t.present ≤ p = omega (arith, whole, ltb-false p 88 e) in
        pick_false _ _ (get_or-eq_default t.present false past)

-- ---- of any page bytes

module _ (chosen : Choices) (s : List ℕ) where
  pub table_by_the_letter : (answer chosen s).table ≡ table chosen s
  table_by_the_letter =
      go (answer chosen s).verdict refl
      ∙ ap (λ (v : Verdict). table_after v (table_with (combined_of chosen s) (lines_of chosen s))) (verdict_by_figures chosen s)
    where
      go : (v : Verdict) → (answer chosen s).verdict ≡ v → (answer chosen s).table ≡ table_after v (table_with (combined_of chosen s) (lines_of chosen s))
      go (Ok _) e = table_by_figures chosen s e
      go (Err r) e = (builds_exactly chosen s).empty r e

  rows_88 : length (table_with (combined_of chosen s) (lines_of chosen s)).present ≡ 88
  unfolding tabulate
  rows_88 = refl

  pub lookup_by_the_letter : (l : ℕ) (k : Option ℕ) (enforce : Bool)
      → lookup (answer chosen s).table (function l) k enforce ≡ find_after (verdict chosen s) (lines_of chosen s) l k enforce
  lookup_by_the_letter l k enforce =
      go (answer chosen s).verdict refl ∙ ap (λ (v : Verdict). find_after v (lines_of chosen s) l k enforce) (verdict_by_figures chosen s)
    where
      go : (v : Verdict) → (answer chosen s).verdict ≡ v
          → lookup (answer chosen s).table (function l) k enforce ≡ find_after v (lines_of chosen s) l k enforce
      go (Ok _) e =
          lookup_told (answer chosen s).table
          (le_of_eq (ap (λ (t : CpuidResults). length t.present) (table_by_figures chosen s e) ∙ rows_88)) l k enforce
          ∙ ap (λ (r : List Line). find r l k enforce) (rows_by_figures chosen s e)
      go (Err r) e =
          ap (λ (t : CpuidResults). lookup t (function l) k enforce) ((builds_exactly chosen s).empty r e) ∙ empty_finds_nothing (function l) k enforce
