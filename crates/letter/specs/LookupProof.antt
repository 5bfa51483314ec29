-- The table of any page bytes is the paper's, and the lookup is the paper's search through its rows.
use Rattle.std.specs.Prelude.{◌≡◌, Bool, ◌&&◌, List, eqb, ltb, length, None, Option}
use Rattle.std.proofs.Math.Path.{refl, sym, ap, ap₂}
use Rattle.std.proofs.Common.{◌∙◌, le_of_eq, arith}
use Rattle.std.proofs.Math.Bool.{true, false}
use Rattle.std.proofs.lemmas.Bool.{false≢true}
use Prim.Native.Nat.{ℕ, zero, suc, ◌<◌, ◌≤◌}
use Rattle.std.proofs.Math.ListN.{get_or-eq_default}
use borrow.Author.Tests.{eqb-true, eqb-false, eq-eqb, ne_eqb, ltb-true, ltb-false, lt-ltb, le-ltb}
use Rattle.bits.specs.Choice.{pick}
use Rattle.bits.specs.ChoiceLaws.{never_both, pick_true, pick_false, and_left, and_right, and_both}
use Rattle.bits.specs.Lists.{tabulate}
use Rattle.bits.specs.ListsLaws.{tabulate_at}
use Rattle.x86defs.specs.declared.CpuidFunction.{CpuidFunction}
use Rattle.x86defs.specs.Functions.{function, same_function, VendorAndMaxFunction, ExtendedMaxFunction}
use Rattle.masking.specs.Kept.{kept_leaves, place_of, slot, leaf_at, indexed_at, subleaf_at}
use Rattle.masking.specs.Place
use Rattle.masking.specs.Place.{made_here}
use Rattle.masking.specs.KeptLaws.{place_of_slot, Belongs, entry_belongs}
use Rattle.table.specs.declared.Choices.{Choices}
use Rattle.table.specs.declared.CpuidResults.{CpuidResults}
use Rattle.table.specs.Table.{row_in}
use Rattle.lookup.specs.Lookup.{with_subleaves, place_whole, place_asked, row_result, lookup}
use Rattle.lookup.proofs.LookupLaws.{lookup_at, empty_finds_nothing}
use Rattle.build.specs.Build.{answer}
use Rattle.refusals.proofs.ExactlyProof.{builds_exactly}
use Rattle.letter.specs.Paper.{Line, asked, find, find_after, lines_of, combined_of, table_with, table_after, table, verdict}
use Rattle.letter.specs.Names.{sub_at}
use Rattle.letter.specs.ImageProof.{told}
use Rattle.table.specs.Verdict.{Verdict}

-- ---- a search whose test holds at one place

eqb_suc : (a b : ℕ) → eqb (suc a) (suc b) ≡ eqb a b
eqb_suc a b = go (eqb a b) refl
  where
    go : (c : Bool) → eqb a b ≡ c → eqb (suc a) (suc b) ≡ c
    go true e = eq-eqb _ _ (ap suc (eqb-true a b e))
    go false e = ne_eqb (suc a) (suc b) (λ q. eqb-false a b e (omega arith))

ltb_suc : (a b : ℕ) → ltb (suc a) (suc b) ≡ ltb a b
ltb_suc a b = go (ltb a b) refl
  where
    go : (c : Bool) → ltb a b ≡ c → ltb (suc a) (suc b) ≡ c
    go true e = lt-ltb (suc a) (suc b) (omega (arith, ltb-true a b e))
    go false e = le-ltb (suc a) (suc b) (omega (arith, ltb-false a b e))

module _ (l : ℕ) (k : Option ℕ) (enforce : Bool) where
  pub find_at : (n p : ℕ) (g : ℕ → Line) → ((i : ℕ) → i < n → asked l k enforce (g i).subleaf (g i).leaf ≡ eqb i p)
      → find (tabulate n g) l k enforce ≡ pick (ltb p n) (row_result (g p).row) None
  unfolding tabulate
  find_at zero p g h = sym (pick_false _ _ (le-ltb p 0 (omega arith)))
  find_at (suc n) zero g h = pick_true _ _ (h 0 (omega arith)) ∙ sym (pick_true _ _ (lt-ltb 0 (suc n) (omega arith)))
  find_at (suc n) (suc p) g h =
      pick_false _ _ (h 0 (omega arith) ∙ ne_eqb 0 (suc p) (λ q. omega arith))
      ∙ find_at n p (λ i. g (suc i)) (λ i q. h (suc i) (omega arith) ∙ eqb_suc i p)
      ∙ ap (λ (b : Bool). pick b (row_result (g (suc p)).row) None) (sym (ltb_suc p n))

-- ---- the tests, computed

pub subleaves_at : tabulate 88 (λ i. with_subleaves (leaf_at i)) ≡ tabulate 88 indexed_at
unfolding tabulate with_subleaves slot kept_leaves
subleaves_at = refl

pub whole_at : tabulate 88 (λ i. pick (indexed_at i) i (place_whole (leaf_at i))) ≡ tabulate 88 (λ i. i)
unfolding tabulate place_whole place_of slot kept_leaves
whole_at = refl

pub indexed_not_made : tabulate 88 (λ i. indexed_at i && made_here i) ≡ tabulate 88 (λ i. false)
unfolding tabulate slot kept_leaves
indexed_not_made = refl

pub leaf_whole : (l : CpuidFunction) (i : ℕ) → i < 88 → place_whole l ≡ i → l ≡ leaf_at i
unfolding place_whole slot kept_leaves
leaf_whole l i h = go (same_function l VendorAndMaxFunction) (same_function l ExtendedMaxFunction) refl refl
  where
    go : (a b : Bool) → same_function l VendorAndMaxFunction ≡ a → same_function l ExtendedMaxFunction ≡ b
        → pick a Place.vendor_and_max_function (pick b Place.extended_max_function (place_of l 0)) ≡ i → l ≡ leaf_at i
    go true b p q e = ap function (eqb-true _ _ p) ∙ ap leaf_at e
    go false true p q e = ap function (eqb-true _ _ q) ∙ ap leaf_at e
    go false false p q e = sym (entry_belongs l 0 i e h).leaf
