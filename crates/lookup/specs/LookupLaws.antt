-- The leaves with subleaves are those of the table of kept leaves; a lookup is one read, of the place that is asked for.
use Rattle.std.specs.Prelude.{◌≡◌, Bool, ◌&&◌, ℕ, ◌≤◌, ◌<◌, length, replicate, None, Some}
use Rattle.std.proofs.Math.Path.{refl, sym}
use Rattle.std.proofs.Common.{ap, ◌∙◌, arith}
use Rattle.std.proofs.Math.Bool.{true, false}
use Rattle.std.proofs.Math.Dec.{ltb}
use Rattle.std.proofs.lemmas.List.{length-replicate, get_or-replicate}
use Rattle.std.proofs.Math.ListN.{get_or-eq_default}
use borrow.Author.Tests.{eqb-true, ltb-true, ltb-false}
use Rattle.bits.specs.Choice.{pick}
use Rattle.bits.specs.Lists.{tabulate}
use Rattle.bits.specs.ListsLaws.{tabulate_at}
use Rattle.x86defs.specs.declared.CpuidFunction.{CpuidFunction}
use Rattle.x86defs.specs.Functions.{function, same_function, ExtendedFeatures, ExtendedTopologyEnumeration, ExtendedStateEnumeration, CacheTopologyDefinition}
use Rattle.masking.specs.Kept.{kept_leaves, places, place_of, slot, leaf_at, indexed_at}
use Rattle.masking.specs.KeptLaws.{entry_belongs}
use Rattle.table.specs.declared.CpuidResults.{CpuidResults}
use Rattle.table.specs.Table.{row_in, empty_table}
use Rattle.lookup.specs.Lookup.{with_subleaves, place_whole, place_asked, row_result, lookup}

-- ---- the leaves with subleaves are those of the table of kept leaves

-- a leaf of the table has subleaves where its rows carry one
subleaves_at : (i : ℕ) → i < places → with_subleaves (leaf_at i) ≡ indexed_at i
unfolding with_subleaves slot kept_leaves tabulate
subleaves_at i h = tabulate_at places (λ i. with_subleaves (leaf_at i)) indexed_at refl i h

module _ (l : CpuidFunction) where
  -- a leaf whose subleaf 0 has no place is none whose subleaf 0 has one
  unplaced : places ≤ place_of l 0 → (m : CpuidFunction) → ltb (place_of m 0) places ≡ true → same_function l m ≡ false
  unplaced h m c = go (same_function l m) refl
    where
      go : (b : Bool) → same_function l m ≡ b → b ≡ false
      go true e =
          let same : place_of l 0 ≡ place_of m 0 = ap (λ (n : ℕ). place_of (function n) 0) (eqb-true l.0 m.0 e) in
          absurd (omega (arith, same, ltb-true (place_of m 0) places c))
      go false e = refl

  -- so a leaf has subleaves exactly where the place of its subleaf 0 carries one
  pub subleaves_kept : with_subleaves l ≡ (ltb (place_of l 0) places && indexed_at (place_of l 0))
  unfolding with_subleaves place_of kept_leaves
  subleaves_kept = go (ltb (place_of l 0) places) refl
    where
      go : (b : Bool) → ltb (place_of l 0) places ≡ b → with_subleaves l ≡ (b && indexed_at (place_of l 0))
      go true e =
          let h : place_of l 0 < places = ltb-true (place_of l 0) places e in
          sym (ap with_subleaves (entry_belongs l 0 (place_of l 0) refl h).leaf) ∙ subleaves_at (place_of l 0) h
      go false e =
          let h : places ≤ place_of l 0 = ltb-false (place_of l 0) places e in
          rw (
            unplaced h ExtendedFeatures refl,
            unplaced h ExtendedTopologyEnumeration refl,
            unplaced h ExtendedStateEnumeration refl,
            unplaced h CacheTopologyDefinition refl,
          )

-- ---- the place that is asked for

-- without a subleaf and with one, where past the last place there is no row
module _ (t : CpuidResults) (past : row_result (row_in t places) ≡ None) (l : CpuidFunction) where
  pub asked_whole : (enforce : Bool) → lookup t l None enforce ≡ row_result (row_in t (place_asked l None enforce))
  unfolding lookup place_asked
  asked_whole enforce = go (with_subleaves l)
    where
      go : (b : Bool) → pick b None (row_result (row_in t (place_whole l))) ≡ row_result (row_in t (pick b places (place_whole l)))
      go true = sym past
      go false = refl

  pub asked_within : (k : ℕ) (enforce : Bool) → lookup t l (Some k) enforce ≡ row_result (row_in t (place_asked l (Some k) enforce))
  unfolding lookup place_asked
  asked_within k enforce = go (with_subleaves l) enforce
    where
      go : (b c : Bool) → pick b (row_result (row_in t (place_of l k))) (pick c None (row_result (row_in t (place_whole l))))
          ≡ row_result (row_in t (pick b (place_of l k) (pick c places (place_whole l))))
      go true c = refl
      go false true = sym past
      go false false = refl

-- ---- a refused table

pub empty_absent : (i : ℕ) → (row_in empty_table i).present ≡ false
empty_absent i = go (ltb i places) refl
  where
    go : (b : Bool) → ltb i places ≡ b → (row_in empty_table i).present ≡ false
    go true e = get_or-replicate places i false false (ltb-true i places e)
    go false e =
        let past : length (replicate places false) ≤ i = omega (arith, length-replicate places false, ltb-false i places e) in
        get_or-eq_default (replicate places false) false past
