-- Collecting entry by entry: the first at a place wins.
use Rattle.std.specs.Prelude.{◌≡◌, refl, Bool, true, false, List, [], ◌∷◌, ◌≢◌, ℕ, ◌<◌, eqb, get_or}
use Rattle.std.proofs.Common.{sym, ap, ◌∙◌, arith}
use borrow.Author.Tests.{eq-eqb, ne_eqb}
use Rattle.bits.specs.Choice.{pick}
use Rattle.bits.specs.ChoiceLaws.{pick_false}
use Rattle.bits.specs.Lists.{keep_if}
use Rattle.x86defs.specs.declared.CpuidResult.{CpuidResult}
use Rattle.pages.specs.declared.ParsedCpuidEntry.{ParsedCpuidEntry}
use Rattle.pages.specs.Layout.{Entry}
use Rattle.pages.specs.Parsed.{parsed}
use Rattle.pages.specs.Entries.{counts}
use Rattle.masking.specs.Masks.{Masks, apply_mask}
use Rattle.masking.specs.Kept.{places, place_of}
use Rattle.masking.specs.declared.masks.KeptLeaf.{KeptLeaf}
use Rattle.masking.specs.MaskTable.{table, no_row, masks_of, row_of_place}
use Rattle.masking.specs.KeptTableLaws.{masks_of_row}
use Rattle.memory.specs.Origin.{origin_number}
use Rattle.memory.specs.Origin.Origin.{entry}
use Rattle.memory.specs.OriginLaws.{number_pick}
use Rattle.table.specs.Rows.{row, vacant}
use Rattle.collect.specs.FirstEntries.{place_of_entry, first_at, set_legacy, masked_at}
use Rattle.collect.specs.FirstEntryOrigin.{stands_at}
use Rattle.collect.specs.Collect.{stored_at, counted_place, first_among, stands_among, Stored}

-- ---- where an entry goes

pub counted_place_stored : (e : Entry) → counted_place (parsed e) ≡ stored_at e
unfolding counted_place stored_at counts
counted_place_stored e = refl

-- by each return of the code: leaf Dh on page 1, Dh elsewhere, any other leaf
module _ (e : ParsedCpuidEntry) where
  pub counted_dh : {r : ℕ} → e.leaf.0 ≡ 0xD → e.page ≡ 1 → r ≡ place_of e.leaf e.subleaf → r ≡ counted_place e
  unfolding counted_place
  counted_dh l p q = q ∙ rw (eq-eqb e.leaf.0 0xD l, eq-eqb e.page 1 p)

  pub uncounted_dh : e.leaf.0 ≡ 0xD → e.page ≢ 1 → places ≡ counted_place e
  unfolding counted_place
  uncounted_dh l p = rw (eq-eqb e.leaf.0 0xD l, ne_eqb e.page 1 p)

  pub counted_other : {r : ℕ} → e.leaf.0 ≢ 0xD → r ≡ place_of e.leaf e.subleaf → r ≡ counted_place e
  unfolding counted_place
  counted_other l q = q ∙ rw (ne_eqb e.leaf.0 0xD l)

-- ---- what a place gets of some entries: nothing of none; of an entry and others the entry, if it goes there

pub first_none : (i : ℕ) → first_among i [] ≡ vacant
unfolding first_among keep_if first_at
first_none i = refl

pub first_cons : (i : ℕ) → i < places → (e : Entry) (es : List Entry)
    → first_among i (e ∷ es) ≡ pick (eqb (stored_at e) i) (row e.registers) (first_among i es)
unfolding first_among keep_if first_at stored_at
first_cons i l e es = go (counts e)
  where
    go : (c : Bool) → first_at i (pick c (e ∷ keep_if counts es) (keep_if counts es))
        ≡ pick (eqb (pick c (place_of_entry e) places) i) (row e.registers) (first_at i (keep_if counts es))
    go true = refl
    go false = sym (pick_false _ _ (ne_eqb places i (λ q. omega arith)))

pub stands_none : (i : ℕ) → stands_among i [] ≡ 0
unfolding stands_among keep_if stands_at
stands_none i = refl

pub stands_cons : (i : ℕ) → i < places → (e : Entry) (es : List Entry)
    → stands_among i (e ∷ es) ≡ pick (eqb (stored_at e) i) (origin_number (entry e.page e.position)) (stands_among i es)
unfolding stands_among keep_if stands_at stored_at
stands_cons i l e es = go (counts e)
  where
    go : (c : Bool) → origin_number (stands_at i (pick c (e ∷ keep_if counts es) (keep_if counts es)))
        ≡ pick (eqb (pick c (place_of_entry e) places) i) (origin_number (entry e.page e.position)) (stands_among i es)
    go true = number_pick (eqb (place_of_entry e) i) (entry e.page e.position) (stands_at i (keep_if counts es))
    go false = sym (pick_false _ _ (ne_eqb places i (λ (q : places ≡ i). omega arith)))

abbrev pub stored : CpuidResult → ℕ → Stored
stored r n = record { result = r; origin = n }

-- ---- a row of the code's table of kept leaves masks as its place does

pub row_masks : (avic : Bool) (place row : ℕ) (kept : List KeptLeaf) (r : CpuidResult) → kept ≡ table avic → row ≡ row_of_place place
    → set_legacy place (apply_mask (masks_of (get_or kept row no_row)) r) ≡ masked_at avic place r
row_masks avic place row kept r p q = rw (p, q) (ap (λ (m : Masks). set_legacy place (apply_mask m r)) (masks_of_row avic place))
