-- The ways through: the pages are not lawful, the place is one of the 88, or there is none.
use Rattle.std.specs.Prelude.{◌≡◌, ℕ, ◌≤◌, ◌<◌, Err, Ok}
use Rattle.std.proofs.Common.{sym, ◌∙◌, lt-ltb, le-ltb}
use Rattle.std.proofs.Math.Path.{ap}
use mathlib.Core.List.{List}
use Rattle.std.proofs.Math.ListN.{get_or}
use Rattle.bits.specs.ChoiceLaws.{pick_true, pick_false}
use Rattle.bits.specs.ListsLaws.{get_d_tabulate}
use Rattle.x86defs.specs.declared.CpuidFunction.{CpuidFunction}
use Rattle.pages.specs.Entries.{counted}
use Rattle.masking.specs.Kept.{places, place_of}
use Rattle.table.specs.declared.Refusal.{Refusal}
use Rattle.memory.specs.Origin.{Origin, origin_number}
use Rattle.collect.specs.FirstEntryOrigin.{stands_at, found_origins}
use Rattle.collect.specs.Lawful.{lawful_verdict}
use Rattle.collect.specs.declared.FirstEntry.{FirstEntry}
use Rattle.collect.specs.FirstEntry.{first_origin, origin_given, first_entry_of}
use Rattle.table.specs.Verdict.{Verdict}

module _ (s : List ℕ) (leaf : CpuidFunction) (subleaf : ℕ) where
  abbrev with : Verdict → FirstEntry
  with v = record { verdict = v; origin = origin_number (origin_given v (first_origin s (place_of leaf subleaf))) }

  with_verdict : {v : Verdict} → v ≡ lawful_verdict s → with v ≡ first_entry_of s leaf subleaf
  unfolding first_entry_of
  with_verdict e = ap with e

  pub first_unlawful : {v : Verdict} {r : Refusal} → v ≡ lawful_verdict s → v ≡ Err r
      → ◌≡◌ {A = FirstEntry} (record { verdict = Err r; origin = 0 }) (first_entry_of s leaf subleaf)
  first_unlawful e f = with_verdict (sym f ∙ e)

  module _ {v : Verdict} (e : v ≡ lawful_verdict s) (f : v ≡ Ok tt) {place : ℕ} (at : place ≡ place_of leaf subleaf) where
    pub first_found : {found : List ℕ} → found ≡ found_origins s → place < places
        → ◌≡◌ {A = FirstEntry} (record { verdict = (Ok tt); origin = get_or found place 0 }) (first_entry_of s leaf subleaf)
    unfolding first_origin found_origins
    first_found g l =
        ap (λ (n : ℕ). record { verdict = (Ok tt); origin = n })
        (ap (λ (o : List ℕ). get_or o place 0) g
        ∙ get_d_tabulate places (λ i. origin_number (stands_at i (counted s))) place 0 l
        ∙ ap origin_number (sym (pick_true _ _ (lt-ltb place places l))))
        ∙ ap (λ (i : ℕ). record { verdict = (Ok tt); origin = origin_number (first_origin s i) }) at
        ∙ with_verdict (sym f ∙ e)

    pub first_none : places ≤ place → ◌≡◌ {A = FirstEntry} (record { verdict = (Ok tt); origin = 0 }) (first_entry_of s leaf subleaf)
    unfolding first_origin
    first_none l =
        ap (λ (o : Origin). record { verdict = (Ok tt); origin = origin_number o }) (sym (pick_false _ _ (le-ltb place places l)))
        ∙ ap (λ (i : ℕ). record { verdict = (Ok tt); origin = origin_number (first_origin s i) }) at
        ∙ with_verdict (sym f ∙ e)
