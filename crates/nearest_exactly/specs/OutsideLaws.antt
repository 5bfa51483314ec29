-- P13's law: flips outside the counted first entries, or outside the masks, change nothing.
use Rattle.std.specs.Prelude.{◌≡◌, true, false, List, ◌∷◌, ◌++◌, ℕ, ◌<◌, Ok}
use Rattle.x86defs.specs.Functions.{cpuid_result}
use Rattle.pages.specs.Layout.{Entry, entry_at}
use Rattle.pages.specs.Entries.{entries}
use Rattle.masking.specs.Masks.{apply_mask}
use Rattle.masking.specs.Kept.{places, masks_at}
use Rattle.table.specs.declared.Choices.{Choices}
use Rattle.table.specs.Edition.{known_edition}
use Rattle.collect.specs.Collect.{stored_at, first_among}
use Rattle.collect.specs.Lawful.{lawful_verdict}
use Rattle.nearest.specs.Flips.{flip}
use Rattle.nearest.specs.OneBit.{one_bit}
use Rattle.nearest.specs.FlippedEntryLaws.{Inside}
use Rattle.nearest.specs.Changes.{changes}
use Rattle.nearest.proofs.ChangesLaws.{changes_nothing, changes_masked}
use Rattle.nearest.specs.FlippedMaskLaws.{masked_out}

-- the entry at position q of page p among the entries of lawful pages, and bit k of its register r
pub record Among (c : Choices) (s : List ℕ) (p q r k : ℕ) : Type 0 where
  pub inside : Inside s p q r k
  pub known : known_edition c.edition ≡ true
  pub lawful : lawful_verdict s ≡ Ok tt
  pub before : List Entry
  pub after : List Entry
  pub order : entries s ≡ before ++ entry_at s p q ∷ after

-- it is the first counted entry of place i
pub record FirstAt (before : List Entry) (e : Entry) (i : ℕ) : Type 0 where
  pub place : i < places
  pub here : stored_at e ≡ i
  pub new : (first_among i before).present ≡ false

module _ (c : Choices) (s : List ℕ) (p q r k : ℕ) (w : Among c s p q r k) where
  -- of no place
  pub not_first : ((i : ℕ) → FirstAt w.before (entry_at s p q) i → ⊥) → changes c s (flip p q r k) ≡ false
  not_first n =
      changes_nothing c s p q r k w.inside w.known w.lawful w.before w.after w.order (λ i l f e.
      n i (record { place = l; here = e; new = f }))

  -- of a place whose masks do not have the bit
  pub outside_masks : (i : ℕ) → FirstAt w.before (entry_at s p q) i → apply_mask (masks_at c.secure_avic i) (one_bit r k) ≡ cpuid_result 0 0 0 0
      → changes c s (flip p q r k) ≡ false
  outside_masks i f e =
      changes_masked c s p q r k w.inside w.known w.lawful w.before w.after w.order i f.place f.here f.new
      (masked_out c.secure_avic i (entry_at s p q).registers (one_bit r k) e)
