-- Check 17: the verdict on the reserved bytes decides its condition.
use Rattle.std.specs.Prelude.{◌≡◌, refl, false, List, ℕ, ◌+◌, Err}
use Rattle.std.proofs.Common.{sym, ◌∙◌}
use Rattle.std.proofs.Math.Path.{ap}
use Rattle.std.proofs.Math.Bool.{not-eq-not}
use Rattle.bits.specs.ChoiceLaws.{never_both}
use Rattle.pages.specs.Layout.{entry_at, entry_start}
use Rattle.pages.specs.Reserved.{reserved_at, reserved_of}
use Rattle.pages.specs.ZerosLaws.{zero_byte, nonzero_byte, zero_bytes}
use Rattle.pages.specs.ReservedLaws.{FirstUnclean, Cleanness, clean_at, unclean_named}
use Rattle.pages.proofs.ReservedLaws.{clean_zero, cleanness}
use Rattle.pages.specs.ReservedLaws.Cleanness.{clean_pages, unclean_entry}
use Rattle.table.specs.declared.Refusal.{Refusal}
use Rattle.table.specs.declared.Refusal.TheVariants.{ReservedBytes}
use Rattle.collect.specs.Lawful.{clean_verdict, reserved_verdict}
use Rattle.refusals.specs.Conditions.{ReservedFault}
use Rattle.refusals.specs.Settles.{Settles}
use Rattle.refusals.specs.Settles.Settles.{passes, refuses}

module _ (s : List ℕ) where
  -- the condition holds of the first entry that is not clean, and of no other
  fault_unclean : (p q : ℕ) → ReservedFault s p q → FirstUnclean s p q
  fault_unclean p q f = record {
    page = f.inside;
    position = f.below_count;
    unclean = (not-eq-not {b = false}).0 (λ e. f.nonzero (zero_byte s (entry_start p q + reserved_at) e f.byte f.reserved));
    before = record {
      pages = λ i j h l. zero_bytes s (entry_start i j + reserved_at) (λ k. f.pages_before i j k h l);
      positions = λ j l. zero_bytes s (entry_start p j + reserved_at) (λ k. f.entries_before j k l);
    };
  }

  unclean_fault : (p q : ℕ) → FirstUnclean s p q → ReservedFault s p q
  unclean_fault p q u =
      let (k, l, n) = nonzero_byte s (entry_start p q + reserved_at) u.unclean in
      record {
        inside = u.page;
        below_count = u.position;
        byte = k;
        reserved = l;
        nonzero = n;
        pages_before = λ i j b h g. zero_byte s (entry_start i j + reserved_at) (u.before.pages i j h g) b;
        entries_before = λ j b h. zero_byte s (entry_start p j + reserved_at) (u.before.positions j h) b;
      }

  -- there is one first at most, so one leaf that is named
  same_leaf : (p q i j : ℕ) → FirstUnclean s p q → FirstUnclean s i j → (entry_at s i j).leaf ≡ (entry_at s p q).leaf
  same_leaf p q i j u v =
      let e : Err (entry_at s i j).leaf ≡ Err (entry_at s p q).leaf = sym (unclean_named s i j v) ∙ unclean_named s p q u in cc

  abbrev Condition : Refusal → Type 0
  Condition r = (p : ℕ) × (q : ℕ) × ReservedFault s p q × (r ≡ ReservedBytes (entry_at s p q).leaf)

  pub reserved_decides : Settles Condition (reserved_verdict s)
  unfolding reserved_verdict
  reserved_decides = go (cleanness s)
    where
      go : Cleanness s → Settles Condition (clean_verdict (reserved_of s))
      go (clean_pages c) =
          passes (ap clean_verdict (clean_zero s c))
          (λ r f.
          let u : FirstUnclean s f.0 f.1 = fault_unclean f.0 f.1 f.2 in
          never_both (clean_at s c f.0 f.1 u.page u.position) u.unclean)
      go (unclean_entry p q u) =
          refuses (ReservedBytes (entry_at s p q).leaf) (ap clean_verdict (unclean_named s p q u)) (p, q, unclean_fault p q u, refl)
          (λ r f. f.3 ∙ ap ReservedBytes (same_leaf p q f.0 f.1 u (fault_unclean f.0 f.1 f.2)))
