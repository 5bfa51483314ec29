-- The theorems page, P13: the nearest bit that matters. crates/nearest/specs/Flips.antt has the flips of a page set in order and the flipped pages,
-- crates/nearest/specs/Changes.antt and SameVerdict.antt what it is for a flip to change the answer, crates/nearest/specs/Nearest.antt the answer.
-- `nearest::nearest_bit` promises `nearest`, for any bytes.
use Rattle.std.specs.Prelude.{◌≡◌, false, List, [], ◌∷◌, ◌++◌, ◌↔◌, ◌≢◌, ℕ, ◌<◌, replicate, Err, Ok, Some}
use Rattle.x86defs.specs.Functions.{function, cpuid_result, ExtendedStateEnumeration}
use Rattle.pages.specs.Bytes.{AreBytes}
use Rattle.pages.specs.Layout.{entry_at}
use Rattle.masking.specs.Masks.{apply_mask}
use Rattle.masking.specs.Kept.{masks_at}
use Rattle.masking.specs.Place
use Rattle.table.specs.declared.Choices.{Choices}
use Rattle.table.specs.declared.Refusal.TheVariants.{PagesLength, PageCount, MissingRequiredResult, InvlpgbUnavailable, UnknownEdition, ReservedBytes, NothingDecides}
use Rattle.build.specs.Build.{under_edition, answer}
use Rattle.nearest.specs.declared.flips.Flip.{Flip}
use Rattle.nearest.specs.Flips.{flip}
use Rattle.nearest.specs.FlipOrder.{some_flips, flips_are}
use Rattle.nearest.specs.OneBit.{one_bit}
use Rattle.nearest.specs.Changes.{changes}
use Rattle.nearest.specs.Nearest.{nearest}
use Rattle.nearest_exactly.specs.NearestExactly.{NearestExactly, TwentyExactly}
use Rattle.nearest_exactly.proofs.NearestExactlyProof as Exactly
use Rattle.nearest_exactly.proofs.TwentyExactly as Twenty
use Rattle.nearest_exactly.specs.MeaningProof as Meaning
use Rattle.nearest_exactly.specs.Meaning.{Unchanged}
use Rattle.nearest_exactly.proofs.WithoutInvlpgb as Invlpgb
use Rattle.nearest_exactly.specs.WithoutInvlpgb.{InvlpgbNearest}
use Rattle.nearest_exactly.specs.OutsideLaws as Outside
use Rattle.nearest_exactly.specs.OutsideLaws.{Among, FirstAt}
use Rattle.page_sets.specs.PageSets.{word, page, server_a}
use Rattle.page_sets.specs.Evaluation.{first_edition}
use Rattle.examples.specs.NearestBits as Bits
use Rattle.examples.specs.NearestOnLaterPage as Later
use Rattle.examples.specs.NearestBits.{only_leaf5, without_d2, no_invlpgb, leaf1_twice}

-- each answer, 15, 1, 2, 17, 20 or a bit: given if and only if its condition holds; no other number is given. A bit is the first flip, in the order
-- of page, entry, register and bit, that changes the answer; 20 is given where none does. crates/nearest_exactly/specs/NearestExactly.antt
pub nearest_exactly : (chosen : Choices) (s : List ℕ) → NearestExactly chosen s
nearest_exactly = Exactly.nearest_exactly

-- 20 exactly where building gives 3 for a leaf of the two required lists
pub twenty_exactly : (chosen : Choices) (s : List ℕ) → TwentyExactly chosen s
twenty_exactly = Twenty.twenty_exactly

-- of pages that building refuses by 4 it is INVLPGB's own, 80000008h.EBX bit 3. crates/nearest_exactly/specs/WithoutInvlpgb.antt
pub refused_by_4 : (chosen : Choices) (s : List ℕ) → AreBytes s → (answer chosen s).verdict ≡ Err InvlpgbUnavailable
    → InvlpgbNearest chosen s
refused_by_4 = Invlpgb.refused_by_4

-- the order of the flips, by page, entry, register and bit from 0: some of the 384 of three entries, two on page 0 and one on page 1.
-- crates/nearest/specs/FlipOrder.antt
pub flips_in_order : some_flips
    ≡ flip 0 0 0 0 ∷ flip 0 0 0 1 ∷ flip 0 0 1 0 ∷ flip 0 0 3 31 ∷ flip 0 1 0 0 ∷ flip 1 0 0 0 ∷ flip 1 0 3 31 ∷ []
flips_in_order = flips_are

-- to change nothing is that verdict and table of the two answers are equal. crates/nearest_exactly/specs/Meaning.antt
pub unchanged_exactly : (chosen : Choices) (s : List ℕ) (f : Flip) → (changes chosen s f ≡ false) ↔ Unchanged chosen s f
unchanged_exactly = Meaning.unchanged_exactly

-- flips outside the counted first entries change nothing; nor do flips outside the masks. crates/nearest_exactly/specs/OutsideLaws.antt
pub only_first_entries : (chosen : Choices) (s : List ℕ) (p q r k : ℕ) (w : Among chosen s p q r k)
    → ((i : ℕ) → FirstAt w.before (entry_at s p q) i → ⊥) → changes chosen s (flip p q r k) ≡ false
only_first_entries = Outside.not_first

pub only_inside_masks : (chosen : Choices) (s : List ℕ) (p q r k : ℕ) (w : Among chosen s p q r k) (i : ℕ) → FirstAt w.before (entry_at s p q) i
    → apply_mask (masks_at chosen.secure_avic i) (one_bit r k) ≡ cpuid_result 0 0 0 0 → changes chosen s (flip p q r k) ≡ false
only_inside_masks = Outside.outside_masks

-- ---- Examples. crates/examples/specs/NearestBits.antt has a page set for each answer, byte by byte.

pub no_edition : nearest (under_edition 3) [] ≡ Err UnknownEdition
no_edition = Bits.no_edition

pub no_pages : nearest first_edition [] ≡ Err PagesLength
no_pages = Bits.no_pages

pub large_count : nearest first_edition (page 65 []) ≡ Err PageCount
large_count = Bits.large_count

pub unclean_entry : nearest first_edition (page 1 (word 0x40000000 ++ replicate 43 0 ++ (1 ∷ []))) ≡ Err (ReservedBytes (function 0x40000000))
unclean_entry = Bits.unclean_entry

pub a_nearest : nearest first_edition server_a ≡ Ok (flip 0 0 0 0)
a_nearest = Bits.server_a_nearest

-- a later page, and a later entry: what stands before is filtered, or Dh on page 0. crates/examples/specs/NearestOnLaterPage.antt
pub later_page_decides : nearest first_edition Later.page_set ≡ Ok (flip 1 0 0 0)
later_page_decides = Later.page_decides

pub later_entry_decides : nearest first_edition Later.entry_set ≡ Ok (flip 0 1 0 0)
later_entry_decides = Later.entry_decides

-- leaf 1 is missing, and none of the 128 bits of the one entry decides
pub only_leaf_5 : nearest first_edition only_leaf5 ≡ Err NothingDecides
only_leaf_5 = Bits.only_leaf5_nearest

-- 3 for D.2, which is in neither list, is not 20
pub without_d2_refused : (answer first_edition without_d2).verdict ≡ Err (MissingRequiredResult ExtendedStateEnumeration (Some 2))
without_d2_refused = Bits.without_d2_refused_lem

pub without_d2_decided : nearest first_edition without_d2 ≢ Err NothingDecides
without_d2_decided = Bits.without_d2_nearest

-- a server without INVLPGB
pub no_invlpgb_refused : (answer first_edition no_invlpgb).verdict ≡ Err InvlpgbUnavailable
no_invlpgb_refused = Bits.no_invlpgb_refused_lem

pub no_invlpgb_nearest : InvlpgbNearest first_edition no_invlpgb
no_invlpgb_nearest = Bits.no_invlpgb_nearest_lem

-- leaf 1 twice: the second is not the first of its place, and of the first 1.ECX bit 2 is outside the mask
pub second_changes_nothing : (r k : ℕ) → r < 4 → k < 32 → changes first_edition leaf1_twice (flip 0 1 r k) ≡ false
second_changes_nothing r k l u = only_first_entries first_edition leaf1_twice 0 1 r k (Bits.second_among r k l u) (Bits.second_not_first r k l u)

pub masked_changes_nothing : changes first_edition leaf1_twice (flip 0 0 2 2) ≡ false
masked_changes_nothing = only_inside_masks first_edition leaf1_twice 0 0 2 2 Bits.first_among_lem Place.version_and_features Bits.first_is_first Bits.bit_outside
