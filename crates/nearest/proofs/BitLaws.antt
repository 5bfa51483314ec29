-- The bits of one row, as the code searches them: flipped in the entry's registers, masked, and put at the entry's place.
use Rattle.std.specs.Prelude.{◌≡◌, Bool, true, false, ℕ, ◌+◌, ◌-◌, ◌/◌, ◌%◌, ◌≤◌, ◌<◌, None, Option, Some}
use Rattle.std.proofs.Math.Path.{refl, sym, ap}
use Rattle.std.proofs.Common.{◌∙◌}
use Rattle.bits.specs.Search.{lowest}
use Rattle.bits.specs.SearchLaws.{lowest_all, lowest_passes, lowest_stops, lowest_ends}
use Rattle.x86defs.specs.declared.CpuidResult.{CpuidResult}
use Rattle.masking.specs.Masks.{apply_mask}
use Rattle.masking.specs.declared.masks.KeptLeaf.{KeptLeaf}
use Rattle.masking.specs.MaskTable.{masks_of}
use Rattle.table.specs.Rows.{Rows}
use Rattle.collect.specs.FirstEntries.{set_legacy}
use Rattle.nearest.specs.OneBit.{one_bit, xor_result}
use Rattle.nearest.specs.SameVerdict.{same_from}
use Rattle.nearest.specs.WithRow.{with_row}
use Rattle.nearest.specs.Irrelevant.{irrelevant}
use Rattle.nearest.proofs.IrrelevantLaws.{irrelevant_same}
use Rattle.nearest.specs.BitLaws.{bit_found, first_bit, keeps}

module _ (n : ℕ) (m : Rows) (kept : KeptLeaf) (i : ℕ) (x : CpuidResult) where
  -- what the code finds of flip j
  pub keeps_found : {y z : CpuidResult} {b : Bool} (j : ℕ) → y ≡ xor_result x (one_bit (j / 32) (j % 32)) → z ≡ set_legacy i (apply_mask (masks_of kept) y)
      → b ≡ same_from n (with_row i z m) m → b ≡ keeps n m kept i x j
  unfolding keeps
  keeps_found j e f g =
      g ∙ ap (λ (w : CpuidResult). same_from n (with_row i w m) m) (f ∙ ap (λ (w : CpuidResult). set_legacy i (apply_mask (masks_of kept) w)) e)

  -- what is left to search from j on
  unfoldable pub bit_from : ℕ → Option ℕ
  bit_from j = bit_found (lowest (keeps n m kept i x) j (128 - j))

  pub bit_first : first_bit n m kept i x ≡ bit_from 0
  unfolding first_bit bit_from
  bit_first = refl

  pub bit_passes : (j : ℕ) → j < 128 → keeps n m kept i x j ≡ true → bit_from j ≡ bit_from (j + 1)
  unfolding bit_from
  bit_passes j l e = ap bit_found (lowest_passes (keeps n m kept i x) 128 j l e)

  pub bit_stops : (j : ℕ) → j < 128 → keeps n m kept i x j ≡ false → bit_from j ≡ Some j
  unfolding bit_from
  bit_stops j l e = ap bit_found (lowest_stops (keeps n m kept i x) 128 j l e)

  pub bit_ends : (j : ℕ) → 128 ≤ j → bit_from j ≡ None
  unfolding bit_from
  bit_ends j l = ap bit_found (lowest_ends (keeps n m kept i x) 128 j l)

  -- at a irrelevant place no bit decides
  pub bit_irrelevant : (m i).present ≡ true → irrelevant m i ≡ true → None ≡ first_bit n m kept i x
  unfolding first_bit keeps
  bit_irrelevant e f = sym (ap bit_found (lowest_all (keeps n m kept i x) 0 128 (λ j l u. irrelevant_same n i _ m e f)))
