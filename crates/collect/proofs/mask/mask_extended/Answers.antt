-- `collect::mask::mask_extended` meets its contract: one place after the other.
use mathlib.Core.Path.{refl}
use lib.Dec.{lit<}
use Rattle.masking.specs.Kept.{kept_leaves}
use Rattle.masking.specs.MaskTable.{row_of_place}
use Rattle.collect.proofs.MaskLaws.{masked_none, masked_next}
use Rattle.collect.proofs.mask.mask_extended.Goals as goal

pub returns : goal.returns
unfolding row_of_place kept_leaves
returns c₈ =
    let t = c₈.kept_leaves-kept.ensures in
    let k₀ = masked_none _ _ c₈.requires in
    let k₁ = masked_next t k₀ 70 8 (lit< tt) refl refl c₈.mask_place.ensures in
    let k₂ = masked_next t k₁ 71 9 (lit< tt) refl refl c₈.mask_place-2.ensures in
    let k₃ = masked_next t k₂ 78 16 (lit< tt) refl refl c₈.mask_place-3.ensures in
    let k₄ = masked_next t k₃ 79 17 (lit< tt) refl refl c₈.mask_place-4.ensures in
    let k₅ = masked_next t k₄ 80 18 (lit< tt) refl refl c₈.mask_place-5.ensures in
    let k₆ = masked_next t k₅ 81 19 (lit< tt) refl refl c₈.mask_place-6.ensures in
    let k₇ = masked_next t k₆ 86 21 (lit< tt) refl refl c₈.mask_place-7.ensures in
    masked_next t k₇ 87 22 (lit< tt) refl refl c₈.mask_place-8.ensures
