-- `collect::mask::mask_basic` meets its contract: one place after the other.
use mathlib.Core.Path.{refl}
use lib.Dec.{lit<}
use Rattle.masking.specs.Kept.{kept_leaves}
use Rattle.masking.specs.MaskTable.{row_of_place}
use Rattle.collect.proofs.MaskLaws.{masked_none, masked_next}
use Rattle.collect.proofs.mask.mask_basic.Goals as goal

pub returns : goal.returns
unfolding row_of_place kept_leaves
returns c₅ =
    let t = c₅.kept_leaves-kept.ensures in
    let k₀ = masked_none _ _ c₅.requires in
    let k₁ = masked_next t k₀ 0 0 (lit< tt) refl refl c₅.mask_place.ensures in
    let k₂ = masked_next t k₁ 1 1 (lit< tt) refl refl c₅.mask_place-2.ensures in
    let k₃ = masked_next t k₂ 3 3 (lit< tt) refl refl c₅.mask_place-3.ensures in
    let k₄ = masked_next t k₃ 6 5 (lit< tt) refl refl c₅.mask_place-4.ensures in
    masked_next t k₄ 7 6 (lit< tt) refl refl c₅.mask_place-5.ensures
