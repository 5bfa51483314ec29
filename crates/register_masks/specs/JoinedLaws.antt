-- One server more. Two accepted row sets joined are accepted, whether 19 is due or not; on rows and combined mask the join is the and, and on
-- feature registers too where the entries are alike else.
use Rattle.std.specs.Prelude.{◌≡◌, Bool, ℕ, ◌≤◌, ◌^◌, ltb, None, Ok, Some}
use Rattle.std.proofs.Math.Path.{refl}
use Rattle.std.proofs.Common.{arith, ltb-true, lt-ltb}
use Rattle.std.proofs.Math.Bool.{true, false}
use Rattle.std.specs.Int.Bits.{bit_and}
use Rattle.bits.specs.Choice.{pick}
use Rattle.bits.specs.BitsLaws.{within_eq, within_trans, and_within_left}
use Rattle.masking.specs.Kept.{kept_leaves, slot}
use Rattle.table.specs.Rows.{Rows}
use Rattle.checks.specs.ExtendedState.{xfem, xss, combined_mask, size_of}
use Rattle.checks.specs.Checks.{size_verdict}
use Rattle.finish.specs.Finish.{enabled_by}
use Rattle.finish.specs.Kinds.{register_kinds, kinds_at}
use Rattle.finish.specs.FeatureLaws.{both_enable}
use Rattle.finish.specs.MeetLaws.{meet_rows, MaskedState, xfem_meet, xss_meet, enabled_meet, mask_meet}
use Rattle.register_masks.specs.Join.{with_server}

-- ---- what is enabled, and the mask: by feature registers alone, so the base's laws hold of this join too

pub enabled_with_lem : (a b : Rows) → enabled_by (with_server a b) ≡ both_enable (enabled_by a) (enabled_by b)
unfolding enabled_by with_server meet_rows xfem xss kinds_at register_kinds slot kept_leaves
enabled_with_lem a b = enabled_meet a b

pub xfem_with : (a b : Rows) → xfem (with_server a b) ≡ bit_and (xfem a) (xfem b)
unfolding with_server meet_rows xfem kinds_at register_kinds slot kept_leaves
xfem_with a b = xfem_meet a b

pub xss_with : (a b : Rows) → xss (with_server a b) ≡ bit_and (xss a) (xss b)
unfolding with_server meet_rows xss kinds_at register_kinds slot kept_leaves
xss_with a b = xss_meet a b

pub mask_with : (a b : Rows) → MaskedState a → MaskedState b → combined_mask (with_server a b) ≡ bit_and (combined_mask a) (combined_mask b)
unfolding with_server meet_rows combined_mask xfem xss kinds_at register_kinds slot kept_leaves
mask_with a b p q = mask_meet a b p q

pub masked_with : (a b : Rows) → MaskedState a → MaskedState (with_server a b)
masked_with a b p = record {
  xfem = within_trans (within_eq (xfem_with a b)) (within_trans (and_within_left (xfem a) (xfem b)) p.xfem);
  xss = within_trans (within_eq (xss_with a b)) (within_trans (and_within_left (xss a) (xss b)) p.xss);
}

-- ---- accepted, without a look at 19

-- an area no larger than one that fits 32 bits
pub smaller_passes : {x y : ℕ} → x ≤ y → size_verdict (size_of y) ≡ Ok tt → size_verdict (size_of x) ≡ Ok tt
unfolding size_of
smaller_passes {x} {y} l e = go (ltb y (2 ^ 32)) refl e
  where
    go : (b : Bool) → ltb y (2 ^ 32) ≡ b → size_verdict (pick b (Some y) None) ≡ Ok tt → size_verdict (pick (ltb x (2 ^ 32)) (Some x) None) ≡ Ok tt
    go true f g = rw (lt-ltb x (2 ^ 32) (omega (arith, l, ltb-true y (2 ^ 32) f)))
    go false f g = absurd (let z : ◌≡◌ {A = ℕ} 0 1 = cc in omega arith)
