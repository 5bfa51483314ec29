-- Rows D.0 and D.1 that rise have masks that do: where A's absent rows are zeros a comparison never ends at the masks.
use Rattle.std.specs.Prelude.{◌≡◌, Bool, ◌&&◌, ℕ, ◌<◌}
use Rattle.std.proofs.Math.Path.{refl}
use Rattle.std.proofs.Common.{ap, ◌∙◌, subst, subst₂, lit<}
use Rattle.std.proofs.Math.Bool.{true, false}
use Rattle.bits.specs.Bits.{bit, has, Within}
use Rattle.bits.specs.BitsLaws.{within_zero, within_or}
use Rattle.bits.proofs.BitsLaws.{has_mono}
use Rattle.bits.specs.Choice.{pick}
use Rattle.bits.specs.ChoiceLaws.{never_both, and_mono}
use Rattle.x86defs.specs.declared.CpuidResult.{CpuidResult}
use Rattle.x86defs.specs.Functions.{cpuid_result}
use Rattle.masking.specs.Kept.{places, kept_leaves, slot}
use Rattle.masking.specs.Place
use Rattle.table.specs.Rows.{Row, Rows}
use Rattle.checks.specs.ExtendedState.{xss_of, xfem, xss, combined_mask}
use Rattle.finish.specs.Kinds.{TableAtLeast, Registers, register_kinds, kinds_at}
use Rattle.memory.specs.Memory.{rows_in}
use Rattle.memory.specs.Held.{whole_of, held_in, whole_row_lem}
use Rattle.compare.specs.declared.search.RowsCompared.TheVariants.{MaskLacks}
use Rattle.compare.specs.RowsMean.{PlaceRises}
use Rattle.compare.specs.TablesMean.{tables, TablesAnswerMeans}
use Rattle.compare.proofs.TablesDecideProof.{decides}
use Rattle.images.specs.TablesMoved.{MaskFollows}

picked : (b c : Bool) {x y : ℕ} → (b ≡ true → c ≡ true) → Within x y → Within (pick b x 0) (pick c y 0)
picked true true f h = h
picked true false f h = absurd (never_both (f refl) refl)
picked false c {x} {y} f h = within_zero (pick c y 0)

xss_rises_lem : (a b : CpuidResult) → Within a.eax b.eax → Within a.ecx b.ecx → Within (xss_of a) (xss_of b)
xss_rises_lem a b h k =
    picked (has 1 a.eax && has 3 a.eax) (has 1 b.eax && has 3 b.eax)
    (and_mono (has 1 a.eax) (has 3 a.eax) (has_mono 1 h) (has_mono 3 h)) k

state0 : (a b : CpuidResult) → Registers TableAtLeast (kinds_at (Place.extended_state 0)) a b → Within a.eax b.eax
unfolding kinds_at register_kinds slot kept_leaves
state0 a b h = h.eax

state1 : (a b : CpuidResult) → Registers TableAtLeast (kinds_at (Place.extended_state 1)) a b → Within a.eax b.eax × Within a.ecx b.ecx
unfolding kinds_at register_kinds slot kept_leaves
state1 a b h = (h.eax, h.ecx)

module _ (m n : Rows) (absent : (i : ℕ) → i < places → (m i).present ≡ false → (m i).result ≡ cpuid_result 0 0 0 0)
    (rise : (i : ℕ) → i < places → PlaceRises (tables (whole_of m) (whole_of n)) i) where
  registers : (i : ℕ) → i < places → (m i).present ≡ true → Registers TableAtLeast (kinds_at i) (m i).result (n i).result
  registers i l e =
      subst₂ (Registers TableAtLeast (kinds_at i)) (ap (λ (r : Row). r.result) (whole_row_lem m i l)) (ap (λ (r : Row). r.result) (whole_row_lem n i l))
      ((rise i l).registers (ap (λ (r : Row). r.present) (whole_row_lem m i l) ∙ e))

  xfem_rises_lem : Within (xfem m) (xfem n)
  unfolding xfem
  xfem_rises_lem = go (m (Place.extended_state 0)).present refl
    where
      go : (b : Bool) → (m (Place.extended_state 0)).present ≡ b → Within (m (Place.extended_state 0)).result.eax (n (Place.extended_state 0)).result.eax
      go true e = state0 _ _ (registers (Place.extended_state 0) (lit< tt) e)
      go false e = rw (absent (Place.extended_state 0) (lit< tt) e) (within_zero _)

  xss_rise : Within (xss m) (xss n)
  unfolding xss has bit
  xss_rise = go (m (Place.extended_state 1)).present refl
    where
      go : (b : Bool) → (m (Place.extended_state 1)).present ≡ b
          → Within (xss_of (m (Place.extended_state 1)).result) (xss_of (n (Place.extended_state 1)).result)
      go true e =
          let (p, q) = state1 _ _ (registers (Place.extended_state 1) (lit< tt) e) in
          xss_rises_lem (m (Place.extended_state 1)).result (n (Place.extended_state 1)).result p q
      go false e = rw (absent (Place.extended_state 1) (lit< tt) e) (within_zero _)

  masks_rise : Within (combined_mask m) (combined_mask n)
  unfolding combined_mask
  masks_rise = within_or xfem_rises_lem xss_rise

pub mask_follows : MaskFollows
mask_follows w o v q z e =
    let lacks : TablesAnswerMeans (held_in w o) (held_in v q) MaskLacks = subst (TablesAnswerMeans (held_in w o) (held_in v q)) e (decides (held_in w o) (held_in v q)).means in
    lacks.1 (masks_rise (rows_in w o) (rows_in v q) z lacks.0)
