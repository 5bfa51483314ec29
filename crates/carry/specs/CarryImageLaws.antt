-- Carrying in place, by the code's returns.
use Rattle.std.specs.Prelude.{◌≡◌, refl, Bool, true, false, List, ℕ, Err, None, Ok, Some}
use Rattle.std.proofs.Common.{ap, ◌∙◌}
use Rattle.table.specs.declared.CpuidResults.{CpuidResults}
use Rattle.table.specs.declared.Refusal.{Refusal}
use Rattle.memory.specs.Held.{held_in}
use Rattle.buffer.specs.Front.{write_front}
use Rattle.image.specs.Image.{image}
use Rattle.image_read.specs.ReadImage.{read_image}
use Rattle.carry.specs.Carry.{carry}
use Rattle.carry.specs.CarriedInPlace.{CarriedIn}
use Rattle.carry.specs.CarryImage.{after_carry, carry_image}
use Rattle.table.specs.Verdict.{Verdict}

module _ (s : List ℕ) (from to xcr0 xss : ℕ) {b : Bool} (p : b ≡ (read_image s).is_image) where
  pub image_none : b ≡ false → (None ≡ (carry_image s from to xcr0 xss).answer) × (s ≡ (carry_image s from to xcr0 xss).buffer)
  unfolding carry_image
  image_none e = rw (← p, e) (refl, refl)

  -- what was read is held in w and o, and carried where it stands
  module _ (e : b ≡ true) {w o w₁ : List ℕ} (read : held_in w o ≡ (read_image s).table) {v : Verdict}
      (q : CarriedIn (carry (held_in w o) from to xcr0 xss) v w o w₁) where
    carried : carry_image s from to xcr0 xss ≡ after_carry (carry (held_in w o) from to xcr0 xss) s
    unfolding carry_image
    carried = rw (← p, e, read)

    pub image_refused : {r : Refusal} → v ≡ Err r
        → (Some (Err r) ≡ (carry_image s from to xcr0 xss).answer) × (s ≡ (carry_image s from to xcr0 xss).buffer)
    image_refused f = rw (carried, ← q.verdict, f) (refl, refl)

    pub image_written : {out : List ℕ} → v ≡ Ok tt → out ≡ (write_front (image (held_in w₁ o)) s).buffer
        → (Some (Ok tt) ≡ (carry_image s from to xcr0 xss).answer) × (out ≡ (carry_image s from to xcr0 xss).buffer)
    image_written f g = rw (carried, ← q.verdict, f) (refl, g ∙ ap (λ (t : CpuidResults). (write_front (image t) s).buffer) (q.table f))
