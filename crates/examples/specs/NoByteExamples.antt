-- That the lent elements are bytes is needed for `StaysWithin`: the definitions read lists of any numbers. One row, D.0 with EAX 1, whose EDX has 256
-- in its first element: read as the number 256, it is written as 0 and 1. No slice of bytes is such a list.
use Rattle.std.specs.Prelude.{◌≡◌, refl, List, [], ◌∷◌, ℕ, get_or}
use Rattle.std.proofs.Common.{sym, ap, ◌∙◌, arith}
use Rattle.pages.specs.Layout.{registers_at}
use Rattle.image.specs.Image.{image, image_in}
use Rattle.table.specs.Order.{row_order}
use Rattle.buffer.specs.Front.{write_front}
use Rattle.bits.specs.Lists.{tabulate}
use Rattle.table.specs.Edition.{known_edition}
use Rattle.image_read.specs.ReadImage.{opens, begins, row_read, after_row, left, is_image, read_image}
use Rattle.guest_state.specs.State.{compacts, compact_register, allowed, allowed_verdict, compact_verdict, state_verdict}
use Rattle.carry.specs.Carry.{keeps, carry_verdict, carry}
use Rattle.carry.specs.CarryImage.{carry_image}
use Rattle.page_sets.specs.Evaluation.{evaluated}

abbrev pub image_with256 : List ℕ
image_with256 = 2 ∷ 0xD ∷ 0 ∷ 0 ∷ 0 ∷ 0 ∷ 0 ∷ 0 ∷ 0 ∷ 1 ∷ 0 ∷ 0 ∷ 0 ∷ 0 ∷ 0 ∷ 0 ∷ 0 ∷ 0 ∷ 0 ∷ 0 ∷ 0 ∷ 256 ∷ 0 ∷ 0 ∷ 0 ∷ []

carried_otherwise : get_or (carry_image image_with256 1 1 1 0).buffer 21 0 ≡ 0
unfolding evaluated carry_image read_image is_image left after_row begins opens row_read registers_at carry carry_verdict known_edition keeps state_verdict
    allowed_verdict compact_verdict allowed compact_register compacts image image_in row_order write_front tabulate
carried_otherwise = refl

pub not_the_same : (carry_image image_with256 1 1 1 0).buffer ≡ image_with256 → ⊥
not_the_same e = let z : ◌≡◌ {A = ℕ} 0 256 = sym carried_otherwise ∙ ap (λ (l : List ℕ). get_or l 21 0) e in omega arith
