-- `answers::read_numbers` meets its contract: whether it is an image as 1 or 0, and the counts of the memory's table.
use borrow.Author.Rules.{rules}
use mathlib.Core.Path.{◌≡◌, refl}
use mathlib.Core.Bool.{Bool, true, false}
use mir.Val.{bool_byte}
use Rattle.bits.specs.Lists.{one}
use Rattle.answers.proofs.read_numbers.Goals as goal

byte_one : (b : Bool) → bool_byte b ≡ one b
byte_one true = refl
byte_one false = refl

pub returns : goal.returns
returns c =
    let b = byte_one c.args.is_image in
    λ t. record { is_image = b t; row_count = (c.table_counts-counts.ensures t).row_count; max_extended_state = (c.table_counts-counts.ensures t).max_extended_state }

pub overflow_cast-result : goal.overflow_cast-result
overflow_cast-result c = tt
