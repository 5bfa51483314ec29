-- A field and a bit as code cuts them out, by shift and mask, and how small they are.
use Rattle.std.specs.Prelude.{◌≡◌, ℕ, ◌-◌, ◌/◌, ◌^◌, ◌<◌}
use Rattle.std.proofs.Common.{sym, subst}
use Rattle.std.specs.Int.Bits.{bit_and}
use Rattle.bits.specs.Bits.{bit, field}
use Rattle.bits.specs.BitsLaws.{field_shift_mask, field_lt}
use Rattle.x86defs.specs.Fields.{Field, span, cut}

field_out : (k w n : ℕ) → (bit_and (n / 2 ^ k) (2 ^ w - 1) ≡ field k w n) × (bit_and (n / 2 ^ k) (2 ^ w - 1) < 2 ^ w)
field_out k w n = (sym (field_shift_mask k w n), subst (λ (x : ℕ). x < 2 ^ w) (field_shift_mask k w n) (field_lt k w n))

pub cut_out : (f : Field) (n : ℕ)
    → (bit_and (n / 2 ^ (span f).shift) (2 ^ (span f).width - 1) ≡ cut f n)
    × (bit_and (n / 2 ^ (span f).shift) (2 ^ (span f).width - 1) < 2 ^ (span f).width)
cut_out f n = field_out (span f).shift (span f).width n

pub bit_out : (k n : ℕ) → (bit_and (n / 2 ^ k) 1 ≡ bit k n) × (bit_and (n / 2 ^ k) 1 < 2)
unfolding bit field
bit_out k n = field_out k 1 n
