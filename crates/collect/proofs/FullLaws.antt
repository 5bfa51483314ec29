-- Laws of full leaves. Leaves that are not kept are full from the start; a full leaf stays full; a leaf whose places all have rows can be added. Each
-- law of the leaves' numbers and places is one computed test over the 88 places.
use Rattle.std.specs.Prelude.{◌≡◌, refl, List, ◌≢◌, ℕ, zero, suc, ◌+◌, ◌*◌, ◌/◌, ◌%◌, ◌^◌, ◌≤◌, ◌<◌, get_or}
use Rattle.std.proofs.Common.{sym, ap, ◌∙◌, subst, arith, pow_mono}
use Rattle.std.specs.Int.Bits.{bit_and, bit_or}
use Rattle.bits.specs.Bits.{bit}
use Rattle.bits.specs.BitsLaws.{bit_lt, bit_or_lem, has_bit, bit_has}
use Rattle.x86defs.specs.declared.CpuidFunction.{CpuidFunction}
use Rattle.x86defs.specs.Functions.{function}
use Rattle.masking.specs.Kept.{places, place_of}
use Rattle.collect.specs.Full.{leaf_number, Full, FullLeaves, HasRow}
use Rattle.collect.specs.FullLaws.{back_from, bit_pow, number_64, number_back, number_lt}

-- the bit with that number
pub number_bit : (l : CpuidFunction) → 1 * 2 ^ bit_and (2 * l.0 + l.0 / 2 ^ 31) 63 % 2 ^ 64 ≡ 2 ^ leaf_number l
number_bit l =
    let small : 2 ^ leaf_number l ≤ 2 ^ 63 = pow_mono {i = leaf_number l} {j = 63} (omega (arith, number_lt l)) in
    ap (λ (n : ℕ). 1 * 2 ^ n % 2 ^ 64) (number_64 l) ∙ omega (arith, small)

pub leaves_with : (o : List ℕ) (n : ℕ) (l : CpuidFunction) (k : ℕ) → HasRow o l k → Full o l → FullLeaves o n
    → FullLeaves o (bit_or n (2 ^ leaf_number l))
leaves_with o n l k r f g = record { at = λ x e. record { at = λ j h. go x j h (has_bit _ _ e) (bit (leaf_number x) n) refl } }
  where
    go : (x : CpuidFunction) (j : ℕ) → place_of x j < places → bit (leaf_number x) (bit_or n (2 ^ leaf_number l)) ≡ 1
        → (b : ℕ) → bit (leaf_number x) n ≡ b → get_or o (place_of x j) 0 ≢ 0
    go x j h e (suc b) q = (g.at x (bit_has _ _ (omega (arith, q, bit_lt (leaf_number x) n)))).at j h
    go x j h e zero q =
        let m : leaf_number x ≡ leaf_number l =
        bit_pow _ _ (omega (arith, e, q, bit_or_lem (leaf_number x) n (2 ^ leaf_number l), bit_lt (leaf_number x) (2 ^ leaf_number l))) in
        let s : x ≡ l = ap function (sym (number_back x j h) ∙ ap back_from m ∙ number_back l k r.kept) in
        subst (λ (y : CpuidFunction). place_of y j < places → get_or o (place_of y j) 0 ≢ 0) (sym s) (f.at j) h
