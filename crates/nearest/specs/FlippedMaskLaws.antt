-- A flip through the masks: a bit that the masks of a place do not have changes nothing there.
use Rattle.std.specs.Prelude.{◌≡◌, Bool, ℕ, zero, suc, ◌+◌, ◌*◌, ◌/◌, ◌%◌, ◌^◌, ◌<◌}
use Rattle.std.proofs.Common.{ap, ◌∙◌, arith}
use Rattle.std.specs.Int.Bits.{bit_and, bit_xor, differ, xor_step, xor_zero_r}
use Rattle.std.proofs.lemmas.Nat.{xor_shr}
use Rattle.bits.specs.Bits.{bit}
use Rattle.bits.specs.BitsLaws.{bit_lt, bit_and_lem, bits_ext}
use Rattle.x86defs.specs.declared.CpuidResult.{CpuidResult}
use Rattle.x86defs.specs.Functions.{cpuid_result}
use Rattle.masking.specs.Masks.{apply_mask}
use Rattle.masking.specs.Kept.{masks_at}
use Rattle.collect.specs.FirstEntries.{set_legacy, masked_at}
use Rattle.nearest.specs.OneBit.{xor_result}

pub bit_xor_lem : (k a b : ℕ) → bit k (bit_xor a b) ≡ (bit k a + bit k b) % 2
unfolding bit
bit_xor_lem k a b = rw xor_shr (rw (xor_step (a / 2 ^ k) (b / 2 ^ k)) (digit (a / 2 ^ k % 2) (b / 2 ^ k % 2) _ (omega arith) (omega arith)))
  where
    digit : (x y h : ℕ) → x < 2 → y < 2 → (h * 2 + differ x y) % 2 ≡ (x + y) % 2
    digit zero zero h l u = omega arith
    digit zero (suc zero) h l u = omega arith
    digit (suc zero) zero h l u = omega arith
    digit (suc zero) (suc zero) h l u = omega arith
    digit (suc (suc x)) y h l u = absurd (omega arith)
    digit zero (suc (suc y)) h l u = absurd (omega arith)
    digit (suc zero) (suc (suc y)) h l u = absurd (omega arith)

-- and
xor_and : (x d m : ℕ) → bit_and (bit_xor x d) m ≡ bit_xor (bit_and x m) (bit_and d m)
xor_and x d m =
    bits_ext _ _ (λ k.
    omega (
      arith,
      bit_and_lem k (bit_xor x d) m,
      bit_xor_lem k x d,
      bit_xor_lem k (bit_and x m) (bit_and d m),
      bit_and_lem k x m,
      bit_and_lem k d m,
      bit_lt k x,
      bit_lt k d,
      bit_lt k m,
    ))

outside : (x d m : ℕ) → bit_and d m ≡ 0 → bit_and (bit_xor x d) m ≡ bit_and x m
outside x d m e = xor_and x d m ∙ ap (bit_xor (bit_and x m)) e ∙ xor_zero_r (bit_and x m)

-- of a bit that the masks of place i do not have
pub masked_out : (avic : Bool) (i : ℕ) (x d : CpuidResult) → apply_mask (masks_at avic i) d ≡ cpuid_result 0 0 0 0
    → masked_at avic i (xor_result x d) ≡ masked_at avic i x
masked_out avic i x d e =
    ap (set_legacy i) (λ k. cpuid_result
    (outside x.eax d.eax _ (ap (λ (r : CpuidResult). r.eax) e) k)
    (outside x.ebx d.ebx _ (ap (λ (r : CpuidResult). r.ebx) e) k)
    (outside x.ecx d.ecx _ (ap (λ (r : CpuidResult). r.ecx) e) k)
    (outside x.edx d.edx _ (ap (λ (r : CpuidResult). r.edx) e) k))
