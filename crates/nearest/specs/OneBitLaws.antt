-- A bit flipped by shift and exclusive or, register by register, as the code does it.
use Rattle.std.specs.Prelude.{◌≡◌, ℕ, ◌*◌, ◌/◌, ◌%◌, ◌^◌}
use Rattle.std.proofs.Common.{sym, ◌∙◌, one-mul, arith, lit<, shl_exact}
use Rattle.std.specs.Int.Bits.{bit_xor, xor_zero_r}
use Rattle.x86defs.specs.declared.CpuidResult.{CpuidResult}
use Rattle.x86defs.specs.Functions.{cpuid_result}
use Rattle.nearest.specs.OneBit.{bit_in, one_bit, xor_result}

module _ (x : CpuidResult) (n : ℕ) where
  -- the bit by a shift
  abbrev m : ℕ
  m = 1 * 2 ^ (n % 32) % 2 ^ 32

  shifted : m ≡ 2 ^ (n % 32)
  shifted = shl_exact 1 (n % 32) 32 (lit< tt) (omega arith) ∙ one-mul (2 ^ (n % 32))

  flip : (a : ℕ) → bit_xor a m ≡ bit_xor a (2 ^ (n % 32))
  flip a k = bit_xor a (shifted k)

  stays : (a : ℕ) → a ≡ bit_xor a 0
  stays a = sym (xor_zero_r a)

  pub flip_eax : n / 32 ≡ 0 → cpuid_result (bit_xor x.eax m) x.ebx x.ecx x.edx ≡ xor_result x (one_bit (n / 32) (n % 32))
  unfolding bit_in
  flip_eax e = rw e (λ k. cpuid_result (flip x.eax k) (stays x.ebx k) (stays x.ecx k) (stays x.edx k))

  pub flip_ebx : n / 32 ≡ 1 → cpuid_result x.eax (bit_xor x.ebx m) x.ecx x.edx ≡ xor_result x (one_bit (n / 32) (n % 32))
  unfolding bit_in
  flip_ebx e = rw e (λ k. cpuid_result (stays x.eax k) (flip x.ebx k) (stays x.ecx k) (stays x.edx k))

  pub flip_ecx : n / 32 ≡ 2 → cpuid_result x.eax x.ebx (bit_xor x.ecx m) x.edx ≡ xor_result x (one_bit (n / 32) (n % 32))
  unfolding bit_in
  flip_ecx e = rw e (λ k. cpuid_result (stays x.eax k) (stays x.ebx k) (flip x.ecx k) (stays x.edx k))

  pub flip_edx : n / 32 ≡ 3 → cpuid_result x.eax x.ebx x.ecx (bit_xor x.edx m) ≡ xor_result x (one_bit (n / 32) (n % 32))
  unfolding bit_in
  flip_edx e = rw e (λ k. cpuid_result (stays x.eax k) (stays x.ebx k) (stays x.ecx k) (flip x.edx k))
