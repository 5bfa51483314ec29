-- The four registers of a row compare where a test of each holds, for any test that says what its comparison says.
use Rattle.std.specs.Prelude.{◌≡◌, Bool, true, ℕ}
use Rattle.bits.specs.ChoiceLaws.{and_left, and_right, and_both}
use Rattle.x86defs.specs.declared.CpuidResult.{CpuidResult}
use Rattle.finish.specs.Kinds.{Kind, Kinds, Registers, all_registers}

module _ (test : Kind → ℕ → ℕ → Bool) (R : Kind → ℕ → ℕ → Type 0) where
  pub registers_hold : ((k : Kind) (a b : ℕ) → test k a b ≡ true → R k a b)
      → (k : Kinds) (a b : CpuidResult) → all_registers test k a b ≡ true → Registers R k a b
  registers_hold holds k a b e =
      let p = test k.eax a.eax b.eax in
      let q = test k.ebx a.ebx b.ebx in
      let r = test k.ecx a.ecx b.ecx in
      let e₁ = and_right p _ e in
      let e₂ = and_right q _ e₁ in
      record {
        eax = holds k.eax _ _ (and_left p _ e);
        ebx = holds k.ebx _ _ (and_left q _ e₁);
        ecx = holds k.ecx _ _ (and_left r _ e₂);
        edx = holds k.edx _ _ (and_right r _ e₂);
      }

  pub registers_tested : ((k : Kind) (a b : ℕ) → R k a b → test k a b ≡ true)
      → (k : Kinds) (a b : CpuidResult) → Registers R k a b → all_registers test k a b ≡ true
  registers_tested tested k a b h =
      and_both (tested k.eax _ _ h.eax)
      (and_both (tested k.ebx _ _ h.ebx) (and_both (tested k.ecx _ _ h.ecx) (tested k.edx _ _ h.edx)))
