-- The first of a row's four registers that fails: it does, those before it do not, and no other register is so.
use Rattle.std.specs.Prelude.{◌≡◌, refl, Bool, true, false, ◌&&◌, ◌<◌}
use Rattle.std.proofs.Common.{◌∙◌, arith}
use Rattle.bits.specs.ChoiceLaws.{never_both}
use Rattle.compare.specs.declared.registers.Register.{Register}
use Rattle.compare.specs.declared.registers.Register.TheVariants.{Eax, Ebx, Ecx, Edx}
use Rattle.compare.specs.Registers.{order, first_by}

pub is_true : (b : Bool) → (b ≡ false → ⊥) → b ≡ true
is_true true n = refl
is_true false n = absurd (n refl)

pub is_false : (b : Bool) → (b ≡ true → ⊥) → b ≡ false
is_false true n = absurd (n refl)
is_false false n = refl

-- a test of each register, and what it decides
module _ (passes : Register → Bool) (AsWanted : Register → Type 0) (sound : (q : Register) → passes q ≡ true → AsWanted q)
    (complete : (q : Register) → AsWanted q → passes q ≡ true) where
  -- the first that fails, by the tests of the three before EDX
  before_first : (p q r : Bool) → passes Eax ≡ p → passes Ebx ≡ q → passes Ecx ≡ r → (x : Register) → order x < order (first_by p q r) → passes x ≡ true
  before_first false q r e f g x l = absurd (omega arith)
  before_first true false r e f g Eax l = e
  before_first true false r e f g Ebx l = absurd (omega arith)
  before_first true false r e f g Ecx l = absurd (omega arith)
  before_first true false r e f g Edx l = absurd (omega arith)
  before_first true true false e f g Eax l = e
  before_first true true false e f g Ebx l = f
  before_first true true false e f g Ecx l = absurd (omega arith)
  before_first true true false e f g Edx l = absurd (omega arith)
  before_first true true true e f g Eax l = e
  before_first true true true e f g Ebx l = f
  before_first true true true e f g Ecx l = g
  before_first true true true e f g Edx l = absurd (omega arith)

  first_fails : (p q r s : Bool) → passes Eax ≡ p → passes Ebx ≡ q → passes Ecx ≡ r → passes Edx ≡ s → (p && (q && (r && s))) ≡ false
      → passes (first_by p q r) ≡ false
  first_fails false q r s e f g h n = e
  first_fails true false r s e f g h n = f
  first_fails true true false s e f g h n = g
  first_fails true true true s e f g h n = h ∙ n

  abbrev first : Register
  first = first_by (passes Eax) (passes Ebx) (passes Ecx)

  pub register_fails : (passes Eax && (passes Ebx && (passes Ecx && passes Edx))) ≡ false → AsWanted first → ⊥
  register_fails n h =
      never_both (complete first h) (first_fails (passes Eax) (passes Ebx) (passes Ecx) (passes Edx) refl refl refl refl n)

  pub registers_before_lem : (x : Register) → order x < order first → AsWanted x
  registers_before_lem x l = sound x (before_first (passes Eax) (passes Ebx) (passes Ecx) refl refl refl x l)

  -- a register that fails where those before it pass is the first
  pub first_unique : (q : Register) → (AsWanted q → ⊥) → ((x : Register) → order x < order q → AsWanted x) → first ≡ q
  first_unique q f before = go q f before
    where
      fail : (x : Register) → (AsWanted x → ⊥) → passes x ≡ false
      fail x n = is_false (passes x) (λ e. n (sound x e))

      go : (q : Register) → (AsWanted q → ⊥) → ((x : Register) → order x < order q → AsWanted x) → first ≡ q
      go Eax n h = rw (fail Eax n)
      go Ebx n h = rw (complete Eax (h Eax (omega arith)), fail Ebx n)
      go Ecx n h = rw (complete Eax (h Eax (omega arith)), complete Ebx (h Ebx (omega arith)), fail Ecx n)
      go Edx n h = rw (complete Eax (h Eax (omega arith)), complete Ebx (h Ebx (omega arith)), complete Ecx (h Ecx (omega arith)))
