-- Laws of choices and tests.
use Rattle.std.specs.Prelude.{◌≡◌, refl, Bool, true, false, ◌&&◌, ℕ}
use Rattle.std.proofs.Common.{sym, ◌∙◌, arith}
use Rattle.std.proofs.lemmas.Bool.{false≢true}
use Rattle.bits.specs.Choice.{pick}

pub never_both : {b : Bool} → b ≡ true → b ≡ false → ⊥
never_both p q = false≢true (sym q ∙ p)

pub impossible {ℓ} : {A : Type ℓ} → ◌≡◌ {A = ℕ} 0 1 → A
impossible e = absurd (omega arith)

pub pick_true {ℓ} : {A : Type ℓ} {b : Bool} (x y : A) → b ≡ true → pick b x y ≡ x
pick_true x y e = rw e

pub pick_false {ℓ} : {A : Type ℓ} {b : Bool} (x y : A) → b ≡ false → pick b x y ≡ y
pick_false x y e = rw e

pub pick_same {ℓ} : {A : Type ℓ} (b : Bool) (x : A) → pick b x x ≡ x
pick_same true x = refl
pick_same false x = refl

pub pick_twice {ℓ} : {A : Type ℓ} (b : Bool) (x y : A) → pick b (pick b x y) y ≡ pick b x y
pick_twice true x y = refl
pick_twice false x y = refl

pub and_left : (a b : Bool) → (a && b) ≡ true → a ≡ true
and_left true b e = refl
and_left false b e = e

pub and_right : (a b : Bool) → (a && b) ≡ true → b ≡ true
and_right true b e = e
and_right false b e = absurd (false≢true e)

pub and_both : {a b : Bool} → a ≡ true → b ≡ true → (a && b) ≡ true
and_both p q = rw (p, q)

pub and_mono : (a b : Bool) {c d : Bool} → (a ≡ true → c ≡ true) → (b ≡ true → d ≡ true) → (a && b) ≡ true → (c && d) ≡ true
and_mono a b f g e = and_both (f (and_left a b e)) (g (and_right a b e))

pub and_implied : (a b : Bool) → (a ≡ true → b ≡ true) → (a && b) ≡ a
and_implied true b f = f refl
and_implied false b f = refl

-- (a && b) && (c && d), joined the other way round
pub and_swap : (a b c d : Bool) → ((a && b) && (c && d)) ≡ ((a && c) && (b && d))
and_swap true true c d = refl
and_swap true false true d = refl
and_swap true false false d = refl
and_swap false b c d = refl

-- a test that is asked only under another
pub if_holds : (b c : Bool) → pick b c true ≡ true → b ≡ true → c ≡ true
if_holds true c e h = e
if_holds false c e h = absurd (false≢true h)

pub if_fails : (b c : Bool) → pick b c true ≡ false → (b ≡ true) × (c ≡ false)
if_fails true c e = (refl, e)
if_fails false c e = absurd (false≢true (sym e))
