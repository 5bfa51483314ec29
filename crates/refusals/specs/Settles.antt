-- What it is for a verdict to decide a condition: it accepts where the condition never holds, and else refuses with the one refusal that
-- the condition gives. Laws for the two shapes of a check: a test with one refusal, and the lowest number that fails a test.
use Rattle.std.specs.Prelude.{◌≡◌, refl, Bool, ◌↔◌, ℕ, Err, Ok}
use Rattle.std.proofs.Common.{sym, ap, ◌∙◌}
use Rattle.bits.specs.ChoiceLaws.{never_both}
use Rattle.bits.specs.Search.{Failing, lowest}
use Rattle.bits.specs.Search.Failing.{at, none}
use Rattle.bits.specs.SearchLaws.{Lowest, lowest_none, lowest_at, lowest_unique}
use Rattle.table.specs.declared.Refusal.{Refusal}
use Rattle.checks.specs.Checks.{refuse_at}
use Rattle.table.specs.Verdict.{Verdict}

-- F r: the condition holds, and its refusal is r
pub data Settles (F : Refusal → Type 0) (v : Verdict) : Type 0 where
  passes : v ≡ Ok tt → ((r : Refusal) → F r → ⊥) → Settles F v
  refuses : (r : Refusal) → v ≡ Err r → F r → ((q : Refusal) → F q → q ≡ r) → Settles F v

-- a decided condition gives one refusal at most
pub decided_unique : {F : Refusal → Type 0} {v : Verdict} → Settles F v → (q r : Refusal) → F q → F r → q ≡ r
decided_unique (passes e n) q r f g = absurd (n q f)
decided_unique (refuses p e h one) q r f g = one q f ∙ sym (one r g)

-- a condition that has one refusal, whatever makes it hold
module _ {C : Type 0} {r : Refusal} where
  pub never : (C → ⊥) → Settles (λ q. C × (q ≡ r)) (Ok tt)
  never n = passes refl (λ q f. n f.0)

  pub holds : C → Settles (λ q. C × (q ≡ r)) (Err r)
  holds c = refuses r refl (c, refl) (λ q f. f.1)

-- a condition on a number, which names it in its refusal, where it says that this is the lowest that fails a test
pub lowest_decides : (test : ℕ → Bool) (k n : ℕ) (r : ℕ → Refusal) {C : ℕ → Type 0} → ((j : ℕ) → C j ↔ Lowest test k n j)
    → Settles (λ q. (j : ℕ) × C j × (q ≡ r j)) (refuse_at (lowest test k n) r)
lowest_decides test k n r {C} same = go (lowest test k n) refl
  where
    go : (f : Failing) → lowest test k n ≡ f → Settles (λ q. (j : ℕ) × C j × (q ≡ r j)) (refuse_at f r)
    go (at j) e =
        let l : Lowest test k n j = lowest_at test k n j e in
        refuses (r j) refl (j, (same j).1 l, refl) (λ q f. f.2 ∙ ap r (lowest_unique ((same f.0).0 f.1) l))
    go none e =
        passes refl
        (λ q f.
        let l : Lowest test k n f.0 = (same f.0).0 f.1 in
        never_both (lowest_none test k n e f.0 l.from l.below) l.fails)
