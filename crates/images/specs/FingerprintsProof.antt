-- The proofs: images tell tables (crates/images), and lists of bytes are equal or not.
use Rattle.std.specs.Prelude.{◌≡◌, refl, Bool, true, false, List, [], ◌∷◌, ◌⊎◌, ℕ, zero, suc, eqb, length, get_or, drop}
use Rattle.std.proofs.Common.{ap, ap₂, inl, inr, arith, eqb-true}
use Rattle.std.proofs.lemmas.Bool.{eqb-false}
use Rattle.build.specs.Build.{answer}
use Rattle.image.specs.Image.{image}
use Rattle.sha256.specs.Sha256.{sha256}
use Rattle.fingerprint.specs.Fingerprint.{fingerprint}
use Rattle.images.specs.ImageTableLaws.{rows_told, same_image}
use Rattle.images.specs.ImagesProof.{equal_images}
use Rattle.images.specs.Fingerprints.{Collision, RowsFingerprint, FingerprintRows, FingerprintTable}

-- two lists are equal or not
same_or_apart : (m n : List ℕ) → (m ≡ n) ⊎ (m ≡ n → ⊥)
same_or_apart [] [] = inl refl
same_or_apart [] (y ∷ n) = inr (λ e. let z : ◌≡◌ {A = ℕ} 0 (suc (length n)) = ap length e in omega arith)
same_or_apart (x ∷ m) [] = inr (λ e. let z : ◌≡◌ {A = ℕ} (suc (length m)) 0 = ap length e in omega arith)
same_or_apart (x ∷ m) (y ∷ n) = go (eqb x y) refl (same_or_apart m n)
  where
    go : (b : Bool) → eqb x y ≡ b → (m ≡ n) ⊎ (m ≡ n → ⊥) → (x ∷ m ≡ y ∷ n) ⊎ (x ∷ m ≡ y ∷ n → ⊥)
    go true e (inl p) = inl (ap₂ (λ (k : ℕ) (l : List ℕ). k ∷ l) (eqb-true x y e) p)
    go true e (inr p) = inr (λ q. p (ap (drop 1) q))
    go false e p = inr (λ q. eqb-false x y e (ap (λ (l : List ℕ). get_or l 0 0) q))

-- messages with one digest are equal, or a collision
pub one_digest : (m n : List ℕ) → sha256 m ≡ sha256 n → (m ≡ n) ⊎ Collision m n
one_digest m n e = elim (same_or_apart m n) [
  | inl p ↦ inl p
  | inr p ↦ inr (record { apart = p; digest = e })
]

pub rows_fingerprint : RowsFingerprint
unfolding fingerprint
rows_fingerprint t u same = ap sha256 (same_image t u same)
