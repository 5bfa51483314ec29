-- Stores: stores that stand apart change places, and stores that follow one another join.
use Rattle.std.specs.Prelude.{◌≡◌, refl, List, [], ◌∷◌, ◌++◌, ℕ, suc, ◌+◌, ◌≤◌, ◌<◌, length, set}
use Rattle.std.proofs.Common.{ap, ◌∙◌, arith, length-append}
use Rattle.std.proofs.lemmas.List.{set_comm}
use Rattle.std.proofs.lemmas.List.Edits.{sets}
use Rattle.x86defs.specs.declared.CpuidResult.{CpuidResult}
use Rattle.buffer.specs.Front.{word_bytes, register_bytes}
use Rattle.buffer.specs.FrontLaws.{sets_append}

pub sets_join : (l : List ℕ) (i : ℕ) (xs ys : List ℕ) (j : ℕ) → j ≡ i + length xs → sets (sets l i xs) j ys ≡ sets l i (xs ++ ys)
sets_join l i xs ys j e = ap (λ (k : ℕ). sets (sets l i xs) k ys) e ∙ sets_append xs ys l i

set_sets : (ys l : List ℕ) (i a j : ℕ) → i < j → sets (set l i a) j ys ≡ set (sets l j ys) i a
set_sets [] l i a j h = refl
set_sets (y ∷ ys) l i a j h =
    ap (λ (m : List ℕ). sets m (suc j) ys) (set_comm l i j a y (λ e. omega arith)) ∙ set_sets ys (set l j y) i a (suc j) (omega arith)

pub sets_swap : (xs ys l : List ℕ) (i j : ℕ) → i + length xs ≤ j → sets (sets l i xs) j ys ≡ sets (sets l j ys) i xs
sets_swap [] ys l i j h = refl
sets_swap (x ∷ xs) ys l i j h =
    sets_swap xs ys (set l i x) (suc i) j (omega arith) ∙ ap (λ (m : List ℕ). sets m (suc i) xs) (set_sets ys l i x j (omega arith))

-- ---- the pieces of a row or an entry

pub word_length : (n : ℕ) → length (word_bytes n) ≡ 4
unfolding word_bytes
word_length n = refl

pub registers_length : (r : CpuidResult) → length (register_bytes r) ≡ 16
unfolding register_bytes
registers_length r = refl

-- five stores, each after the one before
pub five_pieces : (out : List ℕ) (at : ℕ) (a b c d e : List ℕ) (j k m n : ℕ) → j ≡ at + length a → k ≡ at + length a + length b
    → m ≡ at + length a + length b + length c → n ≡ at + length a + length b + length c + length d
    → sets (sets (sets (sets (sets out at a) j b) k c) m d) n e ≡ sets out at ((((a ++ b) ++ c) ++ d) ++ e)
five_pieces out at a b c d e j k m n p q r s =
    ap (λ (l : List ℕ). sets (sets (sets l k c) m d) n e) (sets_join out at a b j p)
    ∙ ap (λ (l : List ℕ). sets (sets l m d) n e) (sets_join out at (a ++ b) c k (omega (arith, length-append a b)))
    ∙ ap (λ (l : List ℕ). sets l n e) (sets_join out at ((a ++ b) ++ c) d m (omega (arith, length-append a b, length-append (a ++ b) c)))
    ∙ sets_join out at (((a ++ b) ++ c) ++ d) e n (omega (arith, length-append a b, length-append (a ++ b) c, length-append ((a ++ b) ++ c) d))
