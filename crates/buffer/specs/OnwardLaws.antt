-- Pieces stored one after another, from step to step: `rest i` is what is left to store at step i, and its first piece is stored next.
use Rattle.std.specs.Prelude.{◌≡◌, refl, List, [], ◌++◌, ℕ, ◌+◌, ◌≤◌, length}
use Rattle.std.proofs.Common.{ap, ◌∙◌, arith, length-append}
use Rattle.std.proofs.lemmas.List.Edits.{sets}
use Rattle.std.proofs.Math.Seq.{length-sets}
use Rattle.buffer.specs.FrontLaws.{sets_append}

-- Storing stood at index at₀ and step i₀ of a buffer, and stands at index at and step i: invariant: the bytes still to be stored are unchanged.
pub record Onward (rest : ℕ → List ℕ) (out₀ : List ℕ) (at₀ i₀ : ℕ) (out : List ℕ) (at i : ℕ) : Type 0 where
  pub kept : length out ≡ length out₀
  pub room : at + length (rest i) ≡ at₀ + length (rest i₀)
  pub bytes : sets out at (rest i) ≡ sets out₀ at₀ (rest i₀)

module _ (rest : ℕ → List ℕ) where
  pub onward_none : (out : List ℕ) (at i : ℕ) → Onward rest out at i out at i
  onward_none out at i = record { kept = refl; room = refl; bytes = refl }

  pub onward_join : {out₀ out out' : List ℕ} {at₀ i₀ at i at' i' : ℕ}
      → Onward rest out₀ at₀ i₀ out at i → Onward rest out at i out' at' i' → Onward rest out₀ at₀ i₀ out' at' i'
  onward_join p q = record { kept = q.kept ∙ p.kept; room = q.room ∙ p.room; bytes = q.bytes ∙ p.bytes }

  -- one piece further
  module _ (piece : List ℕ) (i : ℕ) (more : rest i ≡ piece ++ rest (i + 1)) where
    pub piece_room : length piece ≤ length (rest i)
    piece_room = omega (arith, ap length more, length-append piece (rest (i + 1)))

    pub onward_piece : (out out' : List ℕ) (at : ℕ) → out' ≡ sets out at piece → Onward rest out at i out' (at + length piece) (i + 1)
    onward_piece out out' at w = record {
      kept = ap length w ∙ length-sets out at piece;
      room = omega (arith, ap length more, length-append piece (rest (i + 1)));
      bytes = rw (w, sets_append piece (rest (i + 1)) out at, ← more);
    }

  -- past the last
  pub onward_all : (out₀ out : List ℕ) (at₀ i₀ at i : ℕ) → rest i ≡ [] → Onward rest out₀ at₀ i₀ out at i → out ≡ sets out₀ at₀ (rest i₀)
  onward_all out₀ out at₀ i₀ at i none p = rw none at p.bytes
