-- Each answer of a write holds under exactly its condition.
use Rattle.std.specs.Prelude.{◌≡◌, refl, Bool, true, false, List, ◌++◌, ℕ, ◌≤◌, ◌<◌, leb, length, drop, Err, Ok}
use Rattle.std.proofs.Common.{arith, leb-true, leb-false}
use Rattle.bits.specs.ChoiceLaws.{impossible}
use Rattle.table.specs.declared.Refusal.TheVariants.{BufferTooShort}
use Rattle.buffer.specs.Front.{AfterWrite, write_front, write_verdict}
use Rattle.buffer.specs.WritesExactly.{FrontExactly}
use Rattle.table.specs.Verdict.{Verdict}

-- what follows where two constructors would be equal
-- the verdict, which is not itself 9, and whether the bytes fit, settle what is answered and what the buffer then holds
pub front_exactly : (v : Verdict) (bytes buffer : List ℕ) (w : AfterWrite) → w ≡ write_verdict v bytes buffer → (v ≡ Err BufferTooShort → ⊥)
    → FrontExactly v bytes buffer w
unfolding write_front
front_exactly v bytes buffer w made not_IsShort = go v refl (leb (length bytes) (length buffer)) refl
  where
    go : (u : Verdict) → v ≡ u → (b : Bool) → leb (length bytes) (length buffer) ≡ b → FrontExactly v bytes buffer w
    go (Err q) e b l =
        let o : w ≡ record { answer = Err q; buffer = buffer } = rw (made, e) in
        record {
          built = λ r p. cc;
          short = (λ p. absurd (not_IsShort (cc)), λ p. impossible (cc));
          written = λ n. (λ p. impossible (cc), λ p. impossible (cc));
          untouched = λ r p. cc;
          beyond = λ n p. cc;
        }
    go (Ok _) e true l =
        let o : w ≡ record { answer = Ok (length bytes); buffer = bytes ++ drop (length bytes) buffer } = rw (made, e, l) in
        let fits : length bytes ≤ length buffer = leb-true _ _ l in
        record {
          built = λ r p. cc;
          short = (λ p. impossible (cc), λ p. absurd (omega arith));
          written = λ n. (λ p. let same : n ≡ length bytes = cc in (e, same, omega arith), λ p. cc);
          untouched = λ r p. cc;
          beyond = λ n p. cc;
        }
    go (Ok _) e false l =
        let o : w ≡ record { answer = Err BufferTooShort; buffer = buffer } = rw (made, e, l) in
        let over : length buffer < length bytes = leb-false _ _ l in
        record {
          built = λ r p. cc;
          short = (λ p. (e, over), λ p. cc);
          written = λ n. (λ p. impossible (cc), λ p. absurd (omega arith));
          untouched = λ r p. cc;
          beyond = λ n p. cc;
        }
