-- What a write answers, and what it leaves, each under exactly its condition: for any verdict on what the bytes are made of, and any bytes.
use Rattle.std.specs.Prelude.{◌≡◌, List, ◌++◌, ◌↔◌, ℕ, ◌≤◌, ◌<◌, length, drop, Err, Ok}
use Rattle.table.specs.declared.Refusal.{Refusal}
use Rattle.table.specs.declared.Refusal.TheVariants.{BufferTooShort}
use Rattle.buffer.specs.Front.{AfterWrite}
use Rattle.table.specs.Verdict.{Verdict}

-- the verdict's refusal first, then 9 exactly where the buffer is shorter than the bytes; a refusal leaves every lent byte
pub record FrontExactly (v : Verdict) (bytes buffer : List ℕ) (w : AfterWrite) : Type 0 where
  pub built : (r : Refusal) → v ≡ Err r → w.answer ≡ Err r
  pub short : (w.answer ≡ Err BufferTooShort) ↔ ((v ≡ Ok tt) × (length buffer < length bytes))
  pub written : (n : ℕ) → (w.answer ≡ Ok n) ↔ ((v ≡ Ok tt) × (n ≡ length bytes) × (n ≤ length buffer))
  pub untouched : (r : Refusal) → w.answer ≡ Err r → w.buffer ≡ buffer
  pub beyond : (n : ℕ) → w.answer ≡ Ok n → w.buffer ≡ bytes ++ drop n buffer
