-- What the writer of lines answers, and what it leaves, each under exactly its condition: document 02, P6, "9 as before in writing; "no such line",
-- which is no numbered refusal, .. from the writer, before 9 and writing nothing, for a number not in use or a set detail that it doesn't name".
use Rattle.std.specs.Prelude.{◌≡◌, true, false, List, ◌++◌, ◌↔◌, ◌≢◌, ℕ, ◌≤◌, ◌<◌, length, drop, Err, None, Ok, Some}
use Rattle.table.specs.declared.Refusal.{Refusal}
use Rattle.table.specs.declared.Refusal.TheVariants.{BufferTooShort}
use Rattle.lines.specs.declared.bytes.LineDetails.{LineDetails}
use Rattle.lines.specs.declared.bytes.names.Named.{Named}
use Rattle.lines.specs.Line.{most_s, writable, line}
use Rattle.lines.specs.WriteLine.{AfterLine}

pub record LineExactly (d : LineDetails) (buffer : List ℕ) (w : AfterLine) : Type 0 where
  -- "no such line" comes first; then 9, exactly where the buffer is shorter than the line; no other refusal is given
  pub none : (w.answer ≡ None) ↔ (writable d ≡ false)
  pub short : (w.answer ≡ Some (Err BufferTooShort)) ↔ ((writable d ≡ true) × (length buffer < length (line d)))
  pub written : (n : ℕ) → (w.answer ≡ Some (Ok n)) ↔ ((writable d ≡ true) × (n ≡ length (line d)) × (n ≤ length buffer))
  pub only_short : (r : Refusal) → w.answer ≡ Some (Err r) → r ≡ BufferTooShort
  -- neither writes a byte; a line leaves the bytes beyond it
  pub none_untouched : w.answer ≡ None → w.buffer ≡ buffer
  pub short_untouched : (r : Refusal) → w.answer ≡ Some (Err r) → w.buffer ≡ buffer
  pub beyond : (n : ℕ) → w.answer ≡ Some (Ok n) → w.buffer ≡ line d ++ drop n buffer

-- which details have a line, in words: the number is in use, and every detail that is set is one that it names; s has 8 bits
pub record Nameable (k : Named) (d : LineDetails) : Type 0 where
  pub used : k.used ≡ true
  pub leaf : d.leaf ≢ 0 → k.leaf ≡ true
  pub subleaf : (j : ℕ) → d.subleaf ≡ Some j → k.subleaf ≡ true
  pub s : d.s ≢ 0 → k.s ≡ true
  pub small : d.s ≤ most_s
