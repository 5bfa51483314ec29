-- Document 02, P6, for what building gives: each refusal, with its details, is written as a line, the line fits 22 bytes, and reading it gives the
-- refusal back. Nothing more is asked than that the page bytes are bytes, as those of a slice are: the leaf that 17 names is then of 32 bits, as "any
-- leaf and subleaf of 32 bits and any s of 8 bits" wants it, and so are the leaves and subleaves of 3 and the s of 6 and 7.
use Rattle.std.specs.Prelude.{◌≡◌, true, List, ℕ, ◌≤◌, length, take, Err, Ok, Some}
use Rattle.pages.specs.Bytes.{AreBytes}
use Rattle.table.specs.declared.Choices.{Choices}
use Rattle.table.specs.declared.Refusal.{Refusal}
use Rattle.table.specs.Refusal.{details, refusal_with}
use Rattle.build.specs.Build.{answer}
use Rattle.lines.specs.declared.bytes.LineDetails.{LineDetails}
use Rattle.lines.specs.Line.{LineFits, writable, line}
use Rattle.lines.specs.WriteLine.{write_line}
use Rattle.lines.specs.ReadLine.{read_line}
use Rattle.lines.specs.LinePromises.{line_details}

-- the refusal that a line's details tell
abbrev pub refusal_of : LineDetails → Refusal
refusal_of d = refusal_with (record { number = d.number; leaf = d.leaf; subleaf = d.subleaf; s = d.s })

-- what a refusal tells, as a line says it
abbrev pub told_of : Refusal → LineDetails
told_of r = line_details (details r)

pub record Lined (r : Refusal) : Type 0 where
  pub fits : LineFits (told_of r)
  pub is_writable : writable (told_of r) ≡ true
  -- the line says these details, and they tell this refusal and no other
  pub read_back : read_line (line (told_of r)) ≡ Some (told_of r)
  pub tells : refusal_of (told_of r) ≡ r
  -- 22 lent bytes are enough, whatever they hold: the line is written, and what it left at the front is read back
  pub room : length (line (told_of r)) ≤ 22
  pub written : (buffer : List ℕ) → 22 ≤ length buffer → (write_line (told_of r) buffer).answer ≡ Some (Ok (length (line (told_of r))))
  pub from_buffer : (buffer : List ℕ) → 22 ≤ length buffer
      → read_line (take (length (line (told_of r))) (write_line (told_of r) buffer).buffer) ≡ Some (told_of r)

abbrev pub BuildingLined : Type 0
BuildingLined = (chosen : Choices) (s : List ℕ) → AreBytes s → (r : Refusal) → (answer chosen s).verdict ≡ Err r → Lined r

-- two page sets, each under choices of its own, whose refusals have one line are refused by one refusal, details included
abbrev pub LinesTell : Type 0
LinesTell = (c d : Choices) (s t : List ℕ) → AreBytes s → AreBytes t → (q r : Refusal)
    → (answer c s).verdict ≡ Err q → (answer d t).verdict ≡ Err r → line (told_of q) ≡ line (told_of r) → q ≡ r
