-- Document 02, P6: "9 as before in writing; "no such line", which is no numbered refusal, .. from the writer, before 9 and writing nothing, for a
-- number not in use or a set detail that it doesn't name".
use Rattle.std.specs.Prelude.{List, ℕ, None, Option, Some}
use Rattle.bits.specs.Choice.{pick}
use Rattle.buffer.specs.Front.{AfterWrite, write_front}
use Rattle.lines.specs.declared.bytes.LineDetails.{LineDetails}
use Rattle.lines.specs.Line.{writable, line}
use Rattle.buffer.specs.Written.{Written}

-- what is answered, and what the lent buffer then holds
pub record AfterLine : Type 0 where
  pub answer : Option Written
  pub buffer : List ℕ

abbrev pub leaves : Option Written → List ℕ → AfterLine
leaves a b = record { answer = a; buffer = b }

abbrev after_line : AfterWrite → AfterLine
after_line w = leaves (Some w.answer) w.buffer

unfoldable pub write_line : LineDetails → List ℕ → AfterLine
write_line d buffer = pick (writable d) (after_line (write_front (line d) buffer)) (leaves None buffer)
