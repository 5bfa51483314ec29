-- What a processor's guest sees of a page set: "Building's refusals come first." Then 13 and 14, on the table's own rows.
use Rattle.std.specs.Prelude.{List, ℕ}
use Rattle.table.specs.declared.Choices.{Choices}
use Rattle.table.specs.declared.CpuidResults.{CpuidResults}
use Rattle.table.specs.Refusal.{and_then}
use Rattle.table.specs.Table.{rows_of_table}
use Rattle.build.specs.declared.Built.{Built}
use Rattle.build.specs.Build.{answer}
use Rattle.buffer.specs.Front.{AfterWrite, write_verdict}
use Rattle.image.specs.Image.{image}
use Rattle.guest_state.specs.State.{state_verdict}
use Rattle.guest.specs.declared.Processor.{Processor}
use Rattle.guest.specs.declared.GuestAnswer.{GuestAnswer}
use Rattle.guest.specs.Guest.{answer_for}
use Rattle.table.specs.Verdict.{Verdict}

-- of what building gave
abbrev pub guest_by : Verdict → CpuidResults → Processor → GuestAnswer
guest_by w t v = answer_for (and_then w (state_verdict (rows_of_table t) v.xcr0 v.xss)) t v

abbrev pub guest_of : Built → Processor → GuestAnswer
guest_of b v = guest_by b.verdict b.table v

unfoldable pub guest_pages : Choices → List ℕ → Processor → GuestAnswer
guest_pages chosen s v = guest_of (answer chosen s) v

-- the guest's table as an image: 9 comes after all of these, and a refused write changes no lent byte
unfoldable pub write_guest : Choices → List ℕ → Processor → List ℕ → AfterWrite
write_guest chosen s v buffer = write_verdict (guest_pages chosen s v).verdict (image (guest_pages chosen s v).table) buffer
