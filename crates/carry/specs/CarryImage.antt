-- A table carried in the form in which a caller in C or Rust holds it: its image, in place. The bytes that are not carried stay.
use Rattle.std.specs.Prelude.{List, ℕ, Err, None, Ok, Option, Some}
use Rattle.bits.specs.Choice.{pick}
use Rattle.table.specs.declared.CpuidResults.{CpuidResults}
use Rattle.buffer.specs.Front.{write_front}
use Rattle.image.specs.Image.{image}
use Rattle.image_read.specs.ReadImage.{read_image}
use Rattle.carry.specs.declared.Carried.{Carried}
use Rattle.carry.specs.Carry.{carry}
use Rattle.table.specs.Verdict.{Verdict}

-- what is answered, and what the lent bytes then are
pub record AfterCarry : Type 0 where
  pub answer : Option Verdict
  pub buffer : List ℕ

-- the bytes that go with a verdict
abbrev pub bytes_given : Verdict → CpuidResults → List ℕ → List ℕ
bytes_given (Ok _) t s = (write_front (image t) s).buffer
bytes_given (Err r) t s = s

abbrev pub after_carry : Carried → List ℕ → AfterCarry
after_carry c s = record { answer = Some c.verdict; buffer = bytes_given c.verdict c.table s }

unfoldable pub carry_image : List ℕ → ℕ → ℕ → ℕ → ℕ → AfterCarry
carry_image s from to xcr0 xss =
    pick (read_image s).is_image (after_carry (carry (read_image s).table from to xcr0 xss) s) (record { answer = None; buffer = s })
