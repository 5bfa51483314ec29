-- Document 02, P8, "Moving a live guest to edition 2": "Take a running table under edition 1, with a processor's XCR0 and XSS, to edition 2. The
-- new table must equal what edition 2 would have made of the original pages, and the guest's two save sizes stay what they were."
use Rattle.std.specs.Prelude.{◌≡◌, List, ℕ, Ok, Some}
use Rattle.table.specs.declared.Choices.{Choices}
use Rattle.table.specs.declared.CpuidResults.{CpuidResults}
use Rattle.table.specs.Table.{rows_of_table}
use Rattle.build.specs.Build.{answer}
use Rattle.image.specs.Image.{image}
use Rattle.guest_state.specs.State.{save_register, compact_register, state_verdict}
use Rattle.rise.specs.Rise.{with_edition}
use Rattle.carry.specs.Carry.{carry}
use Rattle.carry.specs.CarryImage.{carry_image}

-- the table of page bytes under edition n
abbrev pub table_under : ℕ → Choices → List ℕ → CpuidResults
table_under n chosen s = (answer (with_edition chosen n) s).table

-- a table a of edition 1, and b of edition 2, of the same pages
pub record Moves (a b : CpuidResults) (xcr0 xss : ℕ) : Type 0 where
  -- 13 and 14 alone can be in the way
  pub verdict : (carry a 1 2 xcr0 xss).verdict ≡ state_verdict (rows_of_table a) xcr0 xss
  pub table : (carry a 1 2 xcr0 xss).verdict ≡ Ok tt → (carry a 1 2 xcr0 xss).table ≡ b
  -- the two save sizes
  pub save : save_register (rows_of_table b) xcr0 ≡ save_register (rows_of_table a) xcr0
  pub compact : compact_register (rows_of_table b) xcr0 xss ≡ compact_register (rows_of_table a) xcr0 xss
  -- and as images, in place
  pub answer : (carry_image (image a) 1 2 xcr0 xss).answer ≡ Some (carry a 1 2 xcr0 xss).verdict
  pub bytes : (carry a 1 2 xcr0 xss).verdict ≡ Ok tt → (carry_image (image a) 1 2 xcr0 xss).buffer ≡ image b

abbrev pub MovesToSecond : Type 0
MovesToSecond = (chosen : Choices) (s : List ℕ) (xcr0 xss : ℕ) → (answer (with_edition chosen 1) s).verdict ≡ Ok tt
    → Moves (table_under 1 chosen s) (table_under 2 chosen s) xcr0 xss
