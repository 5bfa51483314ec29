-- Document 01: "An accepted table has 17 rows without subleaf, 9 with, and one for each combined bit from 2 up: 26 to 32"; the image's
-- "length 582 + 25 for each combined bit from 2 up"; "a single page is never accepted".
use Rattle.std.specs.Prelude.{◌≡◌, List, ℕ, ◌+◌, ◌*◌, ◌≤◌, length, Ok}
use Rattle.bits.specs.Lists.{sum_to, one}
use Rattle.bits.specs.Bits.{has, Within}
use Rattle.pages.specs.Layout.{page_size}
use Rattle.table.specs.declared.Choices.{Choices}
use Rattle.build.specs.Build.{answer}
use Rattle.image.specs.Image.{image}

-- the bits of a mask from 2 up, counted
unfoldable pub components_in : ℕ → ℕ
components_in x = sum_to (λ k. one (has (2 + k) x)) 62

pub record Counted (chosen : Choices) (s : List ℕ) : Type 0 where
  pub rows : (answer chosen s).table.row_count ≡ 26 + components_in (answer chosen s).table.max_extended_state
  pub most : (answer chosen s).table.row_count ≤ 32
  pub bytes : length (image (answer chosen s).table) ≡ 582 + 25 * components_in (answer chosen s).table.max_extended_state
  -- bits 0, 1, 2, 5, 6, 7, 11 and 12 alone
  pub mask : Within (answer chosen s).table.max_extended_state 0x18E7

abbrev pub RowsCounted : Type 0
RowsCounted = (chosen : Choices) (s : List ℕ) → (answer chosen s).verdict ≡ Ok tt → Counted chosen s

abbrev pub SinglePageRefused : Type 0
SinglePageRefused = (chosen : Choices) (s : List ℕ) → length s ≡ page_size → (answer chosen s).verdict ≡ Ok tt → ⊥
