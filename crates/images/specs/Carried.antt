-- Document 02, P8: "the guest's two save sizes stay what they were. Carrying any table within one edition, where it isn't refused, changes
-- nothing." And in place: the bytes become the image of the table that is carried, and there are as many.
use Rattle.std.specs.Prelude.{◌≡◌, true, List, ℕ, ◌<◌, length, Ok}
use Rattle.pages.specs.Bytes.{AreBytes}
use Rattle.masking.specs.Kept.{places}
use Rattle.masking.specs.Place
use Rattle.table.specs.declared.CpuidResults.{CpuidResults}
use Rattle.table.specs.Table.{row_in, rows_of_table}
use Rattle.image.specs.Image.{image}
use Rattle.guest_state.specs.State.{save_register, compact_register}
use Rattle.image_read.specs.ReadImage.{read_image}
use Rattle.carry.specs.Carry.{carry}
use Rattle.carry.specs.CarryImage.{carry_image}

-- what a carried table u has of the table t that was handed over
pub record Carries (t u : CpuidResults) (from to xcr0 xss : ℕ) : Type 0 where
  pub present : u.present ≡ t.present
  pub count : u.row_count ≡ t.row_count
  pub mask : u.max_extended_state ≡ t.max_extended_state
  pub others : (i : ℕ) → i < places → (i ≡ Place.version_and_features → ⊥) → (i ≡ Place.extended_version_and_features → ⊥) → row_in u i ≡ row_in t i
  pub save : save_register (rows_of_table u) xcr0 ≡ save_register (rows_of_table t) xcr0
  pub compact : compact_register (rows_of_table u) xcr0 xss ≡ compact_register (rows_of_table t) xcr0 xss
  pub same : from ≡ to → u ≡ t

-- a table of the code has registers for each of the 88 places
abbrev pub CarryKeeps : Type 0
CarryKeeps = (t : CpuidResults) (from to xcr0 xss : ℕ) → length t.results ≡ places → (carry t from to xcr0 xss).verdict ≡ Ok tt
    → Carries t (carry t from to xcr0 xss).table from to xcr0 xss

-- the lent bytes are those of an image
abbrev pub CarriesInPlace : Type 0
CarriesInPlace = (s : List ℕ) (from to xcr0 xss : ℕ) → AreBytes s → (read_image s).is_image ≡ true
    → (carry (read_image s).table from to xcr0 xss).verdict ≡ Ok tt
    → ((carry_image s from to xcr0 xss).buffer ≡ image (carry (read_image s).table from to xcr0 xss).table)
    × (length (carry_image s from to xcr0 xss).buffer ≡ length s)
