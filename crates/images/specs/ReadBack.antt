-- A table handed over as its image, and got back: reading the image of a table gives its rows, of a built one the whole table, and nothing
-- else is taken for an image.
use Rattle.std.specs.Prelude.{◌≡◌, true, List, ◌↔◌, ℕ, ◌<◌, Ok}
use Rattle.pages.specs.Bytes.{AreBytes}
use Rattle.masking.specs.Kept.{places}
use Rattle.table.specs.declared.Choices.{Choices}
use Rattle.table.specs.declared.CpuidResults.{CpuidResults}
use Rattle.table.specs.Table.{table_of, row_in, rows_of_table}
use Rattle.checks.specs.ExtendedState.{combined_mask}
use Rattle.build.specs.Build.{answer}
use Rattle.image.specs.Image.{image}
use Rattle.images.specs.ImageTableLaws.{Plain}
use Rattle.image_read.specs.ReadImage.{read_image}

-- what reading the image of a table gives; the whole table where its places, its count and its mask are those that its rows give it
pub record ReadsBack (t : CpuidResults) : Type 0 where
  pub read : (read_image (image t)).is_image ≡ true
  pub rows : (i : ℕ) → i < places → row_in (read_image (image t)).table i ≡ row_in t i
  pub whole : t ≡ table_of (rows_of_table t) (combined_mask (rows_of_table t)) → (read_image (image t)).table ≡ t

-- of every table whose absent rows are all zeros and whose registers fit 32 bits
abbrev pub ImageReadsBack : Type 0
ImageReadsBack = (t : CpuidResults) → Plain t → ReadsBack t

-- of an accepted page set's table nothing is lost
abbrev pub BuiltReadsBack : Type 0
BuiltReadsBack = (chosen : Choices) (s : List ℕ) → (answer chosen s).verdict ≡ Ok tt
    → read_image (image (answer chosen s).table) ≡ record { is_image = true; table = (answer chosen s).table }

-- bytes are read if and only if they are the image of such a table
abbrev pub OnlyImagesRead : Type 0
OnlyImagesRead = (s : List ℕ) → AreBytes s → ((read_image s).is_image ≡ true) ↔ ((t : CpuidResults) × Plain t × (image t ≡ s))
