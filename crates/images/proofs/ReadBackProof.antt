-- The proofs of `ImageReadsBack`, `BuiltReadsBack` and `OnlyImagesRead`.
use Rattle.std.specs.Prelude.{◌≡◌, refl, Bool, true, false, List, ℕ, ◌<◌, get_or}
use Rattle.std.proofs.Math.Path.{sym, ap}
use Rattle.std.proofs.Common.{ap₂, ◌∙◌, subst, lit<}
use Rattle.std.specs.Int.Bits.{bit_or}
use Rattle.std.proofs.Math.ListN.{length}
use borrow.Author.Tests.{eq-eqb}
use Rattle.bits.specs.Choice.{pick}
use Rattle.bits.specs.ChoiceLaws.{never_both}
use Rattle.bits.specs.Lists.{tabulate, one}
use Rattle.bits.specs.ListsLaws.{length_tabulate, get_d_tabulate, tabulated, sum_ext}
use Rattle.x86defs.specs.declared.CpuidResult.{CpuidResult}
use Rattle.pages.specs.Layout.{registers_at}
use Rattle.masking.specs.Kept.{places, indexed_at}
use Rattle.masking.specs.Place
use Rattle.table.specs.TableLaws.{table_ext, table_row}
use Rattle.table.specs.declared.CpuidResults.{CpuidResults}
use Rattle.table.specs.Rows.{Row, Rows, row, vacant}
use Rattle.table.specs.Table.{count_rows, table_of, row_in, rows_of_table}
use Rattle.table.specs.Fits.{Fits}
use Rattle.memory.specs.Held.{mask_ext}
use Rattle.checks.specs.ExtendedState.{xss_of, xfem, xss, combined_mask}
use Rattle.build.specs.Build.{answer}
use Rattle.image.specs.Image.{image}
use Rattle.rise.specs.RiseProof.{answer_table, answer_row}
use Rattle.rise.specs.BuiltLaws.{built_mask}
use Rattle.images.specs.ImageTableLaws.{Plain}
use Rattle.images.specs.ImagesProof.{accepted_plain}
use Rattle.image_read.specs.ReadImage.{begins, row_read, left, rows_read, is_image, read_image}
use Rattle.image_read.specs.WrittenAgain.{registers_fit, bytes_left, read_has_image}
use Rattle.images.specs.ReadBack.{ReadsBack, ImageReadsBack, BuiltReadsBack, OnlyImagesRead}
use Rattle.images.specs.RowsBack.{rows_back, none_left}
use Rattle.images.specs.ReadBackProof.{plain_read, reads_back}

pub image_reads_back : ImageReadsBack
image_reads_back t p = reads_back t p

-- ---- of a built table

pub built_reads_back : BuiltReadsBack
built_reads_back chosen s e =
    let t : CpuidResults = (answer chosen s).table in
    let back = reads_back t (accepted_plain chosen s e) in
    let whole : t ≡ table_of (rows_of_table t) (combined_mask (rows_of_table t)) =
    answer_table chosen s e ∙ sym (table_ext (answer_row chosen s e) (built_mask chosen s e)) in
    λ k. record { is_image = back.read k; table = back.whole whole k }

pub only_images_read : OnlyImagesRead
unfolding read_image
only_images_read s bytes = (
  λ e. ((read_image s).table, rw e (plain_read s bytes _), read_has_image s bytes e),
  λ w. let (t, p, e) = w in subst (λ (l : List ℕ). (read_image l).is_image ≡ true) e (reads_back t p).read,
)
