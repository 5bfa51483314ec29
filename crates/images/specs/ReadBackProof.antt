-- The proofs of `ImageReadsBack`, `BuiltReadsBack` and `OnlyImagesRead`.
use Rattle.std.specs.Prelude.{◌≡◌, refl, Bool, true, false, List, ℕ, ◌<◌, get_or}
use Rattle.std.proofs.Math.Path.{sym, ap}
use Rattle.std.proofs.Common.{ap₂, ◌∙◌, subst, lit<}
use Rattle.std.specs.Int.Bits.{bit_or}
use Rattle.std.proofs.Math.ListN.{length}
use borrow.Author.Tests.{eq-eqb}
use Rattle.bits.specs.Choice.{pick}
use Rattle.bits.specs.ChoiceLaws.{never_both}
use Rattle.bits.specs.Lists.{tabulate, one}
use Rattle.bits.specs.ListsLaws.{length_tabulate, get_d_tabulate, tabulated, sum_ext}
use Rattle.x86defs.specs.declared.CpuidResult.{CpuidResult}
use Rattle.pages.specs.Layout.{registers_at}
use Rattle.masking.specs.Kept.{places, indexed_at}
use Rattle.masking.specs.Place
use Rattle.table.specs.TableLaws.{table_ext, table_row}
use Rattle.table.specs.declared.CpuidResults.{CpuidResults}
use Rattle.table.specs.Rows.{Row, Rows, row, vacant}
use Rattle.table.specs.Table.{count_rows, table_of, row_in, rows_of_table}
use Rattle.table.specs.Fits.{Fits}
use Rattle.memory.specs.Held.{mask_ext}
use Rattle.checks.specs.ExtendedState.{xss_of, xfem, xss, combined_mask}
use Rattle.build.specs.Build.{answer}
use Rattle.image.specs.Image.{image}
use Rattle.rise.specs.RiseProof.{answer_table, answer_row}
use Rattle.rise.specs.BuiltLaws.{built_mask}
use Rattle.images.specs.ImageTableLaws.{Plain}
use Rattle.images.specs.ImagesProof.{accepted_plain}
use Rattle.image_read.specs.ReadImage.{begins, row_read, left, rows_read, is_image, read_image}
use Rattle.image_read.specs.WrittenAgain.{registers_fit, bytes_left, read_has_image}
use Rattle.images.specs.ReadBack.{ReadsBack, ImageReadsBack, BuiltReadsBack, OnlyImagesRead}
use Rattle.images.specs.RowsBack.{rows_back, none_left}

-- ---- tables with the same rows

-- ---- the image of a table

module _ (t : CpuidResults) (p : Plain t) where
  all_read : is_image (image t) ≡ true
  unfolding is_image
  all_read = eq-eqb (length (left (image t) places)) 0 (ap length (none_left t p))

  read_table : (read_image (image t)).table ≡ table_of (rows_read (image t)) (combined_mask (rows_read (image t)))
  unfolding read_image
  read_table = rw all_read

  pub reads_back : ReadsBack t
  unfolding read_image
  reads_back = record {
    read = all_read;
    rows =
        λ i h.
        ap (λ (u : CpuidResults). row_in u i) read_table ∙ table_row (rows_read (image t)) (combined_mask (rows_read (image t))) i h ∙ rows_back t p i h;
    whole = λ e. read_table ∙ table_ext (rows_back t p) (mask_ext (rows_back t p)) ∙ sym e;
  }

-- ---- nothing else

module _ (s : List ℕ) (bytes : (k : ℕ) → get_or s k 0 < 256) where
  -- a row that is read is zeros where it is absent, and its registers fit
  plain_row_lem : (i : ℕ) → ((rows_read s i).present ≡ false → rows_read s i ≡ vacant) × Fits (rows_read s i).result
  unfolding row_read
  plain_row_lem i = go (begins (left s i) i)
    where
      registers : CpuidResult
      registers = registers_at (left s i) (pick (indexed_at i) 9 5)

      go : (b : Bool)
          → ((pick b (row registers) vacant).present ≡ false → pick b (row registers) vacant ≡ vacant) × Fits (pick b (row registers) vacant).result
      go true = (λ e. absurd (never_both refl e), registers_fit (left s i) (bytes_left s bytes i) _)
      go false = (λ e. refl, record { eax = lit< tt; ebx = lit< tt; ecx = lit< tt; edx = lit< tt })

  pub plain_read : (x : ℕ) → Plain (table_of (rows_read s) x)
  plain_read x = record {
    absent = λ i h e. table_row (rows_read s) x i h ∙ (plain_row_lem i).0 (sym (ap (λ (r : Row). r.present) (table_row (rows_read s) x i h)) ∙ e);
    fits = λ i h. subst (λ (r : Row). Fits r.result) (sym (table_row (rows_read s) x i h)) (plain_row_lem i).1;
  }
