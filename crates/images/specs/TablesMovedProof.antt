-- The comparison of pages and that of memory, and an image written from memory and read back.
use Rattle.std.specs.Prelude.{◌≡◌, refl, Bool, false, List, ℕ, ◌+◌, ◌*◌, ◌<◌, get_or, Ok}
use Rattle.std.proofs.Common.{sym, ap, ap₂, ◌∙◌, subst}
use Rattle.masking.specs.Kept.{places}
use Rattle.table.specs.declared.Choices.{Choices}
use Rattle.table.specs.Rows.{Row}
use Rattle.table.specs.Fits.{Fits}
use Rattle.memory.specs.Memory.{row_of, is_there, rows_in}
use Rattle.memory.specs.MemoryLaws.{known_by_rows, layout_ext}
use Rattle.memory.specs.Held.{held_in, whole_row_lem, whole_ext}
use Rattle.build.specs.Build.{answer}
use Rattle.image.specs.Image.{image}
use Rattle.images.specs.ImageTableLaws.{Plain}
use Rattle.images.specs.ImagesProof.{accepted_plain}
use Rattle.image_read.specs.declared.ReadImage.{ReadImage}
use Rattle.images.specs.ReadBack.{ReadsBack}
use Rattle.compare.specs.declared.Compared.TheVariants.{Rises as PagesRise}
use Rattle.compare.specs.Compare.{compared}
use Rattle.compare.specs.Means as PagesMean
use Rattle.compare.proofs.DecidesProof as PagesDecided
use Rattle.image_read.specs.ReadIn.{ReadIn}
use Rattle.image_read.specs.ReadHeld.{read_row, read_held}
use Rattle.compare.specs.declared.search.RowsCompared.TheVariants.{Rises}
use Rattle.compare.specs.RowsCompared.{compared_tables}
use Rattle.compare.proofs.TablesDecideProof.{decides}
use Rattle.images.specs.TablesMoved.{CompareAgrees, ImagesAgree, PlainIn, Back, ImageBack, BuiltBack}

-- ---- pages

module _ (chosen : Choices) (a b : List ℕ) (y : compared chosen a b ≡ PagesRise) (e : (answer chosen b).verdict ≡ Ok tt) where
  means : PagesMean.AnswerMeans chosen a b PagesRise
  means = subst (PagesMean.AnswerMeans chosen a b) y (PagesDecided.decides chosen a b).means

  pub accepted_a : (answer chosen a).verdict ≡ Ok tt
  accepted_a = means.0.accepted

  pub tables_rise : compared_tables (answer chosen a).table (answer chosen b).table ≡ Rises
  tables_rise = (decides _ _).complete (means.1.table e)

pub compare_agrees : CompareAgrees
compare_agrees chosen a b y e _ _ v o w q h k = ap₂ compared_tables h.table k.table ∙ tables_rise chosen a b y e

pub plain_in : (w o : List ℕ) → PlainIn w o → Plain (held_in w o)
plain_in w o p = record {
  absent = λ i l e.
      let f : is_there (get_or o i 0) ≡ false = sym (ap (λ (x : Row). x.present) (whole_row_lem (rows_in w o) i l)) ∙ e in
      whole_row_lem (rows_in w o) i l ∙ (λ k. record { present = f k; result = p.absent i l f k });
  fits = λ i l.
      subst (λ (x : Row). Fits x.result) (sym (whole_row_lem (rows_in w o) i l))
      (record { eax = p.fits (4 * i); ebx = p.fits (4 * i + 1); ecx = p.fits (4 * i + 2); edx = p.fits (4 * i + 3) });
}
