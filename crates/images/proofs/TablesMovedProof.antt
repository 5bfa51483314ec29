-- The comparison of pages and that of memory, and an image written from memory and read back.
use Rattle.std.specs.Prelude.{◌≡◌, refl, Bool, false, List, ℕ, ◌+◌, ◌*◌, ◌<◌, get_or, Ok}
use Rattle.std.proofs.Common.{sym, ap, ap₂, ◌∙◌, subst}
use Rattle.masking.specs.Kept.{places}
use Rattle.table.specs.declared.Choices.{Choices}
use Rattle.table.specs.Rows.{Row}
use Rattle.table.specs.Fits.{Fits}
use Rattle.memory.specs.Memory.{row_of, is_there, rows_in}
use Rattle.memory.specs.MemoryLaws.{known_by_rows, layout_ext}
use Rattle.memory.specs.Held.{held_in, whole_row_lem, whole_ext}
use Rattle.build.specs.Build.{answer}
use Rattle.image.specs.Image.{image}
use Rattle.images.specs.ImageTableLaws.{Plain}
use Rattle.images.specs.ImagesProof.{accepted_plain}
use Rattle.image_read.specs.declared.ReadImage.{ReadImage}
use Rattle.images.specs.ReadBack.{ReadsBack}
use Rattle.images.proofs.ReadBackProof.{image_reads_back, built_reads_back}
use Rattle.compare.specs.declared.Compared.TheVariants.{Rises as PagesRise}
use Rattle.compare.specs.Compare.{compared}
use Rattle.compare.specs.Means as PagesMean
use Rattle.compare.proofs.DecidesProof as PagesDecided
use Rattle.image_read.specs.ReadIn.{ReadIn}
use Rattle.image_read.specs.ReadHeld.{read_row, read_held}
use Rattle.compare.specs.declared.search.RowsCompared.TheVariants.{Rises}
use Rattle.compare.specs.RowsCompared.{compared_tables}
use Rattle.compare.proofs.TablesDecideProof.{decides}
use Rattle.images.specs.TablesMoved.{CompareAgrees, ImagesAgree, PlainIn, Back, ImageBack, BuiltBack}
use Rattle.images.specs.TablesMovedProof.{accepted_a, plain_in, tables_rise}

-- an image of a built table gives it back
read_built : (chosen : Choices) (s : List ℕ) → (answer chosen s).verdict ≡ Ok tt → {r : Bool} {w o : List ℕ}
    → ReadIn (image (answer chosen s).table) r w o → held_in w o ≡ (answer chosen s).table
read_built chosen s e h = read_held h ∙ ap (λ (r : ReadImage). r.table) (built_reads_back chosen s e)

pub images_agree : ImagesAgree
images_agree chosen a b y e _ _ v o w q h k =
    ap₂ compared_tables (read_built chosen a (accepted_a chosen a b y e) h) (read_built chosen b e k) ∙ tables_rise chosen a b y e

-- ---- an image of memory

module _ (w o : List ℕ) (p : Plain (held_in w o)) {r : Bool} {v q : List ℕ} (h : ReadIn (image (held_in w o)) r v q) where
  back : ReadsBack (held_in w o)
  back = image_reads_back (held_in w o) p

  same_rows : (i : ℕ) → i < places → rows_in v q i ≡ rows_in w o i
  same_rows i l = read_row h i l ∙ back.rows i l ∙ whole_row_lem (rows_in w o) i l

  image_back : Back w o r v q
  image_back = record {
    read = h.image ∙ back.read;
    rows = same_rows;
    table = whole_ext same_rows;
    registers =
        λ e.
        h.registers
        ∙ layout_ext _ (row_of w) (λ i l. ap (λ (x : Row). x.result) (back.rows i l ∙ whole_row_lem (rows_in w o) i l))
        ∙ sym (known_by_rows w (row_of w) e refl);
  }

pub image_reads : ImageBack
image_reads w o p r v q h = image_back w o (plain_in w o p) h

pub built_reads : BuiltBack
built_reads chosen s e _ w o m r v q h =
    image_back w o (subst Plain (sym m.table) (accepted_plain chosen s e)) h
