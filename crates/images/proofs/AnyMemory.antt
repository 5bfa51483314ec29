-- The image of any memory: it tells the rows that are there, and nothing of the others.
use Rattle.std.specs.Prelude.{◌≡◌, refl, Bool, true, false, List, ◌++◌, ℕ, zero, suc, ◌+◌, ◌*◌, ◌^◌, ◌<◌, get_or}
use Rattle.std.proofs.Common.{sym, ap, ap₂, ◌∙◌, subst, arith, lit<}
use Rattle.bits.specs.Choice.{pick}
use Rattle.bits.specs.ChoiceLaws.{never_both}
use Rattle.masking.specs.Kept.{places}
use Rattle.table.specs.declared.CpuidResults.{CpuidResults}
use Rattle.table.specs.Rows.{Row, Rows, vacant}
use Rattle.table.specs.Table.{row_in}
use Rattle.table.specs.Fits.{Fits}
use Rattle.memory.specs.Memory.{rows_in}
use Rattle.memory.specs.Held.{whole_of, held_in, whole_row_lem}
use Rattle.image.specs.Image.{place_bytes, image}
use Rattle.image.specs.ImagePieces.{rows_from}
use Rattle.image.specs.PiecesLaws.{rows_more, rows_all, rows_none}
use Rattle.images.specs.ImageTableLaws.{Plain}
use Rattle.images.specs.ReadBack.{ReadsBack}
use Rattle.images.proofs.ReadBackProof.{image_reads_back}
use Rattle.image_read.specs.ReadIn.{ReadIn}
use Rattle.image_read.specs.ReadHeld.{read_row}
use Rattle.images.specs.TablesMoved.{RowsBack, AnyBack}
use Rattle.images.specs.AnyMemory.{clean, clean_absent, clean_bytes, clean_fits}

-- tables whose places have the same bytes have the same image
module _ (t u : CpuidResults) (f : (i : ℕ) → i < places → place_bytes i (row_in t i) ≡ place_bytes i (row_in u i)) where
  bytes_from : (n i : ℕ) → i + n ≡ places → rows_from t i ≡ rows_from u i
  bytes_from zero i e = let q : i ≡ places = omega arith in rw q (rows_none t ∙ sym (rows_none u))
  bytes_from (suc n) i e =
      rows_more t i (omega arith) ∙ ap₂ ◌++◌ (f i (omega arith)) (bytes_from n (i + 1) (omega arith)) ∙ sym (rows_more u i (omega arith))

  same_bytes_lem : image t ≡ image u
  same_bytes_lem = sym (rows_all t) ∙ bytes_from places 0 refl ∙ rows_all u

module _ (w o : List ℕ) (fits : (k : ℕ) → get_or w k 0 < 2 ^ 32) {r : Bool} {v q : List ℕ} (h : ReadIn (image (held_in w o)) r v q) where
  abbrev rows : Rows
  rows i = clean (rows_in w o i)

  abbrev t : CpuidResults
  t = whole_of rows

  plain : Plain t
  plain = record {
    absent = λ i l e.
        whole_row_lem rows i l ∙ clean_absent (rows_in w o i) (sym (ap (λ (x : Row). x.present) (whole_row_lem rows i l)) ∙ e);
    fits = λ i l.
        subst (λ (x : Row). Fits x.result) (sym (whole_row_lem rows i l))
        (clean_fits (rows_in w o i) (record { eax = fits (4 * i); ebx = fits (4 * i + 1); ecx = fits (4 * i + 2); edx = fits (4 * i + 3) }));
  }

  same : image (held_in w o) ≡ image t
  same =
      same_bytes_lem (held_in w o) t (λ i l.
      ap (place_bytes i) (whole_row_lem (rows_in w o) i l) ∙ sym (clean_bytes i (rows_in w o i)) ∙ ap (place_bytes i) (sym (whole_row_lem rows i l)))

  of_clean : ReadIn (image t) r v q
  of_clean = subst (λ (s : List ℕ). ReadIn s r v q) same h

  rows_back : ReadsBack t → RowsBack w o r v q
  rows_back back = record {
    read = of_clean.image ∙ back.read;
    rows = λ i l. read_row of_clean i l ∙ back.rows i l ∙ whole_row_lem rows i l;
  }

pub any_back : AnyBack
any_back w o f r v q h = rows_back w o f h (image_reads_back _ (plain w o f h))
