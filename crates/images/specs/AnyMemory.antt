-- The image of any memory: it tells the rows that are there, and nothing of the others.
use Rattle.std.specs.Prelude.{◌≡◌, refl, Bool, true, false, List, ◌++◌, ℕ, zero, suc, ◌+◌, ◌*◌, ◌^◌, ◌<◌, get_or}
use Rattle.std.proofs.Common.{sym, ap, ap₂, ◌∙◌, subst, arith, lit<}
use Rattle.bits.specs.Choice.{pick}
use Rattle.bits.specs.ChoiceLaws.{never_both}
use Rattle.masking.specs.Kept.{places}
use Rattle.table.specs.declared.CpuidResults.{CpuidResults}
use Rattle.table.specs.Rows.{Row, Rows, vacant}
use Rattle.table.specs.Table.{row_in}
use Rattle.table.specs.Fits.{Fits}
use Rattle.memory.specs.Memory.{rows_in}
use Rattle.memory.specs.Held.{whole_of, held_in, whole_row_lem}
use Rattle.image.specs.Image.{place_bytes, image}
use Rattle.image.specs.ImagePieces.{rows_from}
use Rattle.image.specs.PiecesLaws.{rows_more, rows_all, rows_none}
use Rattle.images.specs.ImageTableLaws.{Plain}
use Rattle.images.specs.ReadBack.{ReadsBack}
use Rattle.image_read.specs.ReadIn.{ReadIn}
use Rattle.image_read.specs.ReadHeld.{read_row}
use Rattle.images.specs.TablesMoved.{RowsBack, AnyBack}

-- a row, or zeros where it is not there
abbrev pub clean : Row → Row
clean r = pick r.present r vacant

pub clean_bytes : (i : ℕ) (r : Row) → place_bytes i (clean r) ≡ place_bytes i r
clean_bytes i r = go r.present refl
  where
    go : (b : Bool) → r.present ≡ b → place_bytes i (pick b r vacant) ≡ place_bytes i r
    go true e = refl
    go false e = rw e

pub clean_absent : (r : Row) → (clean r).present ≡ false → clean r ≡ vacant
clean_absent r = go r.present refl
  where
    go : (b : Bool) → r.present ≡ b → (pick b r vacant).present ≡ false → pick b r vacant ≡ vacant
    go true e f = absurd (never_both e f)
    go false e f = refl

pub clean_fits : (r : Row) → Fits r.result → Fits (clean r).result
clean_fits r h = go r.present
  where
    go : (b : Bool) → Fits (pick b r vacant).result
    go true = h
    go false = record { eax = lit< tt; ebx = lit< tt; ecx = lit< tt; edx = lit< tt }
