-- An image is a list of bytes.
use Rattle.std.specs.Prelude.{◌≡◌, Bool, true, false, List, [], ◌∷◌, ◌++◌, ℕ, zero, suc, ◌+◌, ◌-◌, ◌/◌, ◌≤◌, ◌<◌, get_or}
use Rattle.std.proofs.Common.{mod-lt, arith, lit<}
use Rattle.bits.specs.Choice.{pick}
use Rattle.x86defs.specs.declared.CpuidResult.{CpuidResult}
use Rattle.masking.specs.Kept.{places, leaf_at, indexed_at, subleaf_at}
use Rattle.table.specs.declared.CpuidResults.{CpuidResults}
use Rattle.table.specs.Rows.{Row}
use Rattle.table.specs.Table.{row_in}
use Rattle.buffer.specs.Front.{bytes_of, result_bytes}
use Rattle.image.specs.Image.{place_bytes, image}
use Rattle.image.specs.ImagePieces.{rows_from}
use Rattle.image.specs.PiecesLaws.{rows_more, rows_all, rows_none}

data Bytes : List ℕ → Type 0 where
  none : Bytes []
  more : {n : ℕ} {l : List ℕ} → n < 256 → Bytes l → Bytes (n ∷ l)

bytes_at : {l : List ℕ} → Bytes l → (k : ℕ) → get_or l k 0 < 256
bytes_at none k = lit< tt
bytes_at (more h b) zero = h
bytes_at (more h b) (suc k) = bytes_at b k

bytes_word : (n : ℕ) {l : List ℕ} → Bytes l → Bytes (bytes_of n ++ l)
bytes_word n b =
    more (mod-lt n (lit< tt)) (more (mod-lt (n / 256) (lit< tt)) (more (mod-lt (n / 65536) (lit< tt)) (more (mod-lt (n / 16777216) (lit< tt)) b)))

bytes_result : (r : CpuidResult) {l : List ℕ} → Bytes l → Bytes (result_bytes r ++ l)
bytes_result r b = bytes_word r.eax (bytes_word r.ebx (bytes_word r.ecx (bytes_word r.edx b)))

bytes_place : (i : ℕ) (row : Row) {l : List ℕ} → Bytes l → Bytes (place_bytes i row ++ l)
bytes_place i row {l} b = go row.present (indexed_at i)
  where
    r : CpuidResult
    r = row.result

    leaf : List ℕ
    leaf = bytes_of (leaf_at i).0

    go : (p q : Bool)
        → Bytes (pick p (pick q (2 ∷ leaf ++ bytes_of (subleaf_at i) ++ result_bytes r) (1 ∷ leaf ++ result_bytes r)) [] ++ l)
    go true true = more (lit< tt) (bytes_word (leaf_at i).0 (bytes_word (subleaf_at i) (bytes_result r b)))
    go true false = more (lit< tt) (bytes_word (leaf_at i).0 (bytes_result r b))
    go false q = b

rows_bytes : (t : CpuidResults) (n i : ℕ) → i + n ≡ places → Bytes (rows_from t i)
rows_bytes t zero i e = let q : i ≡ places = omega arith in rw (q, rows_none t) none
rows_bytes t (suc n) i e = rw (rows_more t i (omega arith)) (bytes_place i (row_in t i) (rows_bytes t n (i + 1) (omega arith)))

pub bytes_from : (t : CpuidResults) (i : ℕ) → i ≤ places → (k : ℕ) → get_or (rows_from t i) k 0 < 256
bytes_from t i h = bytes_at (rows_bytes t (places - i) i (omega arith))

pub image_bytes : (t : CpuidResults) (k : ℕ) → get_or (image t) k 0 < 256
image_bytes t = rw rows_all at (bytes_from t 0 (omega arith))
