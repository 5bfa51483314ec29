-- Document 02, P2: "Reading gives: 10 length under 8 or not 8 + 40 × count, then 12 a flag other than 0 or 1 or a nonzero padding word, the
-- head's zero word included, then 11 more than 64 rows for one page, then 9 fewer than 8,192 lent bytes." Each if and only if its condition
-- holds and no earlier one does.
use Rattle.std.specs.Prelude.{◌≡◌, List, ◌++◌, ◌↔◌, ℕ, ◌+◌, ◌*◌, ◌≤◌, ◌<◌, length, drop, Err, Ok}
use Rattle.table.specs.declared.Refusal.{Refusal}
use Rattle.table.specs.declared.Refusal.TheVariants.{ListLength, ListRows, ListFields, BufferTooShort}
use Rattle.kvm_list.specs.Format.{ListRow, row_count, zero_word, row_at, rows_listed}
use Rattle.kvm_import.specs.ListChecks.{rows_on0, rows_on1}
use Rattle.kvm_import.specs.ListPages.{pages_of}
use Rattle.kvm_import.specs.Import.{read_list}

-- ---- what must hold, each by itself

abbrev pub LengthHolds : List ℕ → Type 0
LengthHolds l = (8 ≤ length l) × (length l ≡ 8 + 40 * row_count l)

abbrev pub RowHolds : ListRow → Type 0
RowHolds r = (r.flags ≤ 1) × (r.padding0 ≡ 0) × (r.padding1 ≡ 0) × (r.padding2 ≡ 0)

abbrev pub FieldsHold : List ℕ → Type 0
FieldsHold l = (zero_word l ≡ 0) × ((q : ℕ) → q < row_count l → RowHolds (row_at l q))

abbrev pub RowsFit : List ℕ → Type 0
RowsFit l = (length (rows_on0 (rows_listed l)) ≤ 64) × (length (rows_on1 (rows_listed l)) ≤ 64)

-- ---- reading

pub record ReadsExactly (l buffer : List ℕ) : Type 0 where
  pub refused_10 : ((read_list l buffer).answer ≡ Err ListLength) ↔ (LengthHolds l → ⊥)
  pub refused_12 : ((read_list l buffer).answer ≡ Err ListFields) ↔ (LengthHolds l × (FieldsHold l → ⊥))
  pub refused_11 : ((read_list l buffer).answer ≡ Err ListRows) ↔ (LengthHolds l × FieldsHold l × (RowsFit l → ⊥))
  pub refused_9 : ((read_list l buffer).answer ≡ Err BufferTooShort) ↔ (LengthHolds l × FieldsHold l × RowsFit l × (length buffer < 8192))
  pub read : (n : ℕ) → ((read_list l buffer).answer ≡ Ok n) ↔ (LengthHolds l × FieldsHold l × RowsFit l × (8192 ≤ length buffer) × (n ≡ 8192))
  -- a refused read changes no lent byte; another leaves those beyond the two pages
  pub untouched : (r : Refusal) → (read_list l buffer).answer ≡ Err r → (read_list l buffer).buffer ≡ buffer
  pub beyond : (n : ℕ) → (read_list l buffer).answer ≡ Ok n → (read_list l buffer).buffer ≡ pages_of (rows_listed l) ++ drop 8192 buffer
