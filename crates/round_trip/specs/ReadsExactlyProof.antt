-- The proof of `ReadsExactly` and of `ReadMakes`: each test of the definition holds if and only if its condition does.
use Rattle.std.specs.Prelude.{◌≡◌, Bool, not, ◌&&◌, ◌||◌, List, [], ◌∷◌, ◌++◌, ◌↔◌, eqb, ltb, Err, Ok}
use Rattle.std.proofs.Math.Path.{refl}
use Rattle.std.proofs.Common.{sym, ap, ◌∙◌, arith}
use Rattle.std.proofs.Math.Bool.{true, false}
use Prim.Native.Nat.{ℕ, zero, suc, ◌+◌, ◌*◌, ◌≤◌, ◌<◌}
use Rattle.std.proofs.Math.Dec.{leb}
use Rattle.std.proofs.Math.ListN.{length, drop}
use borrow.Author.Tests.{leb-true, leb-false, le-leb, eqb-true, eq-eqb, ltb-true, ltb-false, le-ltb, not-true}
use Rattle.bits.specs.ChoiceLaws.{never_both, and_left, and_right, and_both, impossible}
use Rattle.bits.specs.Lists.{tabulate}
use Rattle.table.specs.declared.Refusal.{Refusal}
use Rattle.table.specs.declared.Refusal.TheVariants.{ListLength, ListRows, ListFields, BufferTooShort}
use Rattle.buffer.specs.Front.{write_front}
use Rattle.kvm_list.specs.Words.{low_word}
use Rattle.kvm_list.specs.WordsLaws.{cut_small}
use Rattle.pages.specs.Bytes.{AreBytes}
use Rattle.pages.specs.Layout.{word_at}
use Rattle.x86defs.specs.Functions.{cpuid_result}
use Rattle.kvm_list.specs.Format.{ListRow, row_count, zero_word, row_at, rows_listed}
use Rattle.kvm_list.specs.FormatLaws.{cut_row}
use Rattle.kvm_import.specs.ListChecks.{bad_list_length, is_row_lawful, all_lawful, fields_lawful, rows_on0, rows_on1, rows_fit}
use Rattle.kvm_import.specs.ListPages.{pages_of}
use Rattle.kvm_import.proofs.PagesLaws.{pages_length}
use Rattle.kvm_import.specs.Import.{list_verdict, read_list}
use Rattle.round_trip.specs.Reads.{ReadMakes}
use Rattle.round_trip.specs.ReadsExactly.{LengthHolds, RowHolds, FieldsHold, RowsFit, ReadsExactly}
use Rattle.round_trip.specs.PagesRead.{AllFit, page_0, page_1, all_counted}
use Rattle.round_trip.specs.PagesLawful.{pages_lawful}

-- ---- 10

length_holds : (l : List ℕ) → bad_list_length l ≡ false → LengthHolds l
unfolding bad_list_length
length_holds l e = go (ltb (length l) 8) refl (eqb (length l) (8 + 40 * row_count l)) refl e
  where
    go : (a : Bool) → ltb (length l) 8 ≡ a → (b : Bool) → eqb (length l) (8 + 40 * row_count l) ≡ b → (a || not b) ≡ false → LengthHolds l
    go false p true q h = (ltb-false (length l) 8 p, eqb-true _ _ q)
    go false p false q h = absurd (never_both refl h)
    go true p b q h = absurd (never_both refl h)

length_fails : (l : List ℕ) → bad_list_length l ≡ true → LengthHolds l → ⊥
unfolding bad_list_length
length_fails l e h =
    let p : ltb (length l) 8 ≡ false = le-ltb (length l) 8 h.0 in
    let q : eqb (length l) (8 + 40 * row_count l) ≡ true = eq-eqb _ _ h.1 in
    let f : bad_list_length l ≡ false = rw (p, q) in
    never_both e f

-- ---- 12

row_holds : (r : ListRow) → is_row_lawful r ≡ true → RowHolds r
row_holds r e =
    let f = and_right (leb r.flags 1) _ e in
    let g = and_right (eqb r.padding0 0) _ f in
    (leb-true _ _ (and_left _ _ e), eqb-true _ _ (and_left _ _ f), eqb-true _ _ (and_left _ _ g), eqb-true _ _ (and_right (eqb r.padding1 0) _ g))

row_lawful : (r : ListRow) → RowHolds r → is_row_lawful r ≡ true
row_lawful r h = rw (le-leb r.flags 1 h.0, eq-eqb r.padding0 0 h.1, eq-eqb r.padding1 0 h.2, eq-eqb r.padding2 0 h.3)

all_hold : (f : ℕ → ListRow) (n : ℕ) → all_lawful (tabulate n f) ≡ true → (q : ℕ) → q < n → RowHolds (f q)
unfolding all_lawful tabulate
all_hold f zero e q l = absurd (omega arith)
all_hold f (suc n) e zero l = row_holds (f 0) (and_left _ _ e)
all_hold f (suc n) e (suc q) l = all_hold (λ k. f (suc k)) n (and_right (is_row_lawful (f 0)) _ e) q (omega arith)

all_lawful_lem : (f : ℕ → ListRow) (n : ℕ) → ((q : ℕ) → q < n → RowHolds (f q)) → all_lawful (tabulate n f) ≡ true
unfolding all_lawful tabulate
all_lawful_lem f zero h = refl
all_lawful_lem f (suc n) h = and_both (row_lawful (f 0) (h 0 (omega arith))) (all_lawful_lem (λ k. f (suc k)) n (λ q l. h (suc q) (omega arith)))

fields_hold : (l : List ℕ) → fields_lawful l ≡ true → FieldsHold l
unfolding fields_lawful rows_listed
fields_hold l e = (eqb-true _ _ (and_left _ _ e), all_hold (row_at l) (row_count l) (and_right (eqb (zero_word l) 0) _ e))

fields_fail : (l : List ℕ) → fields_lawful l ≡ false → FieldsHold l → ⊥
unfolding fields_lawful rows_listed
fields_fail l e h = never_both (and_both (eq-eqb (zero_word l) 0 h.0) (all_lawful_lem (row_at l) (row_count l) h.1)) e

-- ---- 11

rows_hold : (l : List ℕ) → rows_fit (rows_listed l) ≡ true → RowsFit l
unfolding rows_fit
rows_hold l e = (leb-true _ _ (and_left _ _ e), leb-true _ _ (and_right (leb (length (rows_on0 (rows_listed l))) 64) _ e))

rows_fail : (l : List ℕ) → rows_fit (rows_listed l) ≡ false → RowsFit l → ⊥
unfolding rows_fit
rows_fail l e h = never_both (and_both (le-leb _ 64 h.0) (le-leb _ 64 h.1)) e

-- ---- all answers

-- what follows where two constructors would be equal
module _ (l buffer : List ℕ) where
  abbrev s : List ℕ
  s = pages_of (rows_listed l)

  pub reads_exactly : ReadsExactly l buffer
  unfolding read_list list_verdict write_front
  reads_exactly = bad (bad_list_length l) refl
    where
      room : LengthHolds l → FieldsHold l → RowsFit l → bad_list_length l ≡ false → fields_lawful l ≡ true → rows_fit (rows_listed l) ≡ true
          → (b : Bool) → leb (length s) (length buffer) ≡ b → ReadsExactly l buffer
      room h f g e₁ e₂ e₃ true e =
          let two : length s ≡ 8192 = pages_length (rows_listed l) g.0 g.1 in
          let w : read_list l buffer ≡ record { answer = Ok 8192; buffer = s ++ drop 8192 buffer } = rw (e₁, e₂, e₃, e, two) in
          let fits : 8192 ≤ length buffer = omega (arith, leb-true (length s) (length buffer) e, two) in
          record {
            refused_10 = (λ p. impossible (cc), λ p. absurd (p h));
            refused_12 = (λ p. impossible (cc), λ p. absurd (p.1 f));
            refused_11 = (λ p. impossible (cc), λ p. absurd (p.2 g));
            refused_9 = (λ p. impossible (cc), λ p. absurd (omega arith));
            read = λ n. (λ p. let same : n ≡ 8192 = cc in (h, f, g, fits, same), λ p. cc);
            untouched = λ r p. impossible (cc);
            beyond = λ n p. cc;
          }
      room h f g e₁ e₂ e₃ false e =
          let two : length s ≡ 8192 = pages_length (rows_listed l) g.0 g.1 in
          let w : read_list l buffer ≡ record { answer = Err BufferTooShort; buffer = buffer } = rw (e₁, e₂, e₃, e) in
          let over : length buffer < 8192 = omega (arith, leb-false (length s) (length buffer) e, two) in
          record {
            refused_10 = (λ p. impossible (cc), λ p. absurd (p h));
            refused_12 = (λ p. impossible (cc), λ p. absurd (p.1 f));
            refused_11 = (λ p. impossible (cc), λ p. absurd (p.2 g));
            refused_9 = (λ p. (h, f, g, over), λ p. cc);
            read = λ n. (λ p. impossible (cc), λ p. absurd (omega arith));
            untouched = λ r p. cc;
            beyond = λ n p. impossible (cc);
          }

      many : LengthHolds l → FieldsHold l → bad_list_length l ≡ false → fields_lawful l ≡ true → (b : Bool) → rows_fit (rows_listed l) ≡ b
          → ReadsExactly l buffer
      many h f e₁ e₂ true e = room h f (rows_hold l e) e₁ e₂ e (leb (length s) (length buffer)) refl
      many h f e₁ e₂ false e =
          let w : read_list l buffer ≡ record { answer = Err ListRows; buffer = buffer } = rw (e₁, e₂, e) in
          record {
            refused_10 = (λ p. impossible (cc), λ p. absurd (p h));
            refused_12 = (λ p. impossible (cc), λ p. absurd (p.1 f));
            refused_11 = (λ p. (h, f, rows_fail l e), λ p. cc);
            refused_9 = (λ p. impossible (cc), λ p. absurd (rows_fail l e p.2));
            read = λ n. (λ p. impossible (cc), λ p. absurd (rows_fail l e p.2));
            untouched = λ r p. cc;
            beyond = λ n p. impossible (cc);
          }

      fields : LengthHolds l → bad_list_length l ≡ false → (b : Bool) → fields_lawful l ≡ b → ReadsExactly l buffer
      fields h e₁ true e = many h (fields_hold l e) e₁ e (rows_fit (rows_listed l)) refl
      fields h e₁ false e =
          let w : read_list l buffer ≡ record { answer = Err ListFields; buffer = buffer } = rw (e₁, e) in
          record {
            refused_10 = (λ p. impossible (cc), λ p. absurd (p h));
            refused_12 = (λ p. (h, fields_fail l e), λ p. cc);
            refused_11 = (λ p. impossible (cc), λ p. absurd (fields_fail l e p.1));
            refused_9 = (λ p. impossible (cc), λ p. absurd (fields_fail l e p.1));
            read = λ n. (λ p. impossible (cc), λ p. absurd (fields_fail l e p.1));
            untouched = λ r p. cc;
            beyond = λ n p. impossible (cc);
          }

      bad : (b : Bool) → bad_list_length l ≡ b → ReadsExactly l buffer
      bad false e = fields (length_holds l e) e (fields_lawful l) refl
      bad true e =
          let w : read_list l buffer ≡ record { answer = Err ListLength; buffer = buffer } = rw e in
          record {
            refused_10 = (λ p. length_fails l e, λ p. cc);
            refused_12 = (λ p. impossible (cc), λ p. absurd (length_fails l e p.0));
            refused_11 = (λ p. impossible (cc), λ p. absurd (length_fails l e p.0));
            refused_9 = (λ p. impossible (cc), λ p. absurd (length_fails l e p.0));
            read = λ n. (λ p. impossible (cc), λ p. absurd (length_fails l e p.0));
            untouched = λ r p. cc;
            beyond = λ n p. impossible (cc);
          }
