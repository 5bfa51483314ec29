-- The round trip: from the list's bytes to the two pages' first entries, and from these to the same table.
use Rattle.std.specs.Prelude.{◌≡◌, Bool, List, [], ◌∷◌, ◌++◌, ℕ, suc, ◌+◌, ◌*◌, ◌≤◌, ◌<◌, leb, get_or, take, drop, Ok}
use Rattle.std.proofs.Math.Path.{refl, ap, fun_ext}
use Rattle.std.proofs.Common.{sym, ◌∙◌, zero-add, arith}
use Rattle.std.proofs.Math.Bool.{true, false}
use Rattle.std.proofs.Math.Dec.{ltb}
use Rattle.std.proofs.Math.ListN.{length}
use borrow.Author.Tests.{ltb-true, le-leb}
use Rattle.bits.specs.Choice.{pick}
use Rattle.bits.specs.Lists.{sum_to, one}
use Rattle.bits.specs.ListsLaws.{sum_ext, get_d_tabulate}
use Rattle.pages.specs.Entries.{counted}
use Rattle.masking.specs.Kept.{places}
use Rattle.table.specs.declared.Choices.{Choices}
use Rattle.table.specs.declared.CpuidResults.{CpuidResults}
use Rattle.table.specs.Rows.{Row, Rows, vacant}
use Rattle.table.specs.Table.{table_of, count_rows, row_in, rows_of_table as table_rows}
use Rattle.checks.specs.Checks.{rows_verdict}
use Rattle.finish.specs.Finish.{finished}
use Rattle.collect.specs.FirstEntries.{first_at, mask_row, rows_of}
use Rattle.finish.specs.RowsBuilt.{built_from}
use Rattle.build.specs.Built.{without_origins, SameButOrigins}
use Rattle.build.specs.Build.{rows_for, answer}
use Rattle.build.proofs.BuildLaws.{answer_of_rows}
use Rattle.buffer.specs.Front.{AfterWrite, write_front}
use Rattle.buffer.specs.WritesExactlyProof.{front_exactly}
use Rattle.image.specs.ImagePieces.{rows_among}
use Rattle.refusals.proofs.ExactlyProof.{not_short}
use Rattle.rise.specs.RiseProof.{answer_table, answer_row, accepted_edition, accepted_lawful, accepted_rows}
use Rattle.kvm_list.specs.Format.{rows_listed}
use Rattle.kvm_import.specs.ListPages.{pages_of}
use Rattle.kvm_import.proofs.PagesLaws.{pages_length as two_pages}
use Rattle.kvm_import.specs.Import.{list_verdict, read_list}
use Rattle.kvm_export.specs.Export.{list_rows, list_of, write_list}
use Rattle.kvm_export.specs.ExportListLaws.{export_length}
use Rattle.kvm_export.proofs.ExportListLaws.{count_rows_lem}
use Rattle.round_trip.specs.Again.{read_again, again}
use Rattle.round_trip.specs.RowsAgain.{built_again}
use Rattle.round_trip.specs.MaskedRows.{rows_masked}
use Rattle.round_trip.specs.TableList.{list_rows_read, fit_0, fit_1, rows_read_lem, list_accepted}
use Rattle.round_trip.specs.PagesRead.{AllFit, pages_first}
use Rattle.round_trip.specs.PagesLawful.{pages_lawful}
use Rattle.round_trip.specs.TableRows.{fit_cut, first_in_table, masked_stands}
use Rattle.round_trip.specs.RoundTrip.{list_length, exported, imported as importedOf, Returns, RoundTrip, ListWritesExactly}
use Rattle.table.specs.Verdict.{Verdict}

-- ---- the pages of any table's list

module _ (t : CpuidResults) where
  abbrev imported : List ℕ
  imported = pages_of (list_rows_read t)

  fit : AllFit (list_rows_read t)
  fit = fit_cut (list_rows t)

  -- their rows are the table's, read again
  imported_rows : (avic : Bool) → rows_of avic imported ≡ again avic (table_rows t)
  unfolding rows_of again list_rows
  imported_rows avic = fun_ext (λ i. go i (ltb i places) refl)
    where
      go : (i : ℕ) (b : Bool) → ltb i places ≡ b → pick b (mask_row avic i (first_at i (counted imported))) vacant ≡ pick b (read_again avic i
          (row_in t i)) vacant
      go i true e =
          let l : i < places = ltb-true i places e in
          ap (mask_row avic i) (pages_first (list_rows_read t) fit (fit_0 t) (fit_1 t) i l ∙ first_in_table t i l) ∙ masked_stands avic t i l
      go i false e = refl

again_ext : (avic : Bool) (a b : Rows) → ((i : ℕ) → i < places → a i ≡ b i) → again avic a ≡ again avic b
unfolding again
again_ext avic a b e = fun_ext (λ i. go i (ltb i places) refl)
  where
    go : (i : ℕ) (c : Bool) → ltb i places ≡ c → pick c (read_again avic i (a i)) vacant ≡ pick c (read_again avic i (b i)) vacant
    go i true h = ap (read_again avic i) (e i (ltb-true i places h))
    go i false h = refl

-- over lent buffers
module _ (t : CpuidResults) where
  read_table : (pages : List ℕ) → 8192 ≤ length pages → read_list
      (list_of t) pages ≡ record { answer = Ok 8192; buffer = imported t ++ drop 8192 pages }
  unfolding read_list write_front
  read_table pages h =
      let n : length (imported t) ≡ 8192 = two_pages (list_rows_read t) (fit_0 t) (fit_1 t) in
      rw (list_accepted t, rows_read_lem t, n, le-leb 8192 (length pages) h)

-- ---- the answer's own list

take_front : (a b : List ℕ) → take (length a) (a ++ b) ≡ a
take_front [] b = refl
take_front (x ∷ a) b = ap (x ∷◌) (take_front a b)

list_size : (m : Rows) (x : ℕ) → length (list_of (table_of m x)) ≡ 8 + 40 * count_rows m
unfolding count_rows rows_among
list_size m x =
    let t : CpuidResults = table_of m x in
    let n : rows_among t.present 0 places ≡ count_rows m =
    sum_ext (λ i. one (get_or t.present (0 + i) false)) (λ i. one (m i).present) places
    (λ i l. ap (λ (k : ℕ). one (get_or t.present k false)) (zero-add i) ∙ ap one (get_d_tabulate places (λ j. (m j).present) i false l)) in
    export_length t ∙ omega (arith, count_rows_lem t, n)

answer_size : (chosen : Choices) (s : List ℕ) → (answer chosen s).verdict ≡ Ok tt → length (list_of (answer chosen s).table) ≡ list_length chosen s
answer_size chosen s e = rw (answer_table chosen s e) (list_size _ _)

pub list_writes_exactly : (chosen : Choices) (s buffer : List ℕ) → ListWritesExactly chosen s buffer
unfolding write_list
list_writes_exactly chosen s buffer = record {
  answers = front_exactly (answer chosen s).verdict (list_of (answer chosen s).table) buffer (write_list chosen s buffer) refl (not_short chosen s);
  size = answer_size chosen s;
}

-- ---- the theorem

same_answer_lem : (chosen : Choices) (s : List ℕ) → (answer chosen s).verdict ≡ Ok tt → SameButOrigins (answer chosen (imported (answer chosen s).table)) (answer chosen s)
same_answer_lem chosen s e =
    let t : CpuidResults = (answer chosen s).table in
    answer_of_rows chosen (imported t) (accepted_edition chosen s e) (pages_lawful (list_rows_read t) (fit t) (fit_0 t) (fit_1 t))
    ∙ ap (built_from chosen.edition) (imported_rows t chosen.secure_avic ∙ again_ext chosen.secure_avic (table_rows t) (finished chosen.edition (rows_for chosen s)) (answer_row chosen s e))
    ∙ built_again chosen.edition chosen.secure_avic (rows_for chosen s) (rows_masked chosen.secure_avic s) (accepted_rows chosen s e)
    ∙ sym (answer_of_rows chosen s (accepted_edition chosen s e) (accepted_lawful chosen s e))

pub round_trip : RoundTrip
round_trip chosen s e buffer pages h k =
    let t : CpuidResults = (answer chosen s).table in
    let x = list_writes_exactly chosen s buffer in
    let n : length (list_of t) ≡ list_length chosen s = x.size e in
    let w : (write_list chosen s buffer).answer ≡ Ok (list_length chosen s) = (x.answers.written (list_length chosen s)).1 (e, sym n, h) in
    let b : (write_list chosen s buffer).buffer ≡ list_of t ++ drop (list_length chosen s) buffer = x.answers.beyond (list_length chosen s) w in
    let f : exported chosen s buffer ≡ list_of t = rw (b, ← n) (take_front (list_of t) _) in
    let r : read_list (exported chosen s buffer) pages ≡ record { answer = Ok 8192; buffer = imported t ++ drop 8192 pages } =
    ap (λ (l : List ℕ). read_list l pages) f ∙ read_table t pages k in
    let two : length (imported t) ≡ 8192 = two_pages (list_rows_read t) (fit_0 t) (fit_1 t) in
    let g : importedOf chosen s buffer pages ≡ imported t =
    ap (λ (o : AfterWrite). take 8192 o.buffer) r ∙ ap (λ (m : ℕ). take m (imported t ++ drop 8192 pages)) (sym two) ∙ take_front (imported t) _ in
    record {
      written = w;
      read = ap (λ (o : AfterWrite). o.answer) r;
      same = ap (λ (u : List ℕ). without_origins (answer chosen u)) g ∙ same_answer_lem chosen s e;
    }
