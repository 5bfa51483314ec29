-- The proof of `ReadsExactly` and of `ReadMakes`: each test of the definition holds if and only if its condition does.
use Rattle.std.specs.Prelude.{◌≡◌, Bool, not, ◌&&◌, ◌||◌, List, [], ◌∷◌, ◌++◌, ◌↔◌, eqb, ltb, Ok}
use Rattle.std.proofs.Math.Path.{refl}
use Rattle.std.proofs.Common.{sym, ap, ◌∙◌, arith}
use Rattle.std.proofs.Math.Bool.{true, false}
use Prim.Native.Nat.{ℕ, zero, suc, ◌+◌, ◌*◌, ◌≤◌, ◌<◌}
use Rattle.std.proofs.Math.Dec.{leb}
use Rattle.std.proofs.Math.ListN.{length, drop}
use borrow.Author.Tests.{leb-true, leb-false, le-leb, eqb-true, eq-eqb, ltb-true, ltb-false, le-ltb, not-true}
use Rattle.bits.specs.ChoiceLaws.{never_both, and_left, and_right, and_both, impossible}
use Rattle.bits.specs.Lists.{tabulate}
use Rattle.table.specs.declared.Refusal.{Refusal}
use Rattle.table.specs.declared.Refusal.TheVariants.{ListLength, ListRows, ListFields, BufferTooShort}
use Rattle.buffer.specs.Front.{write_front}
use Rattle.kvm_list.specs.Words.{low_word}
use Rattle.kvm_list.specs.WordsLaws.{cut_small}
use Rattle.pages.specs.Bytes.{AreBytes}
use Rattle.pages.specs.Layout.{word_at}
use Rattle.x86defs.specs.Functions.{cpuid_result}
use Rattle.kvm_list.specs.Format.{ListRow, row_count, zero_word, row_at, rows_listed}
use Rattle.kvm_list.specs.FormatLaws.{cut_row}
use Rattle.kvm_import.specs.ListChecks.{bad_list_length, is_row_lawful, all_lawful, fields_lawful, rows_on0, rows_on1, rows_fit}
use Rattle.kvm_import.specs.ListPages.{pages_of}
use Rattle.kvm_import.proofs.PagesLaws.{pages_length}
use Rattle.kvm_import.specs.Import.{list_verdict, read_list}
use Rattle.round_trip.specs.Reads.{ReadMakes}
use Rattle.round_trip.specs.ReadsExactly.{LengthHolds, RowHolds, FieldsHold, RowsFit, ReadsExactly}
use Rattle.round_trip.specs.PagesRead.{AllFit, page_0, page_1, all_counted}
use Rattle.round_trip.specs.PagesLawful.{pages_lawful}
use Rattle.round_trip.specs.ReadsExactlyProof.{reads_exactly}

-- ---- what reading makes

-- a row of bytes has words of 32 bits
module _ (l : List ℕ) (bytes : AreBytes l) where
  word_small : (o : ℕ) → low_word (word_at l o) ≡ word_at l o
  word_small o = cut_small (word_at l o) (omega (arith, bytes o, bytes (o + 1), bytes (o + 2), bytes (o + 3)))

  row_small : (q : ℕ) → cut_row (row_at l q) ≡ row_at l q
  unfolding row_at
  row_small q =
      let o : ℕ = 8 + 40 * q in
      λ k. record {
        leaf = word_small (o + 0) k;
        index = word_small (o + 4) k;
        flags = word_small (o + 8) k;
        registers = cpuid_result (word_small (o + 12) k) (word_small (o + 16) k) (word_small (o + 20) k) (word_small (o + 24) k);
        padding0 = word_small (o + 28) k;
        padding1 = word_small (o + 32) k;
        padding2 = word_small (o + 36) k;
      }

  fit_tabulate : (f : ℕ → ListRow) → ((q : ℕ) → cut_row (f q) ≡ f q) → (n : ℕ) → AllFit (tabulate n f)
  unfolding tabulate
  fit_tabulate f h zero = tt
  fit_tabulate f h (suc n) = (h 0, fit_tabulate (λ k. f (suc k)) (λ q. h (suc q)) n)

  rows_small : AllFit (rows_listed l)
  unfolding rows_listed
  rows_small = fit_tabulate (row_at l) row_small (row_count l)

  pub read_makes : (buffer : List ℕ) → (read_list l buffer).answer ≡ Ok 8192 → ReadMakes l buffer
  read_makes buffer e =
      let x = reads_exactly l buffer in
      let g = ((x.read 8192).0 e).2 in
      record {
        two = pages_length (rows_listed l) g.0 g.1;
        bytes = x.beyond 8192 e;
        lawful = pages_lawful (rows_listed l) rows_small g.0 g.1;
        page0 = page_0 (rows_listed l) rows_small g.0 g.1;
        page1 = page_1 (rows_listed l) rows_small g.0 g.1;
        all = all_counted (rows_listed l) rows_small g.0 g.1;
      }
