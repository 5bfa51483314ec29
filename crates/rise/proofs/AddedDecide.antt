-- Added entries by computation, so that a pair of page sets can be shown to be one. Entries whose 48 bytes are equal are equal in what is read.
use Rattle.std.specs.Prelude.{◌≡◌, refl, Bool, true, false, ◌&&◌, List, ℕ, ◌+◌, ◌*◌, ◌<◌, eqb, leb}
use Rattle.std.proofs.Common.{ap, arith, eqb-true, leb-true}
use Rattle.bits.specs.Choice.{pick}
use Rattle.bits.specs.ChoiceLaws.{and_left, and_right}
use Rattle.bits.specs.SearchLaws.{every_at}
use Rattle.bits.specs.ListsLaws.{tabulate_at}
use Rattle.pages.specs.Layout.{page_size, entry_size, entries_at, pages_in, count_of}
use Rattle.rise.specs.Added.{CountAfter, Added}
use Rattle.rise.specs.Added.CountAfter.{same, raised}
use Rattle.rise.specs.AddedDecide.{Figures, SameBytes, count_test, entry_bytes, entry_same, figures_of, figures_wanted, is_last, is_last_lem, page_bytes_lem, page_test}

count_after : (s u : List ℕ) (p : ℕ) → count_test s u p ≡ true → CountAfter s u p
count_after s u p = go (eqb (count_of u p) (count_of s p)) refl
  where
    go : (b : Bool) → eqb (count_of u p) (count_of s p) ≡ b → pick b true (is_last s p && leb (count_of s p) (count_of u p)) ≡ true → CountAfter s u p
    go true e t = same (eqb-true _ _ e)
    go false e t = raised (is_last_lem s p (and_left _ _ t)) (leb-true _ _ (and_right (is_last s p) _ t))

pub added_by_figures : (s u : List ℕ) → figures_of s u ≡ figures_wanted s → Added s u
added_by_figures s u e = record {
  lawful = ap (λ (f : Figures). f.0) e;
  pages = leb-true _ _ (and_left _ _ test);
  counts = λ p l. count_after s u p (every_at (count_test s u) (pages_in s) (and_right (leb (pages_in s) (pages_in u)) _ test) p l);
  entries = λ p q l h. entry_same s u p q (λ i k n. on_page_lem p l i (omega arith) (omega arith));
}
  where
    test : page_test s u ≡ true
    test = ap (λ (f : Figures). f.1) e

    on_page_lem : (p : ℕ) → p < pages_in s → SameBytes s u (page_size * p + entries_at) (entry_size * count_of s p)
    on_page_lem p l =
        page_bytes_lem s u p (tabulate_at (pages_in s) (entry_bytes s u) (entry_bytes s s) (ap (λ (f : Figures). f.2) e) p l)
