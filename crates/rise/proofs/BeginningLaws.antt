-- The entries of a page set are a beginning of its entries with others added.
use Rattle.std.specs.Prelude.{◌≡◌, List, [], ◌++◌}
use Rattle.std.proofs.Math.Path.{refl}
use Rattle.std.proofs.Common.{sym, ap, ap₂, ◌∙◌, append_assoc, append-nil, arith}
use Prim.Native.Nat.{ℕ, zero, suc, ◌+◌, ◌-◌}
use Rattle.pages.specs.Layout.{pages_in, count_of}
use Rattle.pages.specs.Entries.{on_page, on_pages, entries, counts, counted}
use Rattle.rise.specs.Added.{CountAfter, Added}
use Rattle.rise.specs.Added.CountAfter.{same, raised}
use Rattle.rise.specs.BeginningLaws.{Begins, keep_begins, page_same, page_split, pages_empty}

-- ---- all pages

module _ (s u : List ℕ) (added : Added s u) where
  -- from page p on: n pages of s, m of u
  pages_begin : (p n m : ℕ) → p + n ≡ pages_in s → p + m ≡ pages_in u → Begins (on_pages s p n) (on_pages u p m)
  unfolding on_pages
  pages_begin p zero m e f = record { more = on_pages u p m; whole = refl }
  pages_begin p (suc n) zero e f = absurd (omega (arith, added.pages))
  pages_begin p (suc n) (suc m) e f = go (pages_begin (suc p) n m (omega arith) (omega arith)) (added.counts p (omega arith))
    where
      kept : on_page u p 0 (count_of s p) ≡ on_page s p 0 (count_of s p)
      kept = page_same s u p 0 (count_of s p) (λ q l h. added.entries p q (omega arith) (omega arith))

      go : Begins (on_pages s (suc p) n) (on_pages u (suc p) m) → CountAfter s u p → Begins (on_pages s p (suc n)) (on_pages u p (suc m))
      go rest (same c) = record {
        more = rest.more;
        whole =
            ap₂ ◌++◌ (ap (on_page u p 0) c ∙ kept) rest.whole
            ∙ sym (append_assoc (on_page s p 0 (count_of s p)) (on_pages s (suc p) n) rest.more);
      }
      go rest (raised last l) =
          let c : ℕ = count_of s p in
          let d : ℕ = count_of u p - c in
          let none : on_pages s (suc p) n ≡ [] = pages_empty s (suc p) n (λ q k h. omega (arith, last.after q k (omega arith))) in
          let longer : on_page u p 0 (count_of u p) ≡ on_page u p 0 c ++ on_page u p (0 + c) d = page_split u p 0 c d (count_of u p) (omega arith) in
          record { more = on_page u p (0 + c) d ++ on_pages u (suc p) m; whole = rw (none, longer, kept, append-nil, append_assoc) }

  -- the entries of s are a beginning of those of u, each with its page and position
  pub entries_begin : Begins (entries s) (entries u)
  unfolding entries
  entries_begin = pages_begin 0 (pages_in s) (pages_in u) (omega arith) (omega arith)

  -- and so are the counted ones
  pub counted_begin : Begins (counted s) (counted u)
  unfolding counted
  counted_begin = keep_begins counts entries_begin
