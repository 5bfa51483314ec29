-- The counted entries are the paper's.
use Rattle.std.specs.Prelude.{◌≡◌, refl, List, ◌∷◌, ◌++◌, ℕ, zero, suc}
use Rattle.std.proofs.Common.{ap, ap₂}
use Rattle.bits.specs.Lists.{keep_if}
use Rattle.pages.specs.Layout.{entry_at}
use Rattle.pages.specs.Entries as Entries
use Rattle.letter.specs.Paper.{on_page, on_pages, read_entries, counted}

on_page_lem : (s : List ℕ) (p q n : ℕ) → Entries.on_page s p q n ≡ on_page s p q n
unfolding Entries.on_page on_page entry_at
on_page_lem s p q zero = refl
on_page_lem s p q (suc n) = ap (◌∷◌ (entry_at s p q)) (on_page_lem s p (suc q) n)

on_pages_lem : (s : List ℕ) (p n : ℕ) → Entries.on_pages s p n ≡ on_pages s p n
unfolding Entries.on_pages on_pages
on_pages_lem s p zero = refl
on_pages_lem s p (suc n) = ap₂ ◌++◌ (on_page_lem s p 0 _) (on_pages_lem s (suc p) n)

pub entries_same : (s : List ℕ) → Entries.entries s ≡ read_entries s
unfolding Entries.entries
entries_same s = on_pages_lem s 0 _

pub counted_same : (s : List ℕ) → Entries.counted s ≡ counted s
unfolding Entries.counted Entries.counts
counted_same s = ap (keep_if Entries.counts) (entries_same s)
