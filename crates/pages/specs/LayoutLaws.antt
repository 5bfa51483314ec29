-- Counts, page by page, and the registers of an entry.
use Rattle.std.specs.Prelude.{◌≡◌, refl, Bool, true, false, List, ℕ, ◌+◌, ◌≤◌, ◌<◌, leb}
use Rattle.std.proofs.Common.{add-one, arith, le-leb, leb-true}
use Rattle.std.proofs.lemmas.Bool.{lt-leb}
use Rattle.bits.specs.ChoiceLaws.{never_both, and_both}
use Rattle.bits.specs.Search.{every}
use Rattle.bits.specs.SearchLaws.{every_at}
use Rattle.x86defs.specs.Functions.{cpuid_result}
use Rattle.pages.specs.Layout.{most_entries, word_at, registers_at, pages_in, count_of, counts_fit}

-- whether the count of page p is lawful
abbrev count_fits : List ℕ → ℕ → Bool
count_fits s p = leb (count_of s p) most_entries

-- whether those of the first n pages are
unfoldable pub counts_fit_to : List ℕ → ℕ → Bool
counts_fit_to s n = every (count_fits s) n

pub counts_fit_none : (s : List ℕ) → counts_fit_to s 0 ≡ true
unfolding counts_fit_to
counts_fit_none s = refl

pub counts_fit_more : (s : List ℕ) (n : ℕ) → counts_fit_to s n ≡ true → count_of s n ≤ most_entries → counts_fit_to s (n + 1) ≡ true
unfolding counts_fit_to
counts_fit_more s n e h = rw add-one (and_both (le-leb _ _ h) e)

pub counts_fit_all : (s : List ℕ) (n : ℕ) → counts_fit_to s n ≡ true → n ≡ pages_in s → counts_fit s ≡ true
unfolding counts_fit_to counts_fit
counts_fit_all s n e q = rw (← q) e

pub counts_fit_at : (s : List ℕ) → counts_fit s ≡ true → (p : ℕ) → p < pages_in s → count_of s p ≤ most_entries
unfolding counts_fit
counts_fit_at s e p l = leb-true _ _ (every_at (count_fits s) (pages_in s) e p l)

-- one page is enough to refuse
pub counts_fit_not : (s : List ℕ) (p : ℕ) → p < pages_in s → most_entries < count_of s p → counts_fit s ≡ false
unfolding counts_fit
counts_fit_not s p l h = go (every (count_fits s) (pages_in s)) refl
  where
    go : (b : Bool) → every (count_fits s) (pages_in s) ≡ b → b ≡ false
    go true e = absurd (never_both (every_at (count_fits s) (pages_in s) e p l) (lt-leb _ _ h))
    go false e = refl

-- the registers of an entry that begins at offset o
pub registers_of_entry : (s : List ℕ) (o : ℕ)
    → registers_at s (o + 24) ≡ cpuid_result (word_at s (o + 24)) (word_at s (o + 28)) (word_at s (o + 32)) (word_at s (o + 36))
unfolding registers_at
registers_of_entry s o =
    let ebx : o + 24 + 4 ≡ o + 28 = omega arith in
    let ecx : o + 24 + 8 ≡ o + 32 = omega arith in
    let edx : o + 24 + 12 ≡ o + 36 = omega arith in
    rw (ebx, ecx, edx)
