-- Document 02, P9: "Let a page set be accepted or refused by 4 to 8; add counted entries after its last one, or further pages at the end, with
-- lawful counts and without raising the count of any but the last page that had entries. The answer must be the same, rows, mask and details.
-- Neither 1, 2 nor 3 is covered, since a missing leaf may arrive."
use Rattle.std.specs.Prelude.{◌≡◌, List, ℕ, ◌≤◌, ◌<◌, Err, Ok}
use Rattle.pages.specs.Layout.{pages_in, count_of, entry_at}
use Rattle.table.specs.declared.Choices.{Choices}
use Rattle.table.specs.Refusal.{details}
use Rattle.collect.specs.Lawful.{lawful_verdict}
use Rattle.build.specs.Build.{answer}
use Rattle.rise.specs.Rise.{RiseHypothesis}
use Rattle.table.specs.Verdict.{Verdict}

-- "the last page that had entries" is page p: entries stand on it, and on none of the pages after it
pub record LastWithEntries (s : List ℕ) (p : ℕ) : Type 0 where
  pub some : 0 < count_of s p
  pub after : (q : ℕ) → p < q → q < pages_in s → count_of s q ≡ 0

-- what becomes of the count of page p of s: it is as it was, or it may rise, "without raising the count of any but the last page that had entries"
pub data CountAfter (s u : List ℕ) (p : ℕ) : Type 0 where
  same : count_of u p ≡ count_of s p → CountAfter s u p
  raised : LastWithEntries s p → count_of s p ≤ count_of u p → CountAfter s u p

-- u is s with entries added
pub record Added (s u : List ℕ) : Type 0 where
  -- "with lawful counts": neither 1 nor 2 applies to u; nor does 17, as "the pages of P9 .. must be clean" (P10)
  pub lawful : lawful_verdict u ≡ Ok tt
  -- the pages of s, "or further pages at the end"
  pub pages : pages_in s ≤ pages_in u
  pub counts : (p : ℕ) → p < pages_in s → CountAfter s u p
  -- "after its last one": every entry of s stands where it stood. Asked is what is read of it, and not its 48 bytes, since no more is compared
  pub entries : (p q : ℕ) → p < pages_in s → q < count_of s p → entry_at u p q ≡ entry_at s p q

-- "accepted or refused by 4 to 8"
abbrev pub Covered : Verdict → Type 0
Covered (Ok _) = Unit
Covered (Err r) = (4 ≤ (details r).number) × ((details r).number ≤ 8)

-- "The answer must be the same, rows, mask and details": the verdict with its details, and the whole table
abbrev pub AddedChangesNothing : Type 0
AddedChangesNothing = (chosen : Choices) (s u : List ℕ) → Added s u → Covered (answer chosen s).verdict → answer chosen u ≡ answer chosen s

-- so a guest may move from an accepted server to the same one with entries added, and back (demand 3's hypothesis)
abbrev pub AddedRisesBothWays : Type 0
AddedRisesBothWays =
    (chosen : Choices) (s u : List ℕ) → Added s u → (answer chosen s).verdict ≡ Ok tt → RiseHypothesis chosen s u × RiseHypothesis chosen u s
