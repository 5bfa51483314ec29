-- Document 02, P11, "Where a row came from": what an origin says of the pages, and which rows have which. The numbers that an answer holds are tied
-- to the bytes here: an origin is proved, not recorded.
use Rattle.std.specs.Prelude.{◌≡◌, true, false, List, [], ◌∷◌, ◌++◌, ◌↔◌, ℕ, ◌<◌, get_or, replicate, Err, Ok}
use Rattle.pages.specs.Layout.{Entry, entry_at, pages_in, count_of}
use Rattle.pages.specs.Entries.{counted}
use Rattle.masking.specs.Kept.{places}
use Rattle.table.specs.declared.Choices.{Choices}
use Rattle.table.specs.declared.Refusal.{Refusal}
use Rattle.table.specs.Rows.{row}
use Rattle.table.specs.Table.{row_in}
use Rattle.memory.specs.Origin.{is_made_here, origin_read, origin_told}
use Rattle.memory.specs.Origin.Origin.{neither, made_here, entry}
use Rattle.collect.specs.FirstEntries.{place_of_entry, masked_at}
use Rattle.finish.specs.Finish.{rule_at, settings, finish}
use Rattle.build.specs.Build.{rows_for, answer, origin_at}

-- none of the entries goes to place i
abbrev pub Elsewhere : ℕ → List Entry → Type 0
Elsewhere i [] = Unit
Elsewhere i (e ∷ es) = (place_of_entry e ≡ i → ⊥) × Elsewhere i es

-- the entry at position q of page p is the first of the counted ones that goes to place i, which is that of its leaf and subleaf
pub record FirstCounted (s : List ℕ) (i p q : ℕ) : Type 0 where
  pub page : p < pages_in s
  pub position : q < count_of s p
  pub place : place_of_entry (entry_at s p q) ≡ i
  pub before : List Entry
  pub after : List Entry
  pub among : counted s ≡ before ++ entry_at s p q ∷ after
  pub elsewhere : Elsewhere i before

-- a row with the origin page p, entry q: that entry is the first of its place, and masking and finishing it gives the row
pub record ComesFrom (chosen : Choices) (s : List ℕ) (i p q : ℕ) : Type 0 where
  pub first : FirstCounted s i p q
  pub made_of : row_in (answer chosen s).table i
      ≡ row (finish (settings chosen.edition (rows_for chosen s)) (rule_at i) (masked_at chosen.secure_avic i (entry_at s p q).registers))

abbrev pub RowsComeFrom : Type 0
RowsComeFrom = (chosen : Choices) (s : List ℕ) → (answer chosen s).verdict ≡ Ok tt → (i p q : ℕ) → i < places
    → origin_at chosen s i ≡ entry p q → ComesFrom chosen s i p q

-- of the rows of an accepted table: 0, 80000000h, B.0 and B.1 are made here, every other one comes from an entry, and a row that is not there from
-- neither
pub record Origins (chosen : Choices) (s : List ℕ) (i : ℕ) : Type 0 where
  pub made : (origin_at chosen s i ≡ made_here) ↔ (is_made_here i ≡ true)
  pub absent : (origin_at chosen s i ≡ neither) ↔ ((row_in (answer chosen s).table i).present ≡ false)
  pub from_entry_lem : (row_in (answer chosen s).table i).present ≡ true → is_made_here i ≡ false → (p : ℕ) × (q : ℕ) × (origin_at chosen s i ≡ entry p q)
  pub told : origin_read (get_or (answer chosen s).origins i 0) ≡ origin_told (origin_at chosen s i)

abbrev pub RowsHaveOrigins : Type 0
RowsHaveOrigins = (chosen : Choices) (s : List ℕ) → (answer chosen s).verdict ≡ Ok tt → (i : ℕ) → i < places → Origins chosen s i

-- "a refused table has none"
abbrev pub RefusedHasNone : Type 0
RefusedHasNone = (chosen : Choices) (s : List ℕ) (r : Refusal) → (answer chosen s).verdict ≡ Err r → (answer chosen s).origins ≡ replicate places 0
