-- The answer for any bytes: document 01's checks in order, then the table. c is what the caller chooses, s the list of the page bytes.
use Rattle.std.specs.Prelude.{◌≡◌, false, List, ℕ, Err, Ok}
use Rattle.bits.specs.Lists.{tabulate}
use Rattle.pages.specs.Entries.{counted}
use Rattle.table.specs.declared.Refusal.TheVariants.{UnknownEdition}
use Rattle.table.specs.declared.Choices.{Choices}
use Rattle.table.specs.declared.Refusal.{Refusal}
use Rattle.table.specs.Refusal.{and_then}
use Rattle.table.specs.Edition.{known_edition}
use Rattle.table.specs.Rows.{Rows}
use Rattle.table.specs.declared.CpuidResults.{CpuidResults}
use Rattle.table.specs.Table.{row_in}
use Rattle.masking.specs.Kept.{places}
use Rattle.memory.specs.Origin.{Origin, origin_of, origin_number}
use Rattle.memory.specs.Memory.{layout, Cleared}
use Rattle.memory.specs.Held.{held_in}
use Rattle.checks.specs.Checks.{refuse_unless, rows_verdict}
use Rattle.collect.specs.Lawful.{lawful_verdict}
use Rattle.finish.specs.RowsBuilt.{table_for}
use Rattle.build.specs.declared.Built.{Built}
use Rattle.collect.specs.FirstEntries.{rows_of}
use Rattle.collect.specs.FirstEntryOrigin.{stands_at, found_origins}
use Rattle.table.specs.Verdict.{Verdict}

-- document 02, P7: "15 an edition other than 1 or 2, before 1"
unfoldable pub edition_verdict : ℕ → Verdict
edition_verdict n = refuse_unless (known_edition n) UnknownEdition

-- 15, then 1, 2 and 17: the refusals that come before the rows are looked at
abbrev pub front_verdict : Choices → List ℕ → Verdict
front_verdict c s = and_then (edition_verdict c.edition) (lawful_verdict s)

-- what document 01 has: secure AVIC off, here under edition n
abbrev pub under_edition : ℕ → Choices
under_edition n = record { secure_avic = false; edition = n }

-- the masked first entries: of what is chosen, they depend on secure AVIC alone
abbrev pub rows_for : Choices → List ℕ → Rows
rows_for c s = rows_of c.secure_avic s

unfoldable pub verdict_of : Choices → List ℕ → Verdict
verdict_of c s = and_then (edition_verdict c.edition) (and_then (lawful_verdict s) (rows_verdict (rows_for c s)))

-- Document 02, P11: where the rows of a table came from, as numbers, from whether each is there and where the first entry of its place stands; a
-- refused table has no rows, and so no origins
unfoldable pub origins_in : CpuidResults → List ℕ → List ℕ
origins_in t s = tabulate places (λ i. origin_number (origin_of (row_in t i).present i (stands_at i (counted s))))

abbrev pub table_of_pages : Choices → List ℕ → CpuidResults
table_of_pages c s = table_for c.edition (verdict_of c s) (rows_for c s)

unfoldable pub answer : Choices → List ℕ → Built
answer c s = record { verdict = verdict_of c s; table = table_of_pages c s; origins = origins_in (table_of_pages c s) s }

-- the origin of the row at place i of the table that an answer holds
abbrev pub origin_at : Choices → List ℕ → ℕ → Origin
origin_at c s i = origin_of (row_in (answer c s).table i).present i (stands_at i (counted s))

-- ---- in memory that a caller lends

-- the verdict v is u; where it accepts, the memory w, o holds the masked first entries and where each stands, else no rows
pub record EntriesIn (u : Verdict) (c : Choices) (s : List ℕ) (v : Verdict) (w o : List ℕ) : Type 0 where
  pub verdict : v ≡ u
  pub registers : v ≡ Ok tt → w ≡ layout (λ i. (rows_for c s i).result)
  pub stands : v ≡ Ok tt → o ≡ found_origins s
  pub refused : (r : Refusal) → v ≡ Err r → Cleared w o

-- what pages give before their rows are looked at
abbrev pub FrontIn : Choices → List ℕ → Verdict → List ℕ → List ℕ → Type 0
FrontIn c s = EntriesIn (front_verdict c s) c s

-- the memory w, o and the verdict v are the answer b: every word, and count and mask, which follow from the words
pub record InMemory (b : Built) (v : Verdict) (w o : List ℕ) : Type 0 where
  pub verdict : v ≡ b.verdict
  pub registers : w ≡ layout (λ i. (row_in b.table i).result)
  pub origins : o ≡ b.origins
  pub table : held_in w o ≡ b.table

-- the memory w, o holds the table of the answer b, and where its rows came from
abbrev pub TableIn : Built → List ℕ → List ℕ → Type 0
TableIn b w o = InMemory b b.verdict w o
