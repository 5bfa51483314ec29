-- Document 02, P11: "Each row shall hold its page and entry". Where the first entry of a place stands; document 01, "Corners of mod.rs", has which is
-- the first (crates/collect/specs/FirstEntries.antt, `first_at`).
use Rattle.std.specs.Prelude.{List, [], ◌∷◌, ℕ, eqb}
use Rattle.bits.specs.Choice.{pick}
use Rattle.bits.specs.Lists.{tabulate}
use Rattle.pages.specs.Layout.{Entry}
use Rattle.pages.specs.Entries.{counted}
use Rattle.masking.specs.Kept.{places}
use Rattle.memory.specs.Origin.{Origin, origin_number}
use Rattle.memory.specs.Origin.Origin.{neither, entry}
use Rattle.collect.specs.FirstEntries.{place_of_entry}

-- where the first of the entries that goes to place i stands; nowhere, where there is none
unfoldable pub stands_at : ℕ → List Entry → Origin
stands_at i [] = neither
stands_at i (e ∷ es) = pick (eqb (place_of_entry e) i) (entry e.page e.position) (stands_at i es)

-- the number of where the first entry of each place stands
unfoldable pub found_origins : List ℕ → List ℕ
found_origins s = tabulate places (λ i. origin_number (stands_at i (counted s)))
