-- Collecting entry by entry: the first at a place wins.
use Rattle.std.specs.Prelude.{◌≡◌, refl, Bool, true, false, List, [], ◌∷◌, ℕ, ◌<◌, eqb}
use Rattle.std.proofs.Common.{sym, ap₂, ◌∙◌}
use Rattle.bits.specs.Choice.{pick}
use Rattle.x86defs.specs.Functions.{cpuid_result}
use Rattle.pages.specs.Layout.{Entry}
use Rattle.pages.specs.Entries.{entries, counted}
use Rattle.masking.specs.Kept.{places}
use Rattle.memory.specs.Origin.{origin_number}
use Rattle.memory.specs.Origin.Origin.{entry}
use Rattle.table.specs.Rows.{Row, row}
use Rattle.collect.specs.FirstEntries.{words, word_row, firsts_of}
use Rattle.collect.specs.FirstEntriesLaws.{first_of_place}
use Rattle.collect.specs.Collect.{stored_at, first_among, stands_among, to_store}
use Rattle.collect.specs.CollectLaws.{first_cons, first_none, stands_cons, stands_none, stored}

pub store_none : (i : ℕ) → to_store i [] ≡ stored (cpuid_result 0 0 0 0) 0
store_none i = ap₂ (λ (x : Row) (n : ℕ). stored (word_row x).result n) (first_none i) (stands_none i)

pub store_cons : (i : ℕ) → i < places → (e : Entry) (es : List Entry)
    → to_store i (e ∷ es) ≡ pick (eqb (stored_at e) i) (stored (words e.registers) (origin_number (entry e.page e.position))) (to_store i es)
store_cons i l e es =
    ap₂ (λ (x : Row) (n : ℕ). stored (word_row x).result n) (first_cons i l e es) (stands_cons i l e es) ∙ go (eqb (stored_at e) i)
  where
    number : ℕ
    number = origin_number (entry e.page e.position)

    go : (b : Bool) → stored (word_row (pick b (row e.registers) (first_among i es))).result (pick b number (stands_among i es))
        ≡ pick b (stored (words e.registers) number) (to_store i es)
    go true = refl
    go false = refl

-- of all entries of a page set, its first entry
pub store_all : (s : List ℕ) (i : ℕ) → i < places → word_row (first_among i (entries s)) ≡ firsts_of s i
unfolding first_among counted
store_all s i l = sym (first_of_place s i l)
