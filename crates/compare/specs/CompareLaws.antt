-- The comparison of two servers, one case for each return of the function. The rows of A's table that are asked for are its origins without those of
-- the two rows that come from no entry.
use Rattle.std.specs.Prelude.{◌≡◌, refl, Bool, true, false, not, ◌&&◌, ◌||◌, List, [], ◌∷◌, ℕ, zero, suc, ◌<◌, eqb, get_or, set}
use Rattle.std.proofs.Math.Path.{sym, ap}
use Rattle.std.proofs.Common.{◌∙◌, get_or-set_other, eqb-true}
use Rattle.std.proofs.Math.Bool.{or-true}
use Rattle.std.proofs.lemmas.Bool.{eqb-false}
use Rattle.bits.specs.Choice.{pick}
use Rattle.bits.specs.Lists.{tabulate}
use Rattle.bits.specs.ListsLaws.{tabulate_at}
use Rattle.masking.specs.Kept.{places}
use Rattle.masking.specs.Place.{made_here}
use Rattle.masking.specs.Place
use Rattle.table.specs.declared.CpuidResults.{CpuidResults}
use Rattle.table.specs.Table.{row_in}
use Rattle.finish.specs.Finish.{rule_at}
use Rattle.finish.specs.Kinds.{from_entry}
use Rattle.memory.specs.Memory.{is_there, rows_in}
use Rattle.memory.specs.Held.{held_in, flags, flag_at}
use Rattle.compare.specs.Compare.{asked_rows}

-- whether a table has a row at a place
abbrev pub has_row : CpuidResults → ℕ → Bool
has_row t i = (row_in t i).present

-- the origins of a table's rows, without those of leaves 0 and 80000000h
abbrev pub asked : List ℕ → List ℕ
asked o = set (set o Place.vendor_and_max_function 0) Place.extended_max_function 0

cleared : (l : List ℕ) (i : ℕ) → get_or (set l i 0) i 0 ≡ 0
cleared [] i = refl
cleared (x ∷ xs) zero = refl
cleared (x ∷ xs) (suc i) = cleared xs i

set_zero : (l : List ℕ) (k i : ℕ) → get_or (set l k 0) i 0 ≡ pick (eqb i k) 0 (get_or l i 0)
set_zero l k i = go (eqb i k) refl
  where
    go : (b : Bool) → eqb i k ≡ b → get_or (set l k 0) i 0 ≡ pick b 0 (get_or l i 0)
    go true e = ap (λ (j : ℕ). get_or (set l j 0) i 0) (sym (eqb-true i k e)) ∙ cleared l i
    go false e = get_or-set_other l k i 0 0 (eqb-false i k e)

-- every other row comes from an entry
from_entries : (i : ℕ) → i < places → from_entry (rule_at i) ≡ not (made_here i)
unfolding tabulate
from_entries = tabulate_at places (λ i. from_entry (rule_at i)) (λ i. not (made_here i)) refl

module _ (o : List ℕ) (i : ℕ) (l : i < places) where
  asked_there : is_there (get_or (asked o) i 0) ≡ (from_entry (rule_at i) && get_or (flags o) i false)
  asked_there =
      let first = set o Place.vendor_and_max_function 0 in
      rw (set_zero first Place.extended_max_function i, set_zero o Place.vendor_and_max_function i, from_entries i l, flag_at o i l)
      (go (eqb i Place.vendor_and_max_function) (eqb i Place.extended_max_function))
    where
      go : (p q : Bool) → is_there (pick q 0 (pick p 0 (get_or o i 0))) ≡ (not (p || q) && is_there (get_or o i 0))
      go p true = sym (ap (λ (r : Bool). not r && is_there (get_or o i 0)) (or-true p))
      go true false = refl
      go false false = refl

-- of a table in memory w, o and entries in memory v, q
pub asked_rows_lem : (w o v q : List ℕ) (i : ℕ) → i < places → rows_in v (asked o) i ≡ asked_rows (has_row (held_in w o)) (rows_in v q) i
asked_rows_lem w o v q i l t = record { present = asked_there o i l t; result = (rows_in v q i).result }
