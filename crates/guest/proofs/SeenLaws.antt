-- The guest's table, row by row: five rows differ where they are there, and no other.
use Rattle.std.specs.Prelude.{◌≡◌, refl, Bool, true, false, ◌&&◌, ℕ, ◌<◌, eqb}
use Rattle.std.proofs.Common.{ap, ◌∙◌, ne_eqb}
use Rattle.masking.specs.Kept.{places}
use Rattle.masking.specs.Place
use Rattle.table.specs.declared.CpuidResults.{CpuidResults}
use Rattle.table.specs.Rows.{row}
use Rattle.table.specs.Table.{row_in, rows_of_table}
use Rattle.guest_state.specs.State.{save_register, compact_register}
use Rattle.guest.specs.declared.Processor.{Processor}
use Rattle.guest.specs.Guest.{seen_at, guest_table}
use Rattle.guest.specs.SeenLaws.{seen_row}

-- of a row that is there
pub seen_there : (t : CpuidResults) (v : Processor) (i : ℕ) → i < places → (row_in t i).present ≡ true
    → (row_in (guest_table t v) i).result
    ≡ seen_at v (save_register (rows_of_table t) v.xcr0) (compact_register (rows_of_table t) v.xcr0 v.xss) i (row (row_in t i).result)
seen_there t v i l p =
    seen_row t v i l
    ∙ ap (λ (b : Bool). seen_at v (save_register (rows_of_table t) v.xcr0) (compact_register (rows_of_table t) v.xcr0 v.xss) i
    (record { present = b; result = (row_in t i).result })) p

-- "differs in these places": every other row is the table's
pub elsewhere : (t : CpuidResults) (v : Processor) (i : ℕ) → i < places
    → (i ≡ Place.version_and_features → ⊥) → (i ≡ Place.thread_level → ⊥) → (i ≡ Place.core_level → ⊥)
    → (i ≡ Place.extended_state 0 → ⊥) → (i ≡ Place.extended_state 1 → ⊥)
    → (row_in (guest_table t v) i).result ≡ (row_in t i).result
elsewhere t v i l a b c d e = seen_row t v i l ∙ rw (ne_eqb i 1 a, ne_eqb i 4 b, ne_eqb i 5 c, ne_eqb i 6 d, ne_eqb i 7 e)

-- a row that is not there stays as it is
pub absent_stays : (t : CpuidResults) (v : Processor) (i : ℕ) → i < places → (row_in t i).present ≡ false
    → (row_in (guest_table t v) i).result ≡ (row_in t i).result
absent_stays t v i l p =
    seen_row t v i l
    ∙ rw (p, none (eqb i 1), none (eqb i 4), none (eqb i 5), none (eqb i 6), none (eqb i 7))
  where
    none : (b : Bool) → (b && false) ≡ false
    none true = refl
    none false = refl
