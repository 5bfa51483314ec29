-- What memory that holds a finished table tells: its rows are the finished ones, a row is there where its origin is not 0, and the combined mask is
-- that of its rows D.0 and D.1. So neither flags nor count nor mask need memory of their own.
use Rattle.std.specs.Prelude.{◌≡◌, refl, Bool, true, ◌&&◌, ℕ, ◌<◌, Ok}
use Rattle.std.proofs.Common.{sym, ◌∙◌, arith}
use Rattle.std.proofs.Math.Path.{ap, ap₂}
use Rattle.std.proofs.Math.Bool.{false}
use mathlib.Core.List.{List}
use Rattle.std.specs.Int.Bits.{bit_or}
use Rattle.std.proofs.Math.ListN.{get_or}
use Rattle.bits.specs.Choice.{pick}
use Rattle.bits.specs.ChoiceLaws.{never_both, pick_twice}
use Rattle.bits.specs.Bits.{has}
use Rattle.bits.specs.Search.{every}
use Rattle.bits.specs.SearchLaws.{every_at}
use Rattle.bits.specs.ListsLaws.{get_d_tabulate}
use Rattle.x86defs.specs.declared.CpuidResult.{CpuidResult}
use Rattle.x86defs.specs.Functions.{cpuid_result}
use Rattle.masking.specs.Kept.{places}
use Rattle.masking.specs.Place
use Rattle.table.specs.Rows.{Rows}
use Rattle.table.specs.Table.{table_of, row_in}
use Rattle.table.specs.TableLaws.{table_ext}
use Rattle.memory.specs.Origin.{is_made_here, finished_origins}
use Rattle.memory.specs.Memory.{row_of, is_there, rows_in}
use Rattle.memory.proofs.MemoryLaws.{layout_row}
use Rattle.memory.specs.Held.{held_in}
use Rattle.checks.specs.ExtendedState.{combined_mask, xfem, xss}
use Rattle.checks.specs.ExtendedStateLaws.{xsaves_ecx}
use Rattle.checks.specs.Checks.{required_verdict}
use Rattle.checks.specs.ChecksLaws.{required_present}
use Rattle.finish.specs.Finish.{rule_at, finish, settings, enabled_by, unless_no_xss, finished}
use Rattle.finish.specs.Kinds.{from_entry}
use Rattle.finish.specs.PlaceLaws.{always, position, always_required}
use Rattle.finish.specs.RemainsLaws.{finished_present}
use Rattle.finish.proofs.RemainsLaws.{finished_result, finished_entry, always_remains}
use Rattle.rows.specs.Finished.{Holds}

-- an origin is not 0 exactly where the row is there
origin_tells : (p made : Bool) (n : ℕ) → (p ≡ true → made ≡ false → is_there n ≡ true) → is_there (pick p (pick made 1 n) 0) ≡ p
origin_tells true true n f = refl
origin_tells true false n f = f refl refl
origin_tells false made n f = refl

abbrev made_test : ℕ → Bool
made_test i = pick (from_entry (rule_at i)) true (is_made_here i)

all_made : every made_test places ≡ true
unfolding is_made_here
all_made = refl

module _ (n : ℕ) (w o : List ℕ) {x : ℕ} {v q : List ℕ} (h : Holds (table_of (finished n (rows_in w o)) x) o v q) where
  abbrev m : Rows
  m = rows_in w o

  from_entry_lem : (i : ℕ) → i < places → (finished n m i).present ≡ true → is_made_here i ≡ false → is_there (get_or o i 0) ≡ true
  from_entry_lem i l e f = go (from_entry (rule_at i)) refl
    where
      go : (b : Bool) → from_entry (rule_at i) ≡ b → is_there (get_or o i 0) ≡ true
      go true g = finished_entry n m i l g e
      go false g =
          let t : made_test i ≡ true = every_at made_test places all_made i l in
          absurd (never_both (rw g at t) f)

  held_present : (i : ℕ) → i < places → is_there (get_or q i 0) ≡ (finished n m i).present
  unfolding finished_origins
  held_present i l =
      let t : get_or q i 0 ≡ pick (finished n m i).present (pick (is_made_here i) 1 (get_or o i 0)) 0 =
      ap (λ (k : List ℕ). get_or k i 0) h.origins
      ∙ get_d_tabulate places _ i 0 l
      ∙ ap (λ (p : Bool). pick p (pick (is_made_here i) 1 (get_or o i 0)) 0) (get_d_tabulate places (λ j. (finished n m j).present) i false l) in
      ap is_there t ∙ origin_tells (finished n m i).present (is_made_here i) (get_or o i 0) (from_entry_lem i l)

  held_result : (i : ℕ) → i < places → row_of v i ≡ (finished n m i).result
  held_result i l =
      ap (λ (k : List ℕ). row_of k i) h.registers
      ∙ layout_row (λ j. (row_in (table_of (finished n m) x) j).result) i l
      ∙ get_d_tabulate places (λ j. (finished n m j).result) i (cpuid_result 0 0 0 0) l

  pub held_row : (i : ℕ) → i < places → rows_in v q i ≡ finished n m i
  held_row i l = λ t. record { present = held_present i l t; result = held_result i l t }

  module _ (r : required_verdict m ≡ Ok tt) where
    -- a required row has its rule's registers
    needed_row : (i : ℕ) → i < places → always (rule_at i) ≡ true → row_of v i ≡ finish (settings n m) (rule_at i) (m i).result
    needed_row i l e =
        let k = always_required i l e in
        held_result i l
        ∙ finished_result n m i
        (finished_present n m i
        ∙ always_remains (settings n m) (λ j. (m j).present) i l e
        ∙ ap (λ (j : ℕ). (m j).present) (sym k.1)
        ∙ required_present m r (position i) k.0)

    abbrev state0 : ℕ
    state0 = Place.extended_state 0

    abbrev state1 : ℕ
    state1 = Place.extended_state 1

    held_xfem : xfem (rows_in v q) ≡ xfem m
    unfolding xfem
    held_xfem = ap (λ (s : CpuidResult). s.eax) (needed_row state0 (omega arith) refl)

    held_eax : (row_of v state1).eax ≡ (m state1).result.eax
    held_eax = ap (λ (s : CpuidResult). s.eax) (needed_row state1 (omega arith) refl)

    held_ecx : (row_of v state1).ecx ≡ xss m
    unfolding settings enabled_by unless_no_xss
    held_ecx = ap (λ (s : CpuidResult). s.ecx) (needed_row state1 (omega arith) refl) ∙ xsaves_ecx m

    held_xss : xss (rows_in v q) ≡ xss m
    unfolding xss
    held_xss =
        ap₂ (λ (a c : ℕ). pick (has 1 a && has 3 a) c 0) held_eax held_ecx
        ∙ pick_twice (has 1 (m state1).result.eax && has 3 (m state1).result.eax) (m state1).result.ecx 0

    held_mask : combined_mask (rows_in v q) ≡ combined_mask m
    unfolding combined_mask
    held_mask = ap₂ bit_or held_xfem held_xss

    -- the whole table, count and mask too, is what its memory says
    pub held_table : held_in v q ≡ table_of (finished n m) (combined_mask m)
    held_table = table_ext held_row held_mask
