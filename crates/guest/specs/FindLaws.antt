-- A lookup in the guest's table is the asked row, changed by its rule; and what is found, by the state in use.
use Rattle.std.specs.Prelude.{◌≡◌, Bool, true, false, List, ℕ, ◌≤◌, ◌<◌, length, get_or, Err, None, Ok, Option, Result, Some}
use Rattle.std.proofs.Common.{sym, ap₂, ◌∙◌, le_of_eq, arith, ne_eqb}
use Rattle.std.proofs.Math.Path.{ap}
use Rattle.std.proofs.Math.ListN.{get_or-eq_default}
use Rattle.bits.specs.Choice.{pick}
use Rattle.bits.specs.ChoiceLaws.{pick_true, pick_false}
use Rattle.bits.specs.ListsLaws.{get_d_tabulate, length_tabulate}
use Rattle.x86defs.specs.declared.CpuidFunction.{CpuidFunction}
use Rattle.x86defs.specs.declared.CpuidResult.{CpuidResult}
use Rattle.x86defs.specs.Functions.{cpuid_result}
use Rattle.masking.specs.Kept.{places}
use Rattle.table.specs.declared.CpuidResults.{CpuidResults}
use Rattle.table.specs.declared.Refusal.{Refusal}
use Rattle.table.specs.Rows.{Row, row}
use Rattle.table.specs.Table as Tables
use Rattle.memory.specs.Memory.{is_there, row_of, rows_in}
use Rattle.memory.specs.Held.{held_in, whole_row_lem, flags}
use Rattle.lookup.specs.Lookup.{place_asked, row_result, lookup, with_origin, found}
use Rattle.lookup.proofs.LookupLaws.{lookup_at}
use Rattle.rows.specs.Checked.{registers_in}
use Rattle.guest_state.specs.State.{save_register, state_verdict}
use Rattle.guest_state.specs.InUse.{read_rows, in_use}
use Rattle.guest_state.specs.InUseLaws.{told_refused, told_given, told_size}
use Rattle.guest_state.proofs.InUseLaws.{held_verdict, held_compact, held_save}
use Rattle.guest.specs.declared.Processor.{Processor}
use Rattle.guest.specs.Guest.{version_seen, level_seen, size_seen, seen_at, guest_table, answer_for, guest_answer}
use Rattle.guest.specs.Seen.{seen_with, table_with, guest_found_in}
use Rattle.table.specs.Verdict.{Verdict}

module _ (w o : List ℕ) (v : Processor) where
  abbrev t : CpuidResults
  t = held_in w o

  abbrev area : ℕ
  area = save_register (registers_in w) v.xcr0

  -- ---- one row

  -- the rule over the memory's own row and size of the save area
  pub seen_held : (n i : ℕ) → i < places → seen_with t v n i ≡ seen_at v area n i (rows_in w o i)
  seen_held n i h = ap₂ (λ (a : ℕ) (r : Row). seen_at v a n i r) (held_save w o v.xcr0) (whole_row_lem (rows_in w o) i h)

  module _ (n : ℕ) (l : CpuidFunction) (sub : Option ℕ) (enforce : Bool) {i : ℕ} (e : i ≡ place_asked l sub enforce) where
    abbrev seen : CpuidResults
    seen = table_with t v n

    asked : row_result (Tables.row_in seen i) ≡ lookup seen l sub enforce
    asked = lookup_at seen (le_of_eq (length_tabulate places (λ j. is_there (get_or o j 0)))) l sub enforce i e

    located : {q : Option CpuidResult} → q ≡ lookup seen l sub enforce → with_origin q (get_or o i 0) ≡ found seen o l sub enforce
    located f = ap₂ with_origin f (ap (λ (j : ℕ). get_or o j 0) e)

    held : i < places → pick (is_there (get_or o i 0)) (Some (seen_at v area n i (rows_in w o i))) None ≡ lookup seen l sub enforce
    held h =
        ap₂ (λ (b : Bool) (r : CpuidResult). pick b (Some r) None) (sym (get_d_tabulate places (λ j. is_there (get_or o j 0)) i false h))
        (sym (get_d_tabulate places (seen_with t v n) i (cpuid_result 0 0 0 0) h ∙ seen_held n i h))
        ∙ asked

    module _ (h : i < places) {there : Bool} (f : there ≡ is_there (get_or o i 0)) where
      pub seen_there : {q : CpuidResult} → there ≡ true → q ≡ seen_at v area n i (row (row_of w i))
          → Some (record { row = q; origin = get_or o i 0 }) ≡ found seen o l sub enforce
      seen_there {q} g k =
          let b : is_there (get_or o i 0) ≡ true = sym f ∙ g in
          let p : Some q ≡ lookup seen l sub enforce =
          ap Some (k ∙ ap (λ (p : Bool). seen_at v area n i (record { present = p; result = row_of w i })) (sym b)) ∙ sym (pick_true _ _ b) ∙ held h in
          located p

      pub seen_absent : there ≡ false → None ≡ found seen o l sub enforce
      seen_absent g = located (sym (pick_false _ _ (sym f ∙ g)) ∙ held h)

    pub seen_past : places ≤ i → None ≡ found seen o l sub enforce
    seen_past h =
        let past : length (flags o) ≤ i = omega (arith, length_tabulate places (λ j. is_there (get_or o j 0))) in
        located (sym (pick_false _ _ (get_or-eq_default (flags o) false past)) ∙ asked)

  -- ---- by the state in use

  module _ {u : Result ℕ Refusal} (e : u ≡ in_use (read_rows false w o) v.xcr0 v.xss) where
    pub by_verdict : {d : Verdict} → state_verdict (read_rows false w o) v.xcr0 v.xss ≡ d → guest_answer t v ≡ answer_for d t v
    unfolding guest_answer
    by_verdict f = ap (λ (d : Verdict). answer_for d t v) (held_verdict w o v.xcr0 v.xss ∙ f)

    -- with the compacted size that was told, the table is the guest's
    pub table_kept : {n : ℕ} → u ≡ Ok n → table_with t v n ≡ guest_table t v
    table_kept f = ap (table_with t v) (told_size (read_rows false w o) v.xcr0 v.xss e f ∙ sym (held_compact w o v.xcr0 v.xss))

    module _ (l : CpuidFunction) (sub : Option ℕ) (enforce : Bool) where
      pub found_refused : {r : Refusal} → u ≡ Err r → Err r ≡ guest_found_in (guest_answer t v) o l sub enforce
      found_refused f = sym (rw (by_verdict (told_refused (read_rows false w o) v.xcr0 v.xss e f)))

      -- what is found with the size that `state_in_use` gave is what `guest_find` finds
      pub kept_found : {n : ℕ} → u ≡ Ok n → Ok (found (table_with t v n) o l sub enforce) ≡ guest_found_in (guest_answer t v) o l sub enforce
      kept_found f =
          ap (λ (g : CpuidResults). Ok (found g o l sub enforce)) (table_kept f)
          ∙ sym (rw (by_verdict (told_given (read_rows false w o) v.xcr0 v.xss e f)))

-- ---- the rule by the place

module _ (v : Processor) (a c i : ℕ) (r : CpuidResult) {q : CpuidResult} where
  pub rule_version : i ≡ 1 → q ≡ version_seen v r → q ≡ seen_at v a c i (row r)
  rule_version e f = f ∙ rw e

  pub rule_threads : i ≡ 4 → q ≡ level_seen v r → q ≡ seen_at v a c i (row r)
  rule_threads e f = f ∙ rw e

  pub rule_cores : i ≡ 5 → q ≡ level_seen v r → q ≡ seen_at v a c i (row r)
  rule_cores e f = f ∙ rw e

  pub rule_area : i ≡ 6 → {n : ℕ} → n ≡ a → q ≡ size_seen n r → q ≡ seen_at v a c i (row r)
  rule_area e g f = f ∙ rw (e, g)

  pub rule_compact : i ≡ 7 → q ≡ size_seen c r → q ≡ seen_at v a c i (row r)
  rule_compact e f = f ∙ rw e

pub rule_none : (v : Processor) (a c i : ℕ) (r : CpuidResult) → ¬ (i ≡ 1) → ¬ (i ≡ 4) → ¬ (i ≡ 5) → ¬ (i ≡ 6) → ¬ (i ≡ 7)
    → r ≡ seen_at v a c i (row r)
rule_none v a c i r k₁ k₄ k₅ k₆ k₇ = rw (ne_eqb i 1 k₁, ne_eqb i 4 k₄, ne_eqb i 5 k₅, ne_eqb i 6 k₆, ne_eqb i 7 k₇)
