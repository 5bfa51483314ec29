-- The guest's whole table in memory: the five stores are those of the definition, and count and mask stay.
use Rattle.std.specs.Prelude.{◌≡◌, refl, Bool, false, List, ℕ, ◌<◌, get_or, set, replicate, Err, Ok, Result}
use Rattle.std.proofs.Common.{sym, ◌∙◌, subst, arith, lit<}
use Rattle.std.proofs.Math.Path.{ap, ap₂}
use Rattle.std.specs.Int.Bits.{bit_or}
use Rattle.bits.specs.Choice.{pick}
use Rattle.bits.specs.Lists.{tabulate}
use Rattle.bits.specs.ListsLaws.{length_tabulate, tabulate_at}
use Rattle.x86defs.specs.declared.CpuidResult.{CpuidResult}
use Rattle.masking.specs.Kept.{places}
use Rattle.masking.specs.Place
use Rattle.table.specs.declared.CpuidResults.{CpuidResults}
use Rattle.table.specs.declared.Refusal.{Refusal}
use Rattle.table.specs.Rows.{Row, Rows}
use Rattle.table.specs.Table.{count_rows, row_in}
use Rattle.memory.specs.Memory.{is_there, row_of, rows_in, row_list}
use Rattle.memory.specs.MemoryLaws.{Rowed}
use Rattle.memory.specs.Held.{held_in, whole_row_lem, whole_ext}
use Rattle.checks.specs.ExtendedState.{xss_of, xfem, xss, combined_mask}
use Rattle.rows.specs.Checked.{registers_in}
use Rattle.rows.specs.AnsweredLaws.{cleared_whole}
use Rattle.guest_state.specs.State.{save_register}
use Rattle.guest_state.specs.InUse.{read_rows, in_use}
use Rattle.guest_state.specs.InUseLaws.{told_refused, told_given}
use Rattle.guest_state.proofs.InUseLaws.{held_save}
use Rattle.guest.specs.declared.Processor.{Processor}
use Rattle.guest.specs.declared.GuestAnswer.{GuestAnswer}
use Rattle.guest.specs.Guest.{version_seen, level_seen, size_seen, guest_answer}
use Rattle.guest.specs.GuestLaws.{if_there}
use Rattle.guest.proofs.GuestLaws.{given}
use Rattle.guest.specs.Seen.{seen_with, table_with, SeenIn}
use Rattle.guest.specs.FindLaws.{by_verdict, table_kept}
use Rattle.guest.specs.GuestTableLaws.{keeps_eax, keeps_xss}

module _ (w o : List ℕ) (v : Processor) where
  abbrev t : CpuidResults
  t = held_in w o

  -- ---- the memory after the stores

  -- a row as the code works it out
  pub shown : (f : CpuidResult → CpuidResult) (i : ℕ) {b : Bool} {q r : CpuidResult} → i < places → b ≡ is_there (get_or o i 0) → r ≡ row_of w i
      → q ≡ pick b (f r) r → q ≡ if_there (row_in t i) f
  shown f i h e g k =
      k ∙ ap₂ (λ (c : Bool) (s : CpuidResult). pick c (f s) s) e g ∙ ap (λ (s : Row). if_there s f) (sym (whole_row_lem (rows_in w o) i h))

  -- the rows that are held then
  abbrev rows : ℕ → Rows
  rows n i = record { present = is_there (get_or o i 0); result = seen_with t v n i }

  mask_kept : (n : ℕ) → combined_mask (rows n) ≡ combined_mask (rows_in w o)
  unfolding combined_mask xfem xss
  mask_kept n =
      ap₂ bit_or (keeps_eax (row_in t (Place.extended_state 0)).present (save_register (row_in t) v.xcr0) (row_in t (Place.extended_state 0)).result
      ∙ ap (λ (r : Row). r.result.eax) (whole_row_lem (rows_in w o) (Place.extended_state 0) (lit< tt)))
      (keeps_xss (row_in t (Place.extended_state 1)).present n (row_in t (Place.extended_state 1)).result
      ∙ ap (λ (r : Row). xss_of r.result) (whole_row_lem (rows_in w o) (Place.extended_state 1) (lit< tt)))

  held_seen : (n : ℕ) (w₁ : List ℕ) → row_list w₁ ≡ tabulate places (seen_with t v n) → held_in w₁ o ≡ table_with t v n
  unfolding count_rows
  held_seen n w₁ e =
      whole_ext (λ i h k. record { present = is_there (get_or o i 0); result = tabulate_at places (row_of w₁) (seen_with t v n) e i h k })
      ∙ (λ k. record {
        present = t.present;
        results = tabulate places (seen_with t v n);
        row_count = t.row_count;
        max_extended_state = mask_kept n k;
      })

  pub seen_stored : {a : ℕ} (n : ℕ) {w₁ : List ℕ} {version threads cores state0 state1 : CpuidResult} → a ≡ save_register (registers_in w) v.xcr0
      → version ≡ if_there (row_in t 1) (version_seen v) → threads ≡ if_there (row_in t 4) (level_seen v) → cores ≡ if_there (row_in t 5) (level_seen v)
      → state0 ≡ if_there (row_in t 6) (size_seen a) → state1 ≡ if_there (row_in t 7) (size_seen n)
      → Rowed w₁ (set (set (set (set (set (row_list w) 1 version) 4 threads) 5 cores) 6 state0) 7 state1)
      → held_in w₁ o ≡ table_with t v n
  seen_stored {a} n {w₁} {version} {threads} {cores} {state0} {state1} ea e₁ e₄ e₅ e₆ e₇ d =
      let area : a ≡ save_register (λ i. row_in t i) v.xcr0 = ea ∙ sym (held_save w o v.xcr0) in
      held_seen n w₁ (d.rows ∙ given t v (save_register (λ i. row_in t i) v.xcr0) n (length_tabulate places (row_of w)) e₁ e₄ e₅ (rw area at e₆) e₇)

  -- ---- by the state in use

  module _ {u : Result ℕ Refusal} (e : u ≡ in_use (read_rows false w o) v.xcr0 v.xss) where
    pub into_refused : {r : Refusal} {w₁ o₁ : List ℕ} → u ≡ Err r → w₁ ≡ replicate 352 0 → o₁ ≡ replicate 88 0
        → SeenIn (guest_answer t v) o (Err r) w₁ o₁
    into_refused {r} {w₁} {o₁} f p q =
        subst (λ (g : GuestAnswer). SeenIn g o (Err r) w₁ o₁)
        (sym (by_verdict w o v e (told_refused (read_rows false w o) v.xcr0 v.xss e f)))
        (record { verdict = refl; table = cleared_whole p q; origins = λ a. let z : ◌≡◌ {A = ℕ} 0 1 = cc a in absurd (omega arith) })

    pub into_given : {n : ℕ} {w₁ : List ℕ} → u ≡ Ok n → held_in w₁ o ≡ table_with t v n → SeenIn (guest_answer t v) o (Ok tt) w₁ o
    into_given {n} {w₁} f q =
        subst (λ (g : GuestAnswer). SeenIn g o (Ok tt) w₁ o) (sym (by_verdict w o v e (told_given (read_rows false w o) v.xcr0 v.xss e f)))
        (record { verdict = refl; table = q ∙ table_kept w o v e f; origins = λ a. refl })
