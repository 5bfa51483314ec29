-- The ways through: building refuses, or the guest's answer is given on its table.
use Rattle.std.specs.Prelude.{◌≡◌, List, ℕ, Err, Ok}
use Rattle.std.proofs.Math.Path.{sym, ap}
use Rattle.std.proofs.Common.{◌∙◌}
use Rattle.table.specs.declared.Choices.{Choices}
use Rattle.table.specs.declared.CpuidResults.{CpuidResults}
use Rattle.table.specs.declared.Refusal.{Refusal}
use Rattle.table.specs.Table.{empty_table, rows_of_table}
use Rattle.memory.specs.Held.{held_in}
use Rattle.finish.specs.RowsBuilt.{table_for}
use Rattle.build.specs.Build.{rows_for, answer, InMemory}
use Rattle.guest_state.specs.State.{state_verdict}
use Rattle.guest.specs.declared.Processor.{Processor}
use Rattle.guest.specs.declared.GuestAnswer.{GuestAnswer}
use Rattle.guest.specs.Seen.{SeenIn}
use Rattle.guest.specs.Guest.{guest_table, table_given, answer_for, guest_answer, refused_answer}
use Rattle.guest.specs.GuestPages.{guest_pages}
use Rattle.guest.specs.GuestPagesLaws.{of_accepted, of_refused}
use Rattle.table.specs.Verdict.{Verdict}

-- "Building's refusals come first."
module _ (chosen : Choices) (s : List ℕ) (v : Processor) where
  pub building_first : (r : Refusal) → (answer chosen s).verdict ≡ Err r → guest_pages chosen s v ≡ refused_answer r
  unfolding guest_pages
  building_first r = of_refused (answer chosen s).table v

  pub accepted_guest : (answer chosen s).verdict ≡ Ok tt → guest_pages chosen s v ≡ guest_answer (answer chosen s).table v
  unfolding guest_pages
  accepted_guest = of_accepted (answer chosen s).table v

  -- a view of an accepted page set is that of its table
  pub guest_verdict : (answer chosen s).verdict ≡ Ok tt
      → (guest_pages chosen s v).verdict ≡ state_verdict (rows_of_table (answer chosen s).table) v.xcr0 v.xss
  unfolding guest_answer
  guest_verdict e = ap (λ (g : GuestAnswer). g.verdict) (accepted_guest e)

  pub given_guest : (answer chosen s).verdict ≡ Ok tt → (guest_pages chosen s v).verdict ≡ Ok tt
      → (guest_pages chosen s v).table ≡ guest_table (answer chosen s).table v
  unfolding guest_pages
  given_guest e f = ap (λ (w : Verdict). table_given w (answer chosen s).table v) f

  pub refused_guest : (r : Refusal) → (guest_pages chosen s v).verdict ≡ Err r → guest_pages chosen s v ≡ refused_answer r
  unfolding guest_pages
  refused_guest r f = ap (λ (w : Verdict). answer_for w (answer chosen s).table v) f

  -- ---- in lent memory

  module _ {d : Verdict} {w o : List ℕ} (built : InMemory (answer chosen s) d w o) where
    pub seen_refused : {r : Refusal} → d ≡ Err r → SeenIn (guest_pages chosen s v) (answer chosen s).origins (Err r) w o
    unfolding answer
    seen_refused {r} e =
        let f : (answer chosen s).verdict ≡ Err r = sym built.verdict ∙ e in
        let none : (answer chosen s).table ≡ empty_table = ap (λ (x : Verdict). table_for chosen.edition x (rows_for chosen s)) f in
        let g : guest_pages chosen s v ≡ refused_answer r = building_first r f in
        record {
          verdict = sym (ap (λ (x : GuestAnswer). x.verdict) g);
          table = built.table ∙ none ∙ sym (ap (λ (x : GuestAnswer). x.table) g);
          origins = λ a. built.origins;
        }

    pub seen_given : d ≡ Ok tt → {d₁ : Verdict} {w₁ o₁ : List ℕ} → SeenIn (guest_answer (held_in w o) v) o d₁ w₁ o₁
        → SeenIn (guest_pages chosen s v) (answer chosen s).origins d₁ w₁ o₁
    seen_given e {d₁} {w₁} {o₁} seen =
        let g : guest_answer (held_in w o) v ≡ guest_pages chosen s v =
        ap (λ (t : CpuidResults). guest_answer t v) built.table ∙ sym (accepted_guest (sym built.verdict ∙ e)) in
        record {
          verdict = seen.verdict ∙ ap (λ (x : GuestAnswer). x.verdict) g;
          table = seen.table ∙ ap (λ (x : GuestAnswer). x.table) g;
          origins = λ a. seen.origins a ∙ built.origins;
        }
