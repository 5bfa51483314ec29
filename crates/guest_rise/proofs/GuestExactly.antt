-- Refusals of what a guest sees, from pages: building's first, then 13 and 14, each if and only if its condition holds.
use Rattle.std.specs.Prelude.{◌≡◌, List, ◌↔◌, ℕ, ◌≤◌, ◌<◌, Err, Ok}
use Rattle.std.proofs.Math.Path.{refl}
use Rattle.std.proofs.Common.{sym, ap, ◌∙◌, subst}
use Rattle.bits.specs.ChoiceLaws.{impossible}
use Rattle.table.specs.declared.Choices.{Choices}
use Rattle.table.specs.declared.Refusal.{Refusal}
use Rattle.table.specs.declared.Refusal.TheVariants.{BufferTooShort, StateBeyondTable, CompactSizeTooLarge}
use Rattle.table.specs.Refusal.{details}
use Rattle.table.specs.Rows.{Rows}
use Rattle.table.specs.Table.{empty_table, rows_of_table}
use Rattle.build.specs.Build.{answer}
use Rattle.buffer.specs.WritesExactly.{FrontExactly}
use Rattle.buffer.specs.WritesExactlyProof.{front_exactly}
use Rattle.image.specs.Image.{image}
use Rattle.refusals.specs.Exactly.{FirstFault, BuildsExactly}
use Rattle.refusals.proofs.ExactlyProof.{not_built_lem}
use Rattle.guest.specs.declared.Processor.{Processor}
use Rattle.guest.specs.declared.GuestAnswer.{GuestAnswer}
use Rattle.guest.specs.Guest.{guest_table, refused_answer}
use Rattle.guest.specs.GuestPages.{guest_pages, write_guest}
use Rattle.guest.proofs.GuestPagesLaws.{building_first, guest_verdict, refused_guest, given_guest}
use Rattle.guest_rise.specs.StateExactly.{Allowed, SizeFault, StateAnswers}
use Rattle.guest_rise.proofs.StateExactlyProof.{state_answers}
use Rattle.guest_rise.specs.StateExactly.StateAnswers.{beyond, large, given}
use Rattle.guest_rise.specs.GuestExactly.{GuestExactly, table_rows}
use Rattle.table.specs.Verdict.{Verdict}

-- ---- the proof

module _ (chosen : Choices) (s : List ℕ) (v : Processor) where
  abbrev g : GuestAnswer
  g = guest_pages chosen s v

  unbuilt : (q : Refusal) → (answer chosen s).verdict ≡ Err q → GuestExactly chosen s v
  unbuilt q e =
      let o : g ≡ refused_answer q = building_first chosen s v q e in
      record {
        built = building_first chosen s v;
        beyond = (λ p. absurd (let same : q ≡ StateBeyondTable = cc in not_built_lem chosen s StateBeyondTable refl (e ∙ ap Err same)), λ p. impossible (cc));
        large = (λ p. absurd (let same : q ≡ CompactSizeTooLarge = cc in not_built_lem chosen s CompactSizeTooLarge refl (e ∙ ap Err same)), λ p. impossible (cc));
        given = (λ p. impossible (cc), λ p. impossible (cc));
        empty = λ r p. ap (λ (a : GuestAnswer). a.table) o;
        table = λ p. impossible (cc);
      }

  -- 13 and 14 are the table's
  answers : (answer chosen s).verdict ≡ Ok tt → StateAnswers (table_rows chosen s) v.xcr0 v.xss g.verdict
  answers e =
      subst (StateAnswers (table_rows chosen s) v.xcr0 v.xss) (sym (guest_verdict chosen s v e))
      (state_answers (table_rows chosen s) v.xcr0 v.xss)

  on_table : (answer chosen s).verdict ≡ Ok tt → StateAnswers (table_rows chosen s) v.xcr0 v.xss g.verdict → GuestExactly chosen s v
  on_table e (beyond f o) = record {
    built = building_first chosen s v;
    beyond = (λ p. (e, f), λ p. o);
    large = (λ p. impossible (cc), λ p. absurd (f p.1));
    given = (λ p. impossible (cc), λ p. absurd (f p.1));
    empty = λ r p. ap (λ (a : GuestAnswer). a.table) (refused_guest chosen s v StateBeyondTable o);
    table = λ p. impossible (cc);
  }
  on_table e (large h f o) = record {
    built = building_first chosen s v;
    beyond = (λ p. impossible (cc), λ p. absurd (p.1 h));
    large = (λ p. (e, h, f), λ p. o);
    given = (λ p. impossible (cc), λ p. absurd (p.2 f));
    empty = λ r p. ap (λ (a : GuestAnswer). a.table) (refused_guest chosen s v CompactSizeTooLarge o);
    table = λ p. impossible (cc);
  }
  on_table e (given h f o) = record {
    built = building_first chosen s v;
    beyond = (λ p. impossible (cc), λ p. absurd (p.1 h));
    large = (λ p. impossible (cc), λ p. absurd (f p.2));
    given = (λ p. (e, h, f), λ p. o);
    empty = λ r p. impossible (cc);
    table = λ p. given_guest chosen s v e o;
  }

  pub guest_exactly : GuestExactly chosen s v
  guest_exactly = go (answer chosen s).verdict refl
    where
      go : (w : Verdict) → (answer chosen s).verdict ≡ w → GuestExactly chosen s v
      go (Err q) e = unbuilt q e
      go (Ok _) e = on_table e (answers e)

  -- none of them is 9, which comes after all
  not_short : g.verdict ≡ Err BufferTooShort → ⊥
  not_short p = go (answer chosen s).verdict refl
    where
      go : (w : Verdict) → (answer chosen s).verdict ≡ w → ⊥
      go (Err q) e =
          let o : g ≡ refused_answer q = building_first chosen s v q e in
          let same : q ≡ BufferTooShort = cc in
          not_built_lem chosen s BufferTooShort refl (e ∙ ap Err same)
      go (Ok _) e = state (answers e)
        where
          state : StateAnswers (table_rows chosen s) v.xcr0 v.xss g.verdict → ⊥
          state (beyond f o) = impossible (cc)
          state (large h f o) = impossible (cc)
          state (given h f o) = impossible (cc)

  -- writing the guest's image: these refusals first, then 9 exactly where the buffer is shorter; every lent byte
  pub guest_writes_exactly : (buffer : List ℕ) → FrontExactly g.verdict (image g.table) buffer (write_guest chosen s v buffer)
  unfolding write_guest
  guest_writes_exactly buffer = front_exactly g.verdict (image g.table) buffer (write_guest chosen s v buffer) refl not_short
