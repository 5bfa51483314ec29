-- Two servers that rise to each other have the same answer, except for origins (`SameFigures`, Same.antt), and each accepted one rises to itself.
use Rattle.std.specs.Prelude.{◌≡◌, refl, Bool, true, false, List, ℕ, ◌<◌}
use Rattle.std.proofs.Common.{sym, ap, ◌∙◌}
use Rattle.bits.specs.ChoiceLaws.{never_both}
use Rattle.bits.specs.BitsLaws.{within_antisym}
use Rattle.masking.specs.Kept.{places}
use Rattle.table.specs.declared.Choices.{Choices}
use Rattle.table.specs.Rows.{Row, Rows}
use Rattle.checks.specs.ExtendedState.{combined_mask}
use Rattle.finish.specs.Finish.{finished}
use Rattle.table.specs.Table.{row_in}
use Rattle.table.specs.TableLaws.{table_ext}
use Rattle.build.specs.Build.{rows_for, answer}
use Rattle.rise.specs.Rise.{RiseHypothesis, TableRises}
use Rattle.rise.specs.RiseProof.{answer_table, answer_row, answer_mask}
use Rattle.rise.proofs.RiseProof.{demand_3}
use Rattle.rise.specs.Same.{SameFigures}
use Rattle.rise.specs.SameProof.{finished_absent, registers_same}

module _ (chosen : Choices) (a b : List ℕ) (rises : RiseHypothesis chosen a b) (back : RiseHypothesis chosen b a) where
  abbrev A : Rows
  A = finished chosen.edition (rows_for chosen a)

  abbrev B : Rows
  B = finished chosen.edition (rows_for chosen b)

  at_a : (i : ℕ) → i < places → row_in (answer chosen a).table i ≡ A i
  at_a = answer_row chosen a rises.accepted

  at_b : (i : ℕ) → i < places → row_in (answer chosen b).table i ≡ B i
  at_b = answer_row chosen b back.accepted

  forth : TableRises (answer chosen a).table (answer chosen b).table
  forth = (demand_3 chosen a b rises).table back.accepted

  return : TableRises (answer chosen b).table (answer chosen a).table
  return = (demand_3 chosen b a back).table rises.accepted

  row_same : (i : ℕ) → i < places → A i ≡ B i
  row_same i l = go (row_in (answer chosen a).table i).present (row_in (answer chosen b).table i).present refl refl
    where
      go : (p q : Bool) → (row_in (answer chosen a).table i).present ≡ p → (row_in (answer chosen b).table i).present ≡ q → A i ≡ B i
      go true true e f =
          sym (at_a i l)
          ∙ (λ k. record {
            present = (e ∙ sym f) k;
            result = registers_same _ _ _ (forth.registers i l e) (return.registers i l f) k;
          })
          ∙ at_b i l
      go true false e f = absurd (never_both (forth.rows i l e) f)
      go false true e f = absurd (never_both (return.rows i l f) e)
      go false false e f =
          finished_absent chosen.edition (rows_for chosen a) i (sym (ap (λ (r : Row). r.present) (at_a i l)) ∙ e)
          ∙ sym (finished_absent chosen.edition (rows_for chosen b) i (sym (ap (λ (r : Row). r.present) (at_b i l)) ∙ f))

  mask_same : combined_mask (rows_for chosen a) ≡ combined_mask (rows_for chosen b)
  mask_same =
      sym (answer_mask chosen a rises.accepted) ∙ within_antisym forth.mask return.mask ∙ answer_mask chosen b back.accepted

  table_same : (answer chosen a).table ≡ (answer chosen b).table
  table_same = answer_table chosen a rises.accepted ∙ table_ext row_same mask_same ∙ sym (answer_table chosen b back.accepted)

pub same_figures : SameFigures
same_figures chosen a b rises back = λ k. record {
  verdict = (rises.accepted ∙ sym back.accepted) k;
  table = table_same chosen a b rises back k;
}
