-- What an accepted page set's table has for a guest: the subleaves of its masks are there, and no sum over XCR0 passes 32 bits.
use Rattle.std.specs.Prelude.{◌≡◌, true, List, ℕ, ◌+◌, ◌-◌, ◌^◌, ◌≤◌, ◌<◌, Ok}
use Rattle.std.proofs.Common.{sym, ap, ◌∙◌, arith}
use Rattle.bits.specs.ChoiceLaws.{and_both}
use Rattle.bits.specs.Bits.{has, Within}
use Rattle.bits.specs.BitsLaws.{within_eq, within_trans}
use Rattle.bits.proofs.BitsLaws.{has_mono}
use Rattle.x86defs.specs.declared.CpuidResult.{CpuidResult}
use Rattle.masking.specs.Kept.{places}
use Rattle.masking.specs.Place
use Rattle.table.specs.declared.Choices.{Choices}
use Rattle.table.specs.Rows.{Row, Rows}
use Rattle.checks.specs.ExtendedState.{xfem, combined_mask, save_area}
use Rattle.checks.specs.ExtendedStateLaws.{area_mono, in_combined}
use Rattle.checks.specs.ChecksLaws.{component_present}
use Rattle.table.specs.declared.CpuidResults.{CpuidResults}
use Rattle.finish.specs.Finish.{Rule, rule_at, settings, finish, finished}
use Rattle.finish.specs.PlaceLaws.{always, component_rule}
use Rattle.finish.proofs.RemainsLaws.{component_finished}
use Rattle.table.specs.Table.{row_in, rows_of_table}
use Rattle.build.specs.Build.{rows_for, answer}
use Rattle.rise.specs.RiseProof.{answer_row}
use Rattle.rise.specs.BuiltLaws.{accepted_passes, area_fits, always_finished, result_at, built_xfem, built_mask}

-- the rows that a guest's sizes read are there
pub record Supplied (t : CpuidResults) : Type 0 where
  pub required : (i : ℕ) → i < places → always (rule_at i) ≡ true → (row_in t i).present ≡ true
  pub components : (k : ℕ) → 2 ≤ k → k < 64 → has k (combined_mask (rows_of_table t)) ≡ true → (row_in t (Place.extended_state k)).present ≡ true

module _ (chosen : Choices) (s : List ℕ) (e : (answer chosen s).verdict ≡ Ok tt) where
  abbrev m : Rows
  m = rows_for chosen s

  abbrev t : CpuidResults
  t = (answer chosen s).table

  component_in : (k : ℕ) → 2 ≤ k → k < 64 → has k (combined_mask m) ≡ true → (finished chosen.edition m (Place.extended_state k)).present ≡ true
  component_in k l u h = component_finished chosen.edition m k l u ∙ and_both h (component_present m (accepted_passes chosen s e).components k l u h)

  pub built_supplied : Supplied t
  built_supplied = record {
    required = λ i l f. ap (λ (r : Row). r.present) (answer_row chosen s e i l) ∙ always_finished chosen s e i l f;
    components = λ k l u h.
        ap (λ (r : Row). r.present) (answer_row chosen s e (Place.extended_state k) (omega arith)) ∙ component_in k l u (ap (has k) (sym (built_mask chosen s e)) ∙ h);
  }

  -- D.k of the table is the entry's
  component_kept : (k : ℕ) → 2 ≤ k → k < 64 → has k (combined_mask m) ≡ true
      → (row_in t (Place.extended_state k)).result ≡ (m (Place.extended_state k)).result
  component_kept k l u h =
      result_at chosen s e (Place.extended_state k) (omega arith) (component_in k l u h)
      ∙ ap (λ (q : Rule). finish (settings chosen.edition m) q (m (Place.extended_state k)).result) (component_rule k l u)

  -- "D.0.EBX never overflows": over any mask within XFEM the size fits 32 bits
  pub built_fits : (x : ℕ) → Within x (xfem (rows_of_table t)) → save_area (rows_of_table t) x < 2 ^ 32
  built_fits x h =
      let w : Within x (xfem m) = within_trans h (within_eq (built_xfem chosen s e)) in
      let up : save_area (rows_of_table t) x ≤ save_area m (xfem m) =
      area_mono (rows_of_table t) m 64 w (λ k l u f. ap (λ (r : CpuidResult). r.eax + r.ebx) (component_kept k l u (in_combined m k (has_mono k w f)))) in
      omega (arith, up, area_fits chosen s e)
