-- What an accepted page set's table has of its own: its XFEM, XSS and combined mask are those of the entries that it was made of, and the
-- save area fits 32 bits.
use Rattle.std.specs.Prelude.{◌≡◌, true, ◌&&◌, List, ℕ, ◌^◌, ◌<◌, None, Ok, Option, Some}
use Rattle.std.proofs.Math.Path.{refl, ap, ap₂}
use Rattle.std.proofs.Common.{◌∙◌, subst, arith, lit<}
use Rattle.std.specs.Int.Bits.{bit_or}
use Rattle.bits.specs.ChoiceLaws.{pick_twice}
use Rattle.bits.specs.Choice.{pick}
use Rattle.bits.specs.Bits.{has}
use Rattle.x86defs.specs.declared.CpuidResult.{CpuidResult}
use Rattle.masking.specs.Kept.{places}
use Rattle.masking.specs.Place
use Rattle.table.specs.declared.Choices.{Choices}
use Rattle.table.specs.declared.CpuidResults.{CpuidResults}
use Rattle.table.specs.Rows.{Row, Rows}
use Rattle.table.specs.Table.{row_in, rows_of_table}
use Rattle.checks.specs.ExtendedState.{xfem, xss, combined_mask, save_area, size_of}
use Rattle.checks.specs.SaveAreaLaws.{size_bytes}
use Rattle.checks.specs.Checks.{size_verdict, area_verdict}
use Rattle.checks.specs.ExtendedStateLaws.{xsaves_ecx}
use Rattle.checks.specs.ChecksLaws.{AllPass, all_pass, required_present}
use Rattle.finish.specs.Finish.{rule_at, settings, enabled_by, finish, finished, unless_no_xss}
use Rattle.finish.specs.PlaceLaws.{always, position, always_required}
use Rattle.finish.specs.RemainsLaws.{finished_present}
use Rattle.finish.proofs.RemainsLaws.{finished_result, always_remains}
use Rattle.build.specs.Build.{rows_for, answer}
use Rattle.rise.specs.RiseProof.{answer_row, accepted_rows}

-- a size that passes the check fits 32 bits
size_fits : (n : ℕ) (z : Option ℕ) → z ≡ size_of n → size_verdict z ≡ Ok tt → n < 2 ^ 32
size_fits n (Some k) e f = let h = size_bytes n k e in omega (arith, h.0, h.1)
size_fits n None e f = absurd (let z : ◌≡◌ {A = ℕ} 0 1 = cc in omega arith)

module _ (chosen : Choices) (s : List ℕ) (e : (answer chosen s).verdict ≡ Ok tt) where
  abbrev m : Rows
  m = rows_for chosen s

  abbrev t : CpuidResults
  t = (answer chosen s).table

  pub accepted_passes : AllPass m
  accepted_passes = all_pass m (accepted_rows chosen s e)

  pub area_fits : save_area m (xfem m) < 2 ^ 32
  unfolding area_verdict
  area_fits = size_fits (save_area m (xfem m)) (size_of (save_area m (xfem m))) refl accepted_passes.area

  pub always_finished : (i : ℕ) → i < places → always (rule_at i) ≡ true → (finished chosen.edition m i).present ≡ true
  always_finished i l f =
      finished_present chosen.edition m i
      ∙ always_remains (settings chosen.edition m) (λ j. (m j).present) i l f
      ∙ subst (λ (n : ℕ). (m n).present ≡ true) (always_required i l f).1
      (required_present m accepted_passes.required (position i) (always_required i l f).0)

  pub result_at : (i : ℕ) → i < places → (finished chosen.edition m i).present ≡ true → (row_in t i).result ≡ finish (settings chosen.edition m) (rule_at i) (m i).result
  result_at i l f = ap (λ (r : Row). r.result) (answer_row chosen s e i l) ∙ finished_result chosen.edition m i f

  state0 : (row_in t (Place.extended_state 0)).result ≡ finish (settings chosen.edition m) (rule_at (Place.extended_state 0)) (m (Place.extended_state 0)).result
  state0 = result_at (Place.extended_state 0) (lit< tt) (always_finished (Place.extended_state 0) (lit< tt) refl)

  state1 : (row_in t (Place.extended_state 1)).result ≡ finish (settings chosen.edition m) (rule_at (Place.extended_state 1)) (m (Place.extended_state 1)).result
  state1 = result_at (Place.extended_state 1) (lit< tt) (always_finished (Place.extended_state 1) (lit< tt) refl)

  pub built_xfem : xfem (rows_of_table t) ≡ xfem m
  unfolding xfem
  built_xfem = ap (λ (r : CpuidResult). r.eax) state0

  built_eax : (row_in t (Place.extended_state 1)).result.eax ≡ (m (Place.extended_state 1)).result.eax
  built_eax = ap (λ (r : CpuidResult). r.eax) state1

  built_ecx : (row_in t (Place.extended_state 1)).result.ecx ≡ xss m
  unfolding settings enabled_by unless_no_xss
  built_ecx = ap (λ (r : CpuidResult). r.ecx) state1 ∙ xsaves_ecx m

  pub built_xss : xss (rows_of_table t) ≡ xss m
  unfolding xss
  built_xss =
      ap₂ (λ (a c : ℕ). pick (has 1 a && has 3 a) c 0) built_eax built_ecx
      ∙ pick_twice (has 1 (m (Place.extended_state 1)).result.eax && has 3 (m (Place.extended_state 1)).result.eax) (m (Place.extended_state 1)).result.ecx 0

  pub built_mask : combined_mask (rows_of_table t) ≡ combined_mask m
  unfolding combined_mask
  built_mask = ap₂ bit_or built_xfem built_xss
