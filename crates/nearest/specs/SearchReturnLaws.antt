-- `irrelevant`, one case for each return of the function.
use Rattle.std.specs.Prelude.{◌≡◌, Bool, not, ℕ, ◌-◌, ◌≤◌, ◌<◌, eqb, leb, is_err, Err, Ok}
use Rattle.std.proofs.Math.Path.{refl}
use Rattle.std.proofs.Math.Bool.{true, false}
use Rattle.std.proofs.Common.{ltb-true, leb-true}
use Rattle.bits.specs.Choice.{pick}
use Rattle.bits.specs.ChoiceLaws.{never_both, and_left, and_right}
use Rattle.bits.specs.Bits.{has}
use Rattle.masking.specs.Place
use Rattle.table.specs.declared.Refusal.{Refusal}
use Rattle.table.specs.Rows.{Rows}
use Rattle.checks.specs.ExtendedState.{combined_mask}
use Rattle.checks.specs.Checks.{required_verdict, invlpgb_verdict, rows_verdict}
use Rattle.rows.specs.Checked.{checked_rows}
use Rattle.rows.specs.CheckedLaws.{verdict_of_lem}
use Rattle.nearest.specs.Irrelevant.{refuses, is_component, is_level, is_read, irrelevant_at, irrelevant, unflipped_in, irrelevant_by}
use Rattle.table.specs.Verdict.{Verdict}

-- whether a verdict is a refusal, as the library says it
pub refusal_told : (v : Verdict) → is_err v ≡ refuses v
refusal_told (Ok _) = refl
refusal_told (Err r) = refl

module _ (m : Rows) (i : ℕ) where
  pub irrelevant_missing : {r : Refusal} → required_verdict m ≡ Err r → true ≡ irrelevant m i
  unfolding irrelevant
  irrelevant_missing e = rw e

  pub irrelevant_clear : {r : Refusal} → required_verdict m ≡ Ok tt → invlpgb_verdict m ≡ Err r
      → not (eqb i Place.extended_address_space_sizes) ≡ irrelevant m i
  unfolding irrelevant
  irrelevant_clear e f = rw (e, f)

  -- what the checks find tells it
  pub irrelevant_found : irrelevant_by (unflipped_in m) i ≡ irrelevant m i
  unfolding irrelevant irrelevant_by unflipped_in checked_rows
  irrelevant_found = rw (verdict_of_lem (rows_verdict m) m)

  -- where a place is relevant, the required leaves are there
  pub relevant_required : irrelevant m i ≡ false → required_verdict m ≡ Ok tt
  unfolding irrelevant
  relevant_required = go (required_verdict m)
    where
      go : (v : Verdict) → pick (refuses v) true
          (pick (refuses (invlpgb_verdict m)) (not (eqb i Place.extended_address_space_sizes))
          (irrelevant_at (refuses (rows_verdict m)) (combined_mask m) i))
          ≡ false
          → v ≡ Ok tt
      go (Ok _) e = refl
      go (Err r) e = absurd (never_both refl e)

module _ (i : ℕ) where
  -- the bounds of a component
  pub component_from : is_component i ≡ true → Place.extended_state 2 ≤ i
  component_from e = leb-true _ i (and_left _ _ e)

  pub component_below : is_component i ≡ true → i < Place.extended_state 64
  component_below e = ltb-true i _ (and_right (leb (Place.extended_state 2) i) _ e)

module _ (b : Bool) (x i : ℕ) where
  pub at_component : is_component i ≡ true → {h : Bool} → h ≡ has (i - Place.extended_state 0) x → not h ≡ irrelevant_at b x i
  unfolding irrelevant_at
  at_component e f = rw (e, f)

  pub at_level : is_component i ≡ false → is_level i ≡ true → true ≡ irrelevant_at b x i
  unfolding irrelevant_at
  at_level e f = rw (e, f)

  pub at_read : is_component i ≡ false → is_level i ≡ false → is_read i ≡ true → false ≡ irrelevant_at b x i
  unfolding irrelevant_at
  at_read e f g = rw (e, f, g)

  pub at_unread : is_component i ≡ false → is_level i ≡ false → is_read i ≡ false → b ≡ irrelevant_at b x i
  unfolding irrelevant_at
  at_unread e f g = rw (e, f, g)
