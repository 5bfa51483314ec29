-- What an accepted verdict says, check by check.
use Rattle.std.specs.Prelude.{◌≡◌, refl, Bool, true, false, ℕ, ◌≤◌, ◌<◌, Err, Ok}
use Rattle.std.proofs.Common.{ap, arith}
use Rattle.bits.specs.ChoiceLaws.{if_holds}
use Rattle.bits.specs.Search.{Failing}
use Rattle.bits.specs.Search.Failing.{at, none}
use Rattle.bits.specs.SearchLaws.{lowest_none, lowest_all}
use Rattle.bits.specs.Bits.{has}
use Rattle.masking.specs.Place
use Rattle.table.specs.declared.Refusal.{Refusal}
use Rattle.table.specs.Refusal.{and_then}
use Rattle.table.specs.Rows.{Rows}
use Rattle.checks.specs.Required.{required_count, place_required}
use Rattle.checks.specs.ExtendedState.{combined_mask, supplied}
use Rattle.checks.specs.Checks.{refuse_at, refuse_unless, missing_required, missing_component, required_verdict, invlpgb_verdict, components_of, components_verdict, area_verdict, topology_verdict, rows_verdict}
use Rattle.table.specs.Verdict.{Verdict}

pub then_left : (u v : Verdict) → and_then u v ≡ Ok tt → u ≡ Ok tt
then_left (Ok _) v e = refl
then_left (Err r) v e = e

pub then_right : (u v : Verdict) → and_then u v ≡ Ok tt → v ≡ Ok tt
then_right (Ok _) v e = e
then_right (Err r) v e = cc

pub then_accepted : (u : Verdict) → and_then u (Ok tt) ≡ u
then_accepted (Ok _) = refl
then_accepted (Err r) = refl

pub then_skips : {u v : Verdict} → u ≡ Ok tt → and_then u v ≡ v
then_skips e = rw e

pub found_none : (f : Failing) (r : ℕ → Refusal) → refuse_at f r ≡ Ok tt → f ≡ none
found_none (at j) r e = cc
found_none none r e = refl

pub demanded : (b : Bool) (r : Refusal) → refuse_unless b r ≡ Ok tt → b ≡ true
demanded true r e = refl
demanded false r e = cc

pub required_present : (m : Rows) → required_verdict m ≡ Ok tt → (j : ℕ) → j < required_count → (m (place_required j)).present ≡ true
unfolding required_verdict
required_present m e j l =
    lowest_none (λ j. (m (place_required j)).present) 0 required_count (found_none _ missing_required e) j (omega arith) (omega arith)

pub present_required : (m : Rows) → ((j : ℕ) → j < required_count → (m (place_required j)).present ≡ true) → required_verdict m ≡ Ok tt
unfolding required_verdict
present_required m f =
    ap (λ (x : Failing). refuse_at x missing_required) (lowest_all (λ j. (m (place_required j)).present) 0 required_count (λ j l h. f j (omega arith)))

pub component_present : (m : Rows) → components_verdict m ≡ Ok tt → (k : ℕ) → 2 ≤ k → k < 64 → has k (combined_mask m) ≡ true
    → (m (Place.extended_state k)).present ≡ true
unfolding components_verdict components_of
component_present m e k l u h =
    if_holds (has k (combined_mask m)) _ (lowest_none (supplied m (combined_mask m)) 2 62 (found_none _ missing_component e) k l (omega arith)) h

-- all five, of an accepted verdict
pub record AllPass (m : Rows) : Type 0 where
  pub required : required_verdict m ≡ Ok tt
  pub invlpgb : invlpgb_verdict m ≡ Ok tt
  pub components : components_verdict m ≡ Ok tt
  pub area : area_verdict m ≡ Ok tt
  pub topology : topology_verdict m ≡ Ok tt

pub all_pass : (m : Rows) → rows_verdict m ≡ Ok tt → AllPass m
unfolding rows_verdict
all_pass m e =
    let e₁ = then_right (required_verdict m) _ e in
    let e₂ = then_right (invlpgb_verdict m) _ e₁ in
    let e₃ = then_right (components_verdict m) _ e₂ in
    record {
      required = then_left _ _ e;
      invlpgb = then_left _ _ e₁;
      components = then_left _ _ e₂;
      area = then_left _ _ e₃;
      topology = then_right (area_verdict m) _ e₃;
    }
