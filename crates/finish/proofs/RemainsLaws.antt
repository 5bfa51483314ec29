-- Which rows remain in a table, place by place, from which entries were there.
use Rattle.std.specs.Prelude.{◌≡◌, Bool, true, false, ◌&&◌, ℕ, ◌≤◌, ◌<◌}
use Rattle.std.proofs.Common.{sym, ap, ◌∙◌, subst}
use Rattle.bits.specs.ChoiceLaws.{never_both, and_right, pick_true, pick_false}
use Rattle.bits.specs.ListsLaws.{tabulate_at}
use Rattle.bits.specs.Bits.{has}
use Rattle.masking.specs.Kept.{places}
use Rattle.masking.specs.Place
use Rattle.table.specs.Rows.{Rows}
use Rattle.checks.specs.ExtendedState.{combined_mask}
use Rattle.finish.specs.Finish.{Rule, Settings, rule_at, enabled_by, settings, finish, remains, finished}
use Rattle.finish.specs.Kinds.{from_entry}
use Rattle.finish.specs.PlaceLaws.{always, component_rule, Sort, sort}
use Rattle.finish.specs.PlaceLaws.Sort.{made, required, subleaf}
use Rattle.finish.specs.RemainsLaws.{all_always, all_made, finished_present, result_picked}

-- and then has its rule's registers
pub finished_result : (n : ℕ) (m : Rows) (i : ℕ) → (finished n m i).present ≡ true → (finished n m i).result ≡ finish (settings n m) (rule_at i) (m i).result
unfolding finished
finished_result n m i e = result_picked (remains (settings n m) (rule_at i) (m i).present) _ (sym (finished_present n m i) ∙ e)

pub made_remains : (c : Settings) (p : ℕ → Bool) (i : ℕ) → i < places → from_entry (rule_at i) ≡ false → remains c (rule_at i) (p i) ≡ true
made_remains c p i l e = sym (pick_false _ _ e) ∙ tabulate_at places _ _ (all_made c p) i l

pub always_remains : (c : Settings) (p : ℕ → Bool) (i : ℕ) → i < places → always (rule_at i) ≡ true → remains c (rule_at i) (p i) ≡ p i
always_remains c p i l e = sym (pick_true _ _ e) ∙ tabulate_at places _ _ (all_always c p) i l

-- a D subleaf from 2 up: with its bit and its entry
pub component_finished : (n : ℕ) (m : Rows) (k : ℕ) → 2 ≤ k → k < 64
    → (finished n m (Place.extended_state k)).present ≡ (has k (combined_mask m) && (m (Place.extended_state k)).present)
unfolding combined_mask settings enabled_by
component_finished n m k l u =
    finished_present n m (Place.extended_state k)
    ∙ ap (λ (t : Rule). remains (settings n m) t (m (Place.extended_state k)).present) (component_rule k l u)

-- a row of the table that comes from an entry had that entry
pub finished_entry : (n : ℕ) (m : Rows) (i : ℕ) → i < places → from_entry (rule_at i) ≡ true → (finished n m i).present ≡ true → (m i).present ≡ true
finished_entry n m i l f e = go (sort i l)
  where
    go : Sort i → (m i).present ≡ true
    go (made g) = absurd (never_both f g)
    go (required g) = sym (finished_present n m i ∙ always_remains (settings n m) (λ j. (m j).present) i l g) ∙ e
    go (subleaf k p q r) =
        subst (λ (j : ℕ). (m j).present ≡ true) (sym p)
        (and_right (has k (combined_mask m)) _ (sym (component_finished n m k q r) ∙ subst (λ (j : ℕ). (finished n m j).present ≡ true) p e))
