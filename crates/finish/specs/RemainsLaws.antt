-- Which rows remain in a table, place by place, from which entries were there.
use Rattle.std.specs.Prelude.{◌≡◌, refl, Bool, true, false, ℕ}
use Rattle.bits.specs.Choice.{pick}
use Rattle.bits.specs.ChoiceLaws.{never_both}
use Rattle.bits.specs.Lists.{tabulate}
use Rattle.x86defs.specs.declared.CpuidResult.{CpuidResult}
use Rattle.masking.specs.Kept.{places}
use Rattle.table.specs.Rows.{Rows, row, vacant}
use Rattle.finish.specs.Finish.{Settings, rule_at, settings, remains, finished}
use Rattle.finish.specs.Kinds.{from_entry}
use Rattle.finish.specs.PlaceLaws.{always}

present_picked : (b : Bool) (r : CpuidResult) → (pick b (row r) vacant).present ≡ b
present_picked true r = refl
present_picked false r = refl

pub result_picked : (b : Bool) (r : CpuidResult) → b ≡ true → (pick b (row r) vacant).result ≡ r
result_picked true r e = refl
result_picked false r e = absurd (never_both e refl)

-- a finished row is there exactly where its rule lets it remain
pub finished_present : (n : ℕ) (m : Rows) (i : ℕ) → (finished n m i).present ≡ remains (settings n m) (rule_at i) (m i).present
unfolding finished
finished_present n m i = present_picked _ _

-- made here: always. One equation over all places, whatever the settings and the entries
pub all_made : (c : Settings) (p : ℕ → Bool)
    → tabulate places (λ i. pick (from_entry (rule_at i)) true (remains c (rule_at i) (p i))) ≡ tabulate places (λ i. true)
unfolding tabulate
all_made c p = refl

-- a required row: with its entry
pub all_always : (c : Settings) (p : ℕ → Bool) → tabulate places (λ i. pick (always (rule_at i)) (remains c (rule_at i) (p i)) (p i)) ≡ tabulate places p
unfolding tabulate
all_always c p = refl
