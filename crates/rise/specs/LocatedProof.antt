-- The proofs of `RowsComeFrom`, `RowsHaveOrigins` and `RefusedHasNone`.
use Rattle.std.specs.Prelude.{◌≡◌, Bool, not, ◌||◌, ℕ, ◌<◌}
use Rattle.std.proofs.Math.Path.{refl}
use Rattle.std.proofs.Common.{sym, ap, ◌∙◌}
use Rattle.std.proofs.Math.Bool.{true, false}
use Rattle.bits.specs.Choice.{pick}
use Rattle.bits.specs.ChoiceLaws.{pick_false}
use Rattle.bits.specs.Lists.{tabulate}
use Rattle.bits.specs.ListsLaws.{tabulate_at}
use Rattle.masking.specs.Kept.{places}
use Rattle.memory.specs.Origin.{Origin, is_made_here}
use Rattle.memory.specs.Origin.Origin.{neither, made_here, not_known, entry}
use Rattle.finish.specs.Finish.{rule_at}
use Rattle.finish.specs.Kinds.{from_entry}
use Rattle.finish.specs.PlaceLaws.{always}
use Rattle.finish.specs.RowsBuilt.{table_for}
use Rattle.build.specs.Build.{rows_for, origins_in, answer}
use Rattle.build.specs.BuildLaws.{no_origins_lem}
use Rattle.rise.specs.Located.{RefusedHasNone}
use Rattle.table.specs.Verdict.{Verdict}

-- ---- places: each row that is not made here comes from an entry, and those made here are always there

all_from_entries : tabulate places (λ i. pick (is_made_here i) true (from_entry (rule_at i))) ≡ tabulate places (λ i. true)
unfolding tabulate is_made_here
all_from_entries = refl

pub from_entry_lem : (i : ℕ) → i < places → is_made_here i ≡ false → from_entry (rule_at i) ≡ true
from_entry_lem i l e = sym (pick_false _ _ e) ∙ tabulate_at places _ _ all_from_entries i l

pub all_made_here : tabulate places (λ i. pick (is_made_here i) (not (from_entry (rule_at i)) || always (rule_at i)) true) ≡ tabulate places (λ i. true)
unfolding tabulate is_made_here
all_made_here = refl

-- ---- an origin is one of three

abbrev pub is_entry : Origin → Bool
is_entry neither = false
is_entry made_here = false
is_entry not_known = false
is_entry (entry p q) = true

abbrev pub is_made : Origin → Bool
is_made neither = false
is_made made_here = true
is_made not_known = false
is_made (entry p q) = false

abbrev pub page_of : Origin → ℕ
page_of neither = 0
page_of made_here = 0
page_of not_known = 0
page_of (entry p q) = p

abbrev pub position_of : Origin → ℕ
position_of neither = 0
position_of made_here = 0
position_of not_known = 0
position_of (entry p q) = q

pub refused_has_none : RefusedHasNone
unfolding answer
refused_has_none chosen s r e = ap (λ (v : Verdict). origins_in (table_for chosen.edition v (rows_for chosen s)) s) e ∙ sym (no_origins_lem s)
