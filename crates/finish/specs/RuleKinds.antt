-- The kinds of registers by rule, as laws on rules use them: a register that its rule changes, or that another law reads, is of the kind that the
-- law needs; any other may hold features or not, as `register_kinds` says.
use Rattle.std.specs.Prelude.{◌≡◌, refl, ℕ, ◌≤◌, ◌<◌}
use Rattle.std.proofs.Common.{ap, ◌∙◌, arith}
use Rattle.bits.specs.Lists.{tabulate}
use Rattle.bits.specs.ListsLaws.{tabulate_at}
use Rattle.masking.specs.Kept.{places, kept_leaves, slot}
use Rattle.masking.specs.Place
use Rattle.finish.specs.Finish.{Needed, Rule, rule_at}
use Rattle.finish.specs.Finish.Needed.{version_and_features, extended_features, thread_level_row, core_level_row, extended_state0, extended_state1, extended_version_and_features, extended_address_space_sizes, untouched}
use Rattle.finish.specs.Finish.Rule.{made, needed, component}
use Rattle.finish.specs.PlaceLaws.{component_rule}
use Rattle.finish.specs.Kinds.{Kind, Kinds, kinds, register_kinds, kinds_at}
use Rattle.finish.specs.Kinds.Kind.{feature, feature_but28, area, freed, other}

-- a register that keeps its masked value: a feature register or any other
abbrev pub kept : Kind → Kind
kept feature = feature
kept feature_but28 = feature_but28
kept area = other
kept freed = other
kept other = other

-- k has the kinds of the place
abbrev needed_kinds : Kinds → Needed → Kinds
needed_kinds k version_and_features = kinds (kept k.eax) other feature feature_but28
needed_kinds k extended_features = kinds (kept k.eax) feature feature feature
needed_kinds k thread_level_row = kinds freed freed freed freed
needed_kinds k core_level_row = kinds freed freed freed freed
needed_kinds k extended_state0 = kinds feature other area (kept k.edx)
needed_kinds k extended_state1 = kinds feature other feature other
needed_kinds k extended_version_and_features = kinds (kept k.eax) (kept k.ebx) feature feature
needed_kinds k extended_address_space_sizes = kinds (kept k.eax) feature other (kept k.edx)
needed_kinds k untouched = kinds (kept k.eax) (kept k.ebx) (kept k.ecx) (kept k.edx)

abbrev pub kinds_of : Kinds → Rule → Kinds
kinds_of k (made t) = kinds freed freed freed freed
kinds_of k (needed t) = needed_kinds k t
kinds_of k (component j) = kinds other other other other

all_kinds : tabulate places kinds_at ≡ tabulate places (λ i. kinds_of (kinds_at i) (rule_at i))
unfolding tabulate kinds_at register_kinds slot kept_leaves
all_kinds = refl

pub kinds_at_lem : (i : ℕ) → i < places → kinds_at i ≡ kinds_of (kinds_at i) (rule_at i)
kinds_at_lem i l = tabulate_at places _ _ all_kinds i l

-- D.k, k from 2 up
pub component_kinds : (k : ℕ) → 2 ≤ k → k < 64 → kinds_at (Place.extended_state k) ≡ kinds other other other other
component_kinds k l u =
    kinds_at_lem (Place.extended_state k) (omega arith) ∙ ap (kinds_of (kinds_at (Place.extended_state k))) (component_rule k l u)
