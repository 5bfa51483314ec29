-- Within one edition the bits are kept; and the carried table by the two stores of the code.
use Rattle.std.specs.Prelude.{◌≡◌, refl, Bool, true, ◌||◌, List, ℕ, length, set}
use Rattle.std.proofs.Common.{ap, ◌∙◌, eq-eqb}
use Rattle.bits.specs.Choice.{pick}
use Rattle.bits.specs.Bits.{has}
use Rattle.bits.specs.Lists.{tabulate}
use Rattle.bits.specs.ListsLaws.{tabulated}
use Rattle.x86defs.specs.declared.CpuidResult.{CpuidResult}
use Rattle.x86defs.specs.Functions.{cpuid_result}
use Rattle.masking.specs.Kept.{places}
use Rattle.masking.specs.Place
use Rattle.table.specs.declared.CpuidResults.{CpuidResults}
use Rattle.table.specs.declared.edition.EditionBits.{EditionBits}
use Rattle.table.specs.Rows.{Row, Rows}
use Rattle.table.specs.Table.{row_in, rows_of_table}
use Rattle.checks.specs.ExtendedState.{xfem}
use Rattle.carry.specs.Carry.{own_rows, without_bits, carried_at, carried_table, keeps}

-- ---- within one edition

pub kept_within : (t : CpuidResults) (from to : ℕ) → from ≡ to → keeps t from to ≡ true
unfolding keeps
kept_within t from to e = ap (λ (b : Bool). b || has 2 (xfem (own_rows t))) (eq-eqb from to e)

-- ---- the two stores

-- the places of leaves 1 and 80000001h
abbrev pub at1 : ℕ
at1 = Place.version_and_features

abbrev pub at80000001 : ℕ
at80000001 = Place.extended_version_and_features

-- a row that is there without bits; else as it is
abbrev if_there : Bool → ℕ → Row → CpuidResult
if_there keep m r = pick r.present (without_bits keep m r.result) r.result

abbrev storing : EditionBits → Bool → Rows → List CpuidResult → List CpuidResult
storing b keep m l = set (set l at1 (if_there keep b.version_ecx (m at1))) at80000001 (if_there keep b.extended_version_ecx (m at80000001))

stores : (b : EditionBits) (keep : Bool) (m : Rows)
    → storing b keep m (tabulate places (λ i. (m i).result)) ≡ tabulate places (λ i. carried_at b keep i (m i))
unfolding tabulate
stores b keep m = refl

abbrev table_with : CpuidResults → List CpuidResult → CpuidResults
table_with t l = record { present = t.present; results = l; row_count = t.row_count; max_extended_state = t.max_extended_state }

pub cleared : (b : EditionBits) (t : CpuidResults) (keep : Bool) {version extended : CpuidResult} → length t.results ≡ places
    → version ≡ if_there keep b.version_ecx (row_in t at1) → extended ≡ if_there keep b.extended_version_ecx (row_in t at80000001)
    → table_with t (set (set t.results at1 version) at80000001 extended) ≡ carried_table b keep t
cleared b t keep {version} {extended} n e f =
    let whole : t.results ≡ tabulate places (λ i. (row_in t i).result) = tabulated places _ t.results (cpuid_result 0 0 0 0) n (λ i l. refl) in
    ap (λ (l : List CpuidResult). table_with t l)
    (rw (e, f) (ap (λ (l : List CpuidResult). storing b keep (rows_of_table t) l) whole ∙ stores b keep (rows_of_table t)))
