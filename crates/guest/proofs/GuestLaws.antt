-- The guest's table as the code stores it.
use Rattle.std.specs.Prelude.{◌≡◌, refl, ℕ, length}
use Rattle.std.proofs.Common.{ap, ◌∙◌}
use Rattle.bits.specs.Lists.{tabulate}
use Rattle.bits.specs.ListsLaws.{tabulated}
use Rattle.x86defs.specs.declared.CpuidResult.{CpuidResult}
use Rattle.x86defs.specs.Functions.{cpuid_result}
use Rattle.masking.specs.Kept.{places}
use Rattle.table.specs.declared.CpuidResults.{CpuidResults}
use Rattle.table.specs.Table.{row_in, rows_of_table}
use Rattle.guest.specs.declared.Processor.{Processor}
use Rattle.guest.specs.Guest.{version_seen, level_seen, size_seen, seen_at}
use Rattle.guest.specs.GuestLaws.{if_there, stores, storing, storing_all}

pub given : (t : CpuidResults) (v : Processor) (a c : ℕ) {version threads cores state0 state1 : CpuidResult} → length t.results ≡ places
    → version ≡ if_there (row_in t 1) (version_seen v) → threads ≡ if_there (row_in t 4) (level_seen v) → cores ≡ if_there (row_in t 5) (level_seen v)
    → state0 ≡ if_there (row_in t 6) (size_seen a) → state1 ≡ if_there (row_in t 7) (size_seen c)
    → storing version threads cores state0 state1 t.results ≡ tabulate places (λ i. seen_at v a c i (row_in t i))
given t v a c {version} {threads} {cores} {state0} {state1} n e₁ e₄ e₅ e₆ e₇ =
    let whole : t.results ≡ tabulate places (λ i. (row_in t i).result) =
    tabulated places (λ i. (row_in t i).result) t.results (cpuid_result 0 0 0 0) n (λ i l. refl) in
    let p : storing version threads cores state0 state1 t.results ≡ storing_all (λ i. seen_at v a c i (row_in t i)) t.results =
    rw (e₁, e₄, e₅, e₆, e₇) in
    p ∙ ap (storing_all (λ i. seen_at v a c i (row_in t i))) whole ∙ stores (rows_of_table t) v a c
