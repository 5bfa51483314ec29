-- The answer, by its verdict and by its parts.
use Rattle.std.specs.Prelude.{◌≡◌, Bool, false, List, ℕ, replicate}
use Rattle.std.proofs.Common.{sym, ◌∙◌}
use Rattle.std.proofs.Math.Path.{ap}
use Rattle.std.proofs.lemmas.List.{length-replicate, get_or-replicate}
use Rattle.bits.specs.Choice.{pick}
use Rattle.bits.specs.ListsLaws.{tabulated}
use Rattle.pages.specs.Entries.{counted}
use Rattle.masking.specs.Kept.{places}
use Rattle.memory.specs.Origin.{is_made_here, origin_of, origin_number, finished_origins}
use Rattle.memory.specs.Origin.Origin.{neither, made_here}
use Rattle.memory.specs.OriginLaws.{finished_origins_lem}
use Rattle.collect.specs.FirstEntryOrigin.{stands_at, found_origins}
use Rattle.table.specs.declared.CpuidResults.{CpuidResults}
use Rattle.table.specs.Table.{empty_table}
use Rattle.build.specs.Build.{origins_in}

-- a table without rows has no origins, whatever stands in the pages
pub no_origins_lem : (s : List ℕ) → replicate places 0 ≡ origins_in empty_table s
unfolding origins_in origin_of
no_origins_lem s =
    tabulated places _ (replicate places 0) 0 (length-replicate {A = ℕ} places 0) (λ i l.
    get_or-replicate places i 0 0 l
    ∙ sym (ap (λ (b : Bool). origin_number (pick b (pick (is_made_here i) made_here (stands_at i (counted s))) neither)) (get_or-replicate places i false false l)))

-- the origins of a table, from where the first entries stand
pub located_origins : (t : CpuidResults) (s : List ℕ) → finished_origins t.present (found_origins s) ≡ origins_in t s
unfolding origins_in found_origins
located_origins t s = finished_origins_lem t.present (λ i. stands_at i (counted s))
