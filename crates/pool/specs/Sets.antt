-- Document 02, P12: "takes the servers' page sets, end to end in one slice beside a list of their lengths"
use Rattle.std.specs.Prelude.{Bool, ◌&&◌, List, ℕ, ◌-◌, eqb, leb, length, get_or, take, drop}
use Rattle.bits.specs.Lists.{sum_to}
use Rattle.table.specs.declared.Refusal.TheVariants.{PoolSets}
use Rattle.checks.specs.Checks.{refuse_unless}
use Rattle.table.specs.Verdict.{Verdict}

-- where set k begins: the sum of the lengths before it, over unbounded numbers
unfoldable pub set_start : List ℕ → ℕ → ℕ
set_start lengths k = sum_to (λ j. get_or lengths j 0) k

-- the page set of server k
unfoldable pub set_at : List ℕ → List ℕ → ℕ → List ℕ
set_at pages lengths k = take (get_or lengths k 0) (drop (set_start lengths k) pages)

-- the last server, counted from 0
abbrev pub last_of : List ℕ → ℕ
last_of lengths = length lengths - 1

-- "18 fewer than 2 or more than 16 sets, or lengths that don't sum to the slice, first"
abbrev pub most_sets : ℕ
most_sets = 16

unfoldable pub lawful_sets : List ℕ → List ℕ → Bool
lawful_sets pages lengths = leb 2 (length lengths) && (leb (length lengths) most_sets && eqb (set_start lengths (length lengths)) (length pages))

unfoldable pub sets_verdict : List ℕ → List ℕ → Verdict
sets_verdict pages lengths = refuse_unless (lawful_sets pages lengths) PoolSets
