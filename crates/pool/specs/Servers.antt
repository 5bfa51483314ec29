-- Document 02, P12: "then any server's own refusal in server order". Each server by itself, all of them joined, and what the code's loop over them
-- gives.
use Rattle.std.specs.Prelude.{◌≡◌, Bool, true, false, List, ℕ, ◌-◌, length, Err, Ok}
use Rattle.bits.specs.Search.{Failing, lowest}
use Rattle.bits.specs.Search.Failing.{at, none}
use Rattle.table.specs.declared.Choices.{Choices}
use Rattle.table.specs.Rows.{Rows}
use Rattle.build.specs.Build.{rows_for, answer}
use Rattle.register_masks.specs.Join.{pool}
use Rattle.pool.specs.PoolJoinLaws.{registers_of, alike_flags}
use Rattle.pool.specs.declared.sets.Joined.{Joined}
use Rattle.pool.specs.Sets.{set_at, last_of}
use Rattle.table.specs.Verdict.{Verdict}

-- ---- each server by itself

abbrev pub server_verdict : Choices → List ℕ → List ℕ → ℕ → Verdict
server_verdict c pages lengths k = (answer c (set_at pages lengths k)).verdict

-- its masked first entries
abbrev pub server_rows : Choices → List ℕ → List ℕ → ℕ → Rows
server_rows c pages lengths k = rows_for c (set_at pages lengths k)

abbrev pub is_accepted : Verdict → Bool
is_accepted (Ok _) = true
is_accepted (Err r) = false

-- "any server's own refusal in server order": the first server that is refused; an edition other than 1 or 2 refuses the first of all
unfoldable pub first_refused : Choices → List ℕ → List ℕ → Failing
first_refused c pages lengths = lowest (λ k. is_accepted (server_verdict c pages lengths k)) 0 (length lengths)

abbrev pub refused_by : Failing → (ℕ → Verdict) → Verdict
refused_by (at k) v = v k
refused_by none v = Ok tt

unfoldable pub servers_verdict : Choices → List ℕ → List ℕ → Verdict
servers_verdict c pages lengths = refused_by (first_refused c pages lengths) (server_verdict c pages lengths)

-- its number; 0 where there is none
abbrev pub number_of : Failing → ℕ
number_of (at k) = k
number_of none = 0

-- the entries of all, joined
abbrev pub pool_rows : Choices → List ℕ → List ℕ → Rows
pool_rows c pages lengths = pool (server_rows c pages lengths) (last_of lengths)

-- ---- the loop over the servers

-- the last that is joined: the last of all, or the one before the first that is refused
abbrev pub joined_to : Failing → List ℕ → ℕ
joined_to (at k) lengths = k - 1
joined_to none lengths = last_of lengths

-- what the loop gives, and the registers that it leaves, a server refused or none
abbrev pub joined_of : Choices → List ℕ → List ℕ → Joined
joined_of c pages lengths = record {
  verdict = servers_verdict c pages lengths;
  server = number_of (first_refused c pages lengths);
  alike = alike_flags (server_rows c pages lengths) (joined_to (first_refused c pages lengths) lengths);
}

pub record JoinsRest (c : Choices) (pages lengths : List ℕ) (r : Joined) (w : List ℕ) : Type 0 where
  pub answer : r ≡ joined_of c pages lengths
  pub registers : w ≡ registers_of (pool (server_rows c pages lengths) (joined_to (first_refused c pages lengths) lengths))
