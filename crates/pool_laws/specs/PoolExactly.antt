-- Document 02, P12: "Answers: 18 fewer than 2 or more than 16 sets, or lengths that don't sum to the slice, first; then any server's own refusal in
-- server order; then 19 where rows that all tables have, B.0 and B.1 apart, differ elsewhere than in feature registers or D.0.ECX, by masked entry."
-- Each is given if and only if its condition holds and no earlier one does. 15 is every server's own (P7: "before 1"), and so the first's.
use Rattle.std.specs.Prelude.{◌≡◌, true, List, ◌↔◌, ◌⊎◌, ◌≢◌, ℕ, ◌≤◌, ◌<◌, length, Err, Ok}
use Rattle.masking.specs.Kept.{places}
use Rattle.table.specs.declared.Choices.{Choices}
use Rattle.table.specs.declared.Refusal.{Refusal}
use Rattle.table.specs.declared.Refusal.TheVariants.{UnknownEdition, PoolSets, PoolDiffers}
use Rattle.table.specs.Table.{empty_table, row_in}
use Rattle.finish.specs.Kinds.{Registers, kinds_at}
use Rattle.build.specs.Build.{rows_for}
use Rattle.refusals.specs.Conditions.{EditionFault}
use Rattle.refusals.specs.Exactly.{FirstFault}
use Rattle.register_masks.specs.Alike.{Alike}
use Rattle.pool.specs.Sets.{set_start, set_at}
use Rattle.pool.specs.Servers.{server_verdict}
use Rattle.pool.specs.Pool.{pooled}
use Rattle.pool_laws.specs.PoolRight.{server_table, pool_table}

-- 18; `start_of lengths (length lengths)` is the sum of all lengths, over unbounded numbers
pub data SetsFault (pages lengths : List ℕ) : Type 0 where
  few : length lengths < 2 → SetsFault pages lengths
  many : 16 < length lengths → SetsFault pages lengths
  sum : set_start lengths (length lengths) ≢ length pages → SetsFault pages lengths

-- server k is refused by itself, with refusal r, and none before it is
pub record ServerFault (c : Choices) (pages lengths : List ℕ) (k : ℕ) (r : Refusal) : Type 0 where
  pub listed : k < length lengths
  pub fault : FirstFault c (set_at pages lengths k) r
  pub before : (j : ℕ) → j < k → server_verdict c pages lengths j ≡ Ok tt

-- 19: all tables have the row of a place, and a server's masked entry there differs from the first's elsewhere than in features or the save area
pub record DifferFault (c : Choices) (pages lengths : List ℕ) : Type 0 where
  pub place : ℕ
  pub inside : place < places
  pub in_all : (k : ℕ) → k < length lengths → (row_in (server_table c pages lengths k) place).present ≡ true
  pub server : ℕ
  pub listed : server < length lengths
  pub differs : Registers Alike (kinds_at place) (rows_for c (set_at pages lengths 0) place).result (rows_for c (set_at pages lengths server) place).result → ⊥

-- every server is accepted by itself
abbrev pub AllAccepted : Choices → List ℕ → List ℕ → Type 0
AllAccepted c pages lengths = (k : ℕ) → k < length lengths → server_verdict c pages lengths k ≡ Ok tt

pub record PoolExactly (c : Choices) (pages lengths : List ℕ) : Type 0 where
  pub sets : ((pooled c pages lengths).verdict ≡ Err PoolSets) ↔ SetsFault pages lengths
  pub unknown : ((pooled c pages lengths).verdict ≡ Err UnknownEdition) ↔ ((SetsFault pages lengths → ⊥) × EditionFault c.edition)
  -- a server's own refusal r, which names it: r is neither 18 nor 19, which building never gives
  pub server : (r : Refusal) → r ≢ PoolSets → r ≢ PoolDiffers → (k : ℕ)
      → (((pooled c pages lengths).verdict ≡ Err r) × ((pooled c pages lengths).server ≡ k))
      ↔ ((SetsFault pages lengths → ⊥) × ServerFault c pages lengths k r)
  pub differs : ((pooled c pages lengths).verdict ≡ Err PoolDiffers)
      ↔ ((SetsFault pages lengths → ⊥) × AllAccepted c pages lengths × DifferFault c pages lengths)
  pub accepted : ((pooled c pages lengths).verdict ≡ Ok tt)
      ↔ ((SetsFault pages lengths → ⊥) × AllAccepted c pages lengths × (DifferFault c pages lengths → ⊥))
  -- where it is no server's own, none is named; a refused pool has no row
  pub unnamed : ((pooled c pages lengths).verdict ≡ Err PoolSets) ⊎ (((pooled c pages lengths).verdict ≡ Err PoolDiffers)
      ⊎ ((pooled c pages lengths).verdict ≡ Ok tt)) → (pooled c pages lengths).server ≡ 0
  pub empty : (r : Refusal) → (pooled c pages lengths).verdict ≡ Err r → pool_table c pages lengths ≡ empty_table
