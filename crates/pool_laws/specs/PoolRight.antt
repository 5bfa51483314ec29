-- Document 02, P12: "On feature registers and combined mask it equals the and of the servers' tables, its leaf Dh subleaves are those that all have,
-- and a table whose feature bits and mask lie within every server's has none beyond the pool's. Joining one server more, where that isn't refused,
-- never adds a feature bit or a row." Under any edition and secure-AVIC choice, the same for all servers.
use Rattle.std.specs.Prelude.{◌≡◌, true, false, List, ℕ, ◌≤◌, ◌<◌, length, get_or, Ok}
use Rattle.bits.specs.Bits.{Within}
use Rattle.masking.specs.Kept.{places}
use Rattle.table.specs.declared.Choices.{Choices}
use Rattle.table.specs.declared.CpuidResults.{CpuidResults}
use Rattle.table.specs.Table.{row_in}
use Rattle.finish.specs.Kinds.{Registers, kinds_at}
use Rattle.build.specs.Build.{answer}
use Rattle.rise.specs.Rise.{TableRises}
use Rattle.register_masks.specs.Join.{and_to, all_to}
use Rattle.register_masks.specs.Features.{FeaturesAre, FeatureWithin}
use Rattle.pool.specs.Sets.{set_at, last_of, lawful_sets}
use Rattle.pool.specs.Servers.{server_verdict}
use Rattle.pool.specs.Pool.{pooled}

-- the tables of server k and of the pool
abbrev pub server_table : Choices → List ℕ → List ℕ → ℕ → CpuidResults
server_table c pages lengths k = (answer c (set_at pages lengths k)).table

abbrev pub pool_table : Choices → List ℕ → List ℕ → CpuidResults
pool_table c pages lengths = (pooled c pages lengths).table

-- ---- what an accepted pool's table is

pub record PoolRight (c : Choices) (pages lengths : List ℕ) : Type 0 where
  -- each server is accepted by itself
  pub each : (k : ℕ) → k ≤ last_of lengths → server_verdict c pages lengths k ≡ Ok tt
  -- its rows, Dh subleaves among them, are those that all tables have
  pub rows : (i : ℕ) → i < places
      → (row_in (pool_table c pages lengths) i).present ≡ all_to (λ k. (row_in (server_table c pages lengths k) i).present) (last_of lengths)
  -- feature registers, 1.EDX whole, and the combined mask are the and of the servers'
  pub features : (i : ℕ) → i < places
      → FeaturesAre (kinds_at i) (row_in (pool_table c pages lengths) i).result (λ k. (row_in (server_table c pages lengths k) i).result) (last_of lengths)
  pub mask : (pool_table c pages lengths).max_extended_state ≡ and_to (λ k. (server_table c pages lengths k).max_extended_state) (last_of lengths)
  -- a guest of the pool's table may move to every server: demand 3's conclusion
  pub rises : (k : ℕ) → k ≤ last_of lengths → TableRises (pool_table c pages lengths) (server_table c pages lengths k)
  -- "keeps all else from the first, origins included": a row's origin is the first server's, and a row that is not there has none
  pub origins : (i : ℕ) → i < places → (row_in (pool_table c pages lengths) i).present ≡ true
      → get_or (pooled c pages lengths).origins i 0 ≡ get_or (answer c (set_at pages lengths 0)).origins i 0
  pub none : (i : ℕ) → i < places → (row_in (pool_table c pages lengths) i).present ≡ false → get_or (pooled c pages lengths).origins i 0 ≡ 0

-- ---- the greatest lower bound

-- t has no feature bit and no mask bit beyond u
pub record NoneBeyond (t u : CpuidResults) : Type 0 where
  pub features : (i : ℕ) → i < places → Registers FeatureWithin (kinds_at i) (row_in t i).result (row_in u i).result
  pub mask : Within t.max_extended_state u.max_extended_state

abbrev pub Greatest : Choices → List ℕ → List ℕ → Type 0
Greatest c pages lengths =
    (t : CpuidResults) → ((k : ℕ) → k ≤ last_of lengths → NoneBeyond t (server_table c pages lengths k)) → NoneBeyond t (pool_table c pages lengths)

-- ---- one server more

-- every set of the first pool is one of the second's, wherever it stands
pub record SetsAmong (pages lengths more moreLengths : List ℕ) : Type 0 where
  pub place : (k : ℕ) → k ≤ last_of lengths → ℕ
  pub below : (k : ℕ) (l : k ≤ last_of lengths) → place k l ≤ last_of moreLengths
  pub same : (k : ℕ) (l : k ≤ last_of lengths) → set_at more moreLengths (place k l) ≡ set_at pages lengths k

-- u has no feature bit, no mask bit and no row that t has not
pub record NothingMore (t u : CpuidResults) : Type 0 where
  pub beyond : NoneBeyond u t
  pub rows : (i : ℕ) → i < places → (row_in u i).present ≡ true → (row_in t i).present ≡ true

-- where both pools are accepted: 19 can be lifted by a further server, and a refused pool has no row at all
abbrev pub OneMore : Type 0
OneMore = (c : Choices) (pages lengths more moreLengths : List ℕ) → SetsAmong pages lengths more moreLengths
    → (pooled c pages lengths).verdict ≡ Ok tt → (pooled c more moreLengths).verdict ≡ Ok tt
    → NothingMore (pool_table c pages lengths) (pool_table c more moreLengths)

-- ---- the order of the servers beyond the first

-- the same first set, and each pool's sets among the other's; where no server is refused by itself, the whole answer is the same
abbrev pub OrderFree : Type 0
OrderFree = (c : Choices) (pages lengths again againLengths : List ℕ) → lawful_sets pages lengths ≡ true → lawful_sets again againLengths ≡ true
    → set_at pages lengths 0 ≡ set_at again againLengths 0 → SetsAmong pages lengths again againLengths → SetsAmong again againLengths pages lengths
    → ((k : ℕ) → k < length lengths → server_verdict c pages lengths k ≡ Ok tt) → pooled c pages lengths ≡ pooled c again againLengths
