-- Document 02, P12, by the letter: "a table whose feature bits and mask lie within every server's has none beyond the pool's". Document 01's feature
-- registers have "1.EDX but bit 28", so that bit is asked of no table here, and nothing is said of it: a table that has it beside servers that have
-- not is held to the pool all the same. (`Greatest`, PoolRight.antt, asks it of 1.EDX whole and says it of 1.EDX whole.) Of one server more likewise.
use Rattle.std.specs.Prelude.{◌≡◌, true, List, ◌≢◌, ℕ, ◌≤◌, ◌<◌, Ok}
use Rattle.bits.specs.Bits.{bit, Within}
use Rattle.masking.specs.Kept.{places}
use Rattle.table.specs.declared.Choices.{Choices}
use Rattle.table.specs.declared.CpuidResults.{CpuidResults}
use Rattle.table.specs.Table.{row_in}
use Rattle.finish.specs.Kinds.{Kind, Registers, kinds_at}
use Rattle.finish.specs.Kinds.Kind.{feature, feature_but28, area, freed, other}
use Rattle.pool.specs.Sets.{last_of}
use Rattle.pool.specs.Pool.{pooled}
use Rattle.pool_laws.specs.PoolRight.{server_table, pool_table, SetsAmong}

-- every bit but 28 that is set in a is set in b
pub record WithinBut28 (a b : ℕ) : Type 0 where
  pub at : (k : ℕ) → k ≢ 28 → bit k a ≤ bit k b

-- no feature bit beyond another's
abbrev pub FeatureBits : Kind → ℕ → ℕ → Type 0
FeatureBits feature a b = Within a b
FeatureBits feature_but28 a b = WithinBut28 a b
FeatureBits area a b = Unit {0}
FeatureBits freed a b = Unit {0}
FeatureBits other a b = Unit {0}

pub record NoFeatureBeyond (t u : CpuidResults) : Type 0 where
  pub features : (i : ℕ) → i < places → Registers FeatureBits (kinds_at i) (row_in t i).result (row_in u i).result
  pub mask : Within t.max_extended_state u.max_extended_state

abbrev pub GreatestByTheLetter : Choices → List ℕ → List ℕ → Type 0
GreatestByTheLetter c pages lengths =
    (t : CpuidResults) → ((k : ℕ) → k ≤ last_of lengths → NoFeatureBeyond t (server_table c pages lengths k))
    → NoFeatureBeyond t (pool_table c pages lengths)

abbrev pub OneMoreByTheLetter : Type 0
OneMoreByTheLetter = (c : Choices) (pages lengths more moreLengths : List ℕ) → SetsAmong pages lengths more moreLengths
    → (pooled c pages lengths).verdict ≡ Ok tt → (pooled c more moreLengths).verdict ≡ Ok tt
    → NoFeatureBeyond (pool_table c more moreLengths) (pool_table c pages lengths)
    × ((i : ℕ) → i < places → (row_in (pool_table c more moreLengths) i).present ≡ true → (row_in (pool_table c pages lengths) i).present ≡ true)
