-- The exported lookup in a pool's table tells the first server's origins, as PoolExported.antt says.
use Rattle.std.specs.Prelude.{◌≡◌, refl, true, false, List, ℕ, ◌≤◌, ◌<◌, length, Err, Ok}
use Rattle.std.proofs.Common.{ap, ◌∙◌, le_of_eq, arith}
use Rattle.std.proofs.lemmas.List.{length-replicate, get_or-replicate}
use Rattle.bits.specs.ChoiceLaws.{never_both}
use Rattle.bits.specs.ListsLaws.{length_tabulate}
use Rattle.masking.specs.Kept.{places}
use Rattle.table.specs.declared.Choices.{Choices}
use Rattle.table.specs.declared.CpuidResults.{CpuidResults}
use Rattle.table.specs.Table.{row_in}
use Rattle.finish.specs.RowsBuilt.{table_for}
use Rattle.lookup.specs.Lookup.{place_asked}
use Rattle.pool.specs.Sets.{set_at}
use Rattle.pool.specs.Servers.{pool_rows}
use Rattle.pool.specs.Pool.{pool_verdict, pooled}
use Rattle.pool_laws.specs.PoolRight.{pool_table, PoolRight}
use Rattle.pool_laws.specs.PoolProof.{pool_right}
use Rattle.memory.specs.Origin.{origin_read}
use Rattle.rise.proofs.LocatedProof.{rows_have_origins}
use Rattle.theorems.specs.Exported.{origin_found}
use Rattle.theorems.specs.Looked.{looked_present, looked_inside, looked_at}
use Rattle.theorems.specs.PoolExported.{PoolOrigins}
use Rattle.table.specs.Verdict.{Verdict}

pool_whole : (c : Choices) (pages lengths : List ℕ) → length (pool_table c pages lengths).present ≤ places
unfolding pooled
pool_whole c pages lengths = go (pool_verdict c pages lengths)
  where
    go : (v : Verdict) → length (table_for c.edition v (pool_rows c pages lengths)).present ≤ places
    go (Ok _) = le_of_eq (length_tabulate places _)
    go (Err r) = le_of_eq (length-replicate places false)

-- a pool that is refused has no row
there_accepted : (c : Choices) (pages lengths : List ℕ) (i : ℕ) → i < places → (row_in (pool_table c pages lengths) i).present ≡ true
    → (pooled c pages lengths).verdict ≡ Ok tt
unfolding pooled
there_accepted c pages lengths i l = go (pool_verdict c pages lengths)
  where
    go : (v : Verdict) → (row_in (table_for c.edition v (pool_rows c pages lengths)) i).present ≡ true → v ≡ Ok tt
    go (Ok _) p = refl
    go (Err r) p = absurd (never_both p (get_or-replicate places i false false l))

pub pool_origins : PoolOrigins
pool_origins c pages lengths leaf subleaf enforce e =
    let t : CpuidResults = pool_table c pages lengths in
    let o : List ℕ = (pooled c pages lengths).origins in
    let i : ℕ = place_asked leaf subleaf enforce in
    let w : length (pool_table c pages lengths).present ≤ places = pool_whole c pages lengths in
    let p : (row_in (pool_table c pages lengths) (place_asked leaf subleaf enforce)).present ≡ true = looked_present t w o leaf subleaf enforce e in
    let l : place_asked leaf subleaf enforce < places = looked_inside t w o leaf subleaf enforce p in
    let r : PoolRight c pages lengths = pool_right c pages lengths (there_accepted c pages lengths i l p) in
    ap origin_found (looked_at t w o leaf subleaf enforce p)
    ∙ ap origin_read (r.origins i l p)
    ∙ (rows_have_origins c (set_at pages lengths 0) (r.each 0 (omega arith)) i l).told
