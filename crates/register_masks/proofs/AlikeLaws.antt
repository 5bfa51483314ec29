-- The computed test of 19 says what its words say.
use Rattle.std.specs.Prelude.{◌≡◌, ℕ}
use Rattle.x86defs.specs.declared.CpuidResult.{CpuidResult}
use Rattle.table.specs.Rows.{Rows}
use Rattle.finish.specs.Kinds.{Kinds, Registers, kinds_at}
use Rattle.register_masks.specs.Join.{pool}
use Rattle.register_masks.specs.Alike.{Alike, registers_alike}
use Rattle.register_masks.specs.JoinedEntryLaws.{registers_refl, registers_both}
use Rattle.register_masks.proofs.PoolLaws.{like_first}
use Rattle.register_masks.specs.AlikeLaws.{registers_test, same_truth, test_registers}

-- the joined entries stand for the first's
pub alike_first : (f : ℕ → Rows) (n i : ℕ) (r : CpuidResult) → registers_alike (kinds_at i) (pool f n i).result r ≡ registers_alike (kinds_at i) (f 0 i).result r
alike_first f n i r =
    let k : Kinds = kinds_at i in
    let p : Registers Alike k (f 0 i).result (pool f n i).result = like_first f n i in
    same_truth _ _
    (λ e. registers_test k _ _ (registers_both k (registers_both k p (registers_refl k (f 0 i).result)) (test_registers k _ _ e)))
    (λ e. registers_test k _ _ (registers_both k p (test_registers k _ _ e)))
