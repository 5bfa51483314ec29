-- The pool over page bytes: what an accepted pool's table is beside its servers' tables, the greatest lower bound, and one server more.
use Rattle.std.specs.Prelude.{◌≡◌, refl, Bool, true, false, List, ◌⊎◌, ℕ, ◌-◌, ◌≤◌, ◌<◌, length, get_or}
use Rattle.std.proofs.Common.{sym, ◌∙◌, subst, subst₂, inl, inr, ⊎_elim, arith}
use Rattle.std.proofs.Math.Path.{ap}
use Rattle.bits.specs.ListsLaws.{get_d_tabulate}
use Rattle.bits.specs.Bits.{has, Within}
use Rattle.pages.specs.Entries.{counted}
use Rattle.masking.specs.Kept.{places}
use Rattle.table.specs.TableLaws.{table_row}
use Rattle.table.specs.declared.Choices.{Choices}
use Rattle.table.specs.declared.CpuidResults.{CpuidResults}
use Rattle.table.specs.Rows.{Row, Rows}
use Rattle.table.specs.Table.{table_of, row_in}
use Rattle.checks.specs.ExtendedState.{combined_mask}
use Rattle.finish.specs.Finish.{finished}
use Rattle.finish.specs.Kinds.{Registers, TableAtLeast, kinds_at}
use Rattle.finish.specs.XsavesLaws.{XsavesEdx}
use Rattle.finish.specs.RowsBuilt.{table_for}
use Rattle.memory.specs.Origin.{origin_of, origin_number}
use Rattle.collect.specs.FirstEntryOrigin.{stands_at}
use Rattle.build.specs.Build.{rows_for, origins_in, answer}
use Rattle.rise.specs.Rise.{Further, TableRises}
use Rattle.rise.specs.RiseProof.{answer_row, answer_mask, xsaves_edx}
use Rattle.register_masks.specs.Join.{pool, and_to, all_to}
use Rattle.register_masks.specs.Alike.{AllAlike, all_have}
use Rattle.register_masks.specs.Features.{FeaturesAre, FeatureWithin}
use Rattle.register_masks.specs.RegisterRunLaws.{and_to_ext, all_to_ext}
use Rattle.register_masks.specs.AlikeLaws.{alike_of_test}
use Rattle.register_masks.specs.PoolLaws.{Servers, features_ext, pool_mask, pool_mask_within, pool_mask_greatest}
use Rattle.register_masks.proofs.PoolLaws.{in_each, pool_rows_lem, pool_features, pool_greatest}
use Rattle.pool.specs.Sets.{set_at, last_of}
use Rattle.pool.proofs.SetsLaws.{at_least_two}
use Rattle.pool.specs.Servers.{server_verdict, server_rows}
use Rattle.pool.specs.Pool.{pool_verdict, pooled}
use Rattle.pool.proofs.PooledLaws.{servers_of, each_accepted, passes_sets, passes_servers, passes_alike}
use Rattle.pool_laws.specs.RowsPool.{pool_rises, pool_further, PoolAmong, no_row_more, no_mask_bit_more, no_feature_more}
use Rattle.pool_laws.specs.PoolRight.{server_table, pool_table, PoolRight, NoneBeyond, Greatest, SetsAmong, NothingMore, OneMore}
use Rattle.pool_laws.specs.PoolProof.{alike, edition, pool_max, pool_row, servers}
use Rattle.table.specs.Verdict.{Verdict}

pub one_more : OneMore
one_more c pages lengths more moreLengths m ok ok₂ =
    let a : ℕ → Rows = server_rows c pages lengths in
    let b : ℕ → Rows = server_rows c more moreLengths in
    let s = servers c pages lengths ok in
    let t = servers c more moreLengths ok₂ in
    let among : PoolAmong a (last_of lengths) b (last_of moreLengths) =
    record { place = m.place; below = m.below; same = λ k l. ap (rows_for c) (m.same k l) } in
    record {
      beyond = record {
        features = λ i l.
            subst₂ (λ (x y : Row). Registers FeatureWithin (kinds_at i) x.result y.result) (sym (pool_row c more moreLengths ok₂ i l))
            (sym (pool_row c pages lengths ok i l))
            (no_feature_more c.edition a (last_of lengths) s b (last_of moreLengths) t among (alike c pages lengths ok) (alike c more moreLengths ok₂) i l);
        mask =
            subst₂ Within (sym (pool_max c more moreLengths ok₂)) (sym (pool_max c pages lengths ok))
            (no_mask_bit_more c.edition a (last_of lengths) s b (last_of moreLengths) t among);
      };
      rows = λ i l p.
          ap (λ (r : Row). r.present) (pool_row c pages lengths ok i l)
          ∙ no_row_more c.edition a (last_of lengths) s b (last_of moreLengths) t among i l
          (sym (ap (λ (r : Row). r.present) (pool_row c more moreLengths ok₂ i l)) ∙ p);
    }
