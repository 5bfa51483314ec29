-- The pool over page bytes: what an accepted pool's table is beside its servers' tables, the greatest lower bound, and one server more.
use Rattle.std.specs.Prelude.{◌≡◌, refl, Bool, true, false, List, ◌⊎◌, ℕ, ◌-◌, ◌≤◌, ◌<◌, length, get_or, Ok}
use Rattle.std.proofs.Common.{sym, ◌∙◌, subst, subst₂, inl, inr, ⊎_elim, arith}
use Rattle.std.proofs.Math.Path.{ap}
use Rattle.bits.specs.ListsLaws.{get_d_tabulate}
use Rattle.bits.specs.Bits.{has, Within}
use Rattle.pages.specs.Entries.{counted}
use Rattle.masking.specs.Kept.{places}
use Rattle.table.specs.TableLaws.{table_row}
use Rattle.table.specs.declared.Choices.{Choices}
use Rattle.table.specs.declared.CpuidResults.{CpuidResults}
use Rattle.table.specs.Rows.{Row, Rows}
use Rattle.table.specs.Table.{table_of, row_in}
use Rattle.checks.specs.ExtendedState.{combined_mask}
use Rattle.finish.specs.Finish.{finished}
use Rattle.finish.specs.Kinds.{Registers, TableAtLeast, kinds_at}
use Rattle.finish.specs.XsavesLaws.{XsavesEdx}
use Rattle.finish.specs.RowsBuilt.{table_for}
use Rattle.memory.specs.Origin.{origin_of, origin_number}
use Rattle.collect.specs.FirstEntryOrigin.{stands_at}
use Rattle.build.specs.Build.{rows_for, origins_in, answer}
use Rattle.rise.specs.Rise.{Further, TableRises}
use Rattle.rise.specs.RiseProof.{answer_row, answer_mask, xsaves_edx}
use Rattle.register_masks.specs.Join.{pool, and_to, all_to}
use Rattle.register_masks.specs.Alike.{AllAlike, all_have}
use Rattle.register_masks.specs.Features.{FeaturesAre, FeatureWithin}
use Rattle.register_masks.specs.RegisterRunLaws.{and_to_ext, all_to_ext}
use Rattle.register_masks.specs.AlikeLaws.{alike_of_test}
use Rattle.register_masks.specs.PoolLaws.{Servers, features_ext, pool_mask, pool_mask_within, pool_mask_greatest}
use Rattle.register_masks.proofs.PoolLaws.{in_each, pool_rows_lem, pool_features, pool_greatest}
use Rattle.pool.specs.Sets.{set_at, last_of}
use Rattle.pool.proofs.SetsLaws.{at_least_two}
use Rattle.pool.specs.Servers.{server_verdict, server_rows}
use Rattle.pool.specs.Pool.{pool_verdict, pooled}
use Rattle.pool.proofs.PooledLaws.{servers_of, each_accepted, passes_sets, passes_servers, passes_alike}
use Rattle.pool_laws.specs.RowsPool.{pool_rises, pool_further, PoolAmong, no_row_more, no_mask_bit_more, no_feature_more}
use Rattle.pool_laws.specs.PoolRight.{server_table, pool_table, PoolRight, NoneBeyond, Greatest, SetsAmong, NothingMore, OneMore}
use Rattle.table.specs.Verdict.{Verdict}

module _ (c : Choices) (pages lengths : List ℕ) (accepted : (pooled c pages lengths).verdict ≡ Ok tt) where
  abbrev f : ℕ → Rows
  f = server_rows c pages lengths

  abbrev n : ℕ
  n = last_of lengths

  abbrev pub edition : ℕ
  edition = c.edition

  verdict : pool_verdict c pages lengths ≡ Ok tt
  unfolding pooled
  verdict = accepted

  each_server : (k : ℕ) → k ≤ n → server_verdict c pages lengths k ≡ Ok tt
  each_server k l =
      each_accepted c pages lengths (passes_servers c pages lengths verdict) k
      (omega (arith, at_least_two pages lengths (passes_sets c pages lengths verdict)))

  pub servers : Servers f n
  servers = servers_of c pages lengths each_server

  pub alike : AllAlike edition f n
  alike = alike_of_test edition f n (passes_alike c pages lengths verdict)

  zero_edx : (k : ℕ) → XsavesEdx (f k)
  zero_edx k = xsaves_edx c.secure_avic (set_at pages lengths k)

  -- ---- the rows of both tables are the finished rows

  pool_table_lem : pool_table c pages lengths ≡ table_of (finished edition (pool f n)) (combined_mask (pool f n))
  unfolding pooled
  pool_table_lem = ap (λ (v : Verdict). table_for edition v (pool f n)) verdict

  pub pool_row : (i : ℕ) → i < places → row_in (pool_table c pages lengths) i ≡ finished edition (pool f n) i
  pool_row i l = ap (λ (t : CpuidResults). row_in t i) pool_table_lem ∙ table_row (finished edition (pool f n)) (combined_mask (pool f n)) i l

  pub pool_max : (pool_table c pages lengths).max_extended_state ≡ combined_mask (pool f n)
  pool_max = ap (λ (t : CpuidResults). t.max_extended_state) pool_table_lem

  server_row : (i : ℕ) → i < places → (k : ℕ) → k ≤ n → finished edition (f k) i ≡ row_in (server_table c pages lengths k) i
  server_row i l k u = sym (answer_row c (set_at pages lengths k) (each_server k u) i l)

  server_max : (k : ℕ) → k ≤ n → combined_mask (f k) ≡ (server_table c pages lengths k).max_extended_state
  server_max k u = sym (answer_mask c (set_at pages lengths k) (each_server k u))

  -- ---- what the table is

  rows_right : (i : ℕ) → i < places → (row_in (pool_table c pages lengths) i).present ≡ all_to (λ k. (row_in (server_table c pages lengths k) i).present) n
  unfolding all_have
  rows_right i l =
      ap (λ (r : Row). r.present) (pool_row i l)
      ∙ pool_rows_lem edition f n servers i l
      ∙ all_to_ext _ _ n (λ k u. ap (λ (r : Row). r.present) (server_row i l k u))

  features_right : (i : ℕ) → i < places
      → FeaturesAre (kinds_at i) (row_in (pool_table c pages lengths) i).result (λ k. (row_in (server_table c pages lengths k) i).result) n
  features_right i l =
      features_ext (kinds_at i) (ap (λ (r : Row). r.result) (sym (pool_row i l))) n
      (λ k u. ap (λ (r : Row). r.result) (server_row i l k u)) (pool_features edition f n servers alike i l)

  mask_right : (pool_table c pages lengths).max_extended_state ≡ and_to (λ k. (server_table c pages lengths k).max_extended_state) n
  mask_right = pool_max ∙ pool_mask f n servers ∙ and_to_ext _ _ n server_max

  module _ (k : ℕ) (u : k ≤ n) where
    to_pool : (i : ℕ) → i < places → (row_in (pool_table c pages lengths) i).present ≡ true → (finished edition (pool f n) i).present ≡ true
    to_pool i l p = sym (ap (λ (r : Row). r.present) (pool_row i l)) ∙ p

    rises_right : TableRises (pool_table c pages lengths) (server_table c pages lengths k)
    rises_right = record {
      rows = λ i l p. sym (ap (λ (r : Row). r.present) (server_row i l k u)) ∙ in_each edition f n servers i l (to_pool i l p) k u;
      registers = λ i l p.
          subst₂ (λ (x y : Row). Registers TableAtLeast (kinds_at i) x.result y.result) (sym (pool_row i l)) (server_row i l k u)
          (pool_rises edition f n servers zero_edx alike k u i l (to_pool i l p));
      others = λ i l p.
          ⊎_elim (λ q. inl (ap (λ (r : Row). r.present) (pool_row i l) ∙ q))
          (λ (j, at, low, high, in_b, not_in_a). inr (record {
            subleaf = j;
            place = at;
            from = low;
            below = high;
            in_b = ap (has j) (sym (server_max k u)) ∙ in_b;
            not_in_a = ap (has j) pool_max ∙ not_in_a;
          }))
          (pool_further edition f n servers zero_edx alike k u i l (ap (λ (r : Row). r.present) (server_row i l k u) ∙ p));
      mask = subst₂ Within (sym pool_max) (server_max k u) (pool_mask_within f n servers k u);
    }

  -- ---- origins

  pool_origin : (i : ℕ) → i < places
      → get_or (pooled c pages lengths).origins i 0
      ≡ origin_number (origin_of (row_in (pool_table c pages lengths) i).present i (stands_at i (counted (set_at pages lengths 0))))
  unfolding pooled origins_in
  pool_origin i l =
      get_d_tabulate places (λ j. origin_number (origin_of (row_in (pool_table c pages lengths) j).present j (stands_at j (counted (set_at pages lengths 0))))) i 0 l

  first_origin_lem : (i : ℕ) → i < places
      → get_or (answer c (set_at pages lengths 0)).origins i 0
      ≡ origin_number (origin_of (row_in (server_table c pages lengths 0) i).present i (stands_at i (counted (set_at pages lengths 0))))
  unfolding answer origins_in
  first_origin_lem i l =
      get_d_tabulate places (λ j. origin_number (origin_of (row_in (server_table c pages lengths 0) j).present j (stands_at j (counted (set_at pages lengths 0))))) i 0 l

  origins_right : (i : ℕ) → i < places → (row_in (pool_table c pages lengths) i).present ≡ true
      → get_or (pooled c pages lengths).origins i 0 ≡ get_or (answer c (set_at pages lengths 0)).origins i 0
  origins_right i l p =
      let q : (row_in (server_table c pages lengths 0) i).present ≡ true = (rises_right 0 (omega arith)).rows i l p in
      pool_origin i l
      ∙ ap (λ (b : Bool). origin_number (origin_of b i (stands_at i (counted (set_at pages lengths 0))))) (p ∙ sym q)
      ∙ sym (first_origin_lem i l)

  none_right : (i : ℕ) → i < places → (row_in (pool_table c pages lengths) i).present ≡ false → get_or (pooled c pages lengths).origins i 0 ≡ 0
  unfolding origin_of
  none_right i l p =
      pool_origin i l ∙ ap (λ (b : Bool). origin_number (origin_of b i (stands_at i (counted (set_at pages lengths 0))))) p

  pub pool_right : PoolRight c pages lengths
  pool_right = record {
    each = each_server;
    rows = rows_right;
    features = features_right;
    mask = mask_right;
    rises = rises_right;
    origins = origins_right;
    none = none_right;
  }

  pub greatest : Greatest c pages lengths
  greatest t h = record {
    features = λ i l.
        subst (λ (r : Row). Registers FeatureWithin (kinds_at i) (row_in t i).result r.result) (sym (pool_row i l))
        (pool_greatest edition f n servers alike i l (row_in t i).result
        (λ k u. subst (λ (r : Row). Registers FeatureWithin (kinds_at i) (row_in t i).result r.result) (sym (server_row i l k u)) ((h k u).features i l)));
    mask =
        subst (Within t.max_extended_state) (sym pool_max)
        (pool_mask_greatest f n servers t.max_extended_state
        (λ k u. subst (Within t.max_extended_state) (sym (server_max k u)) (h k u).mask));
  }
