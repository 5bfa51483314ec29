-- Memory that holds joined registers beside the first server's origins has the joined rows: server k's rows are those of the page set s k.
use Rattle.std.specs.Prelude.{◌≡◌, Bool, List}
use Rattle.std.proofs.Math.Path.{refl, ap₂}
use Rattle.std.proofs.Common.{sym, ap, ◌∙◌}
use Prim.Native.Nat.{ℕ, zero, suc, ◌≤◌}
use Rattle.x86defs.specs.Functions.{cpuid_result}
use Rattle.masking.specs.Kept.{places}
use Rattle.table.specs.Rows.{Row, Rows, vacant}
use Rattle.memory.specs.Memory.{rows_in}
use Rattle.memory.proofs.MemoryLaws.{rows_laid}
use Rattle.collect.specs.FirstEntries.{rows_of}
use Rattle.collect.specs.FirstEntriesLaws.{row_beyond}
use Rattle.collect.specs.FirstEntryOrigin.{found_origins}
use Rattle.collect.specs.FirstEntryOriginLaws.{found_length}
use Rattle.collect.proofs.FirstEntryOriginLaws.{found_rows}
use Rattle.finish.specs.Kinds.{Kind, Kinds, kinds_at}
use Rattle.finish.specs.Kinds.Kind.{feature, feature_but28, area, freed, other}
use Rattle.register_masks.specs.Join.{joined_register, pooled_results, with_server, pool}
use Rattle.pool.specs.PoolJoinLaws.{registers_of}

-- past the last place there are zeros on both sides
pooled_zero : (k : Kind) → joined_register k 0 0 ≡ 0
pooled_zero feature = refl
pooled_zero feature_but28 = refl
pooled_zero area = refl
pooled_zero freed = refl
pooled_zero other = refl

results_zero : (k : Kinds) → pooled_results k (cpuid_result 0 0 0 0) (cpuid_result 0 0 0 0) ≡ cpuid_result 0 0 0 0
results_zero k i = cpuid_result (pooled_zero k.eax i) (pooled_zero k.ebx i) (pooled_zero k.ecx i) (pooled_zero k.edx i)

module _ (avic : Bool) (s : ℕ → List ℕ) where
  abbrev f : ℕ → Rows
  f k = rows_of avic (s k)

  present_first : (n i : ℕ) → (pool f n i).present ≡ (f 0 i).present
  unfolding pool with_server
  present_first zero i = refl
  present_first (suc n) i = present_first n i

  pool_past : (n i : ℕ) → places ≤ i → pool f n i ≡ vacant
  unfolding pool with_server
  pool_past zero i h = row_beyond avic (s 0) i h
  pool_past (suc n) i h =
      let p : pool f n i ≡ vacant = pool_past n i h in
      let q = ap₂ (λ (x y : Row). pooled_results (kinds_at i) x.result y.result) p (row_beyond avic (s (suc n)) i h) ∙ results_zero (kinds_at i) in
      λ t. record { present = (p t).present; result = q t }

  pub joined_rows : (n : ℕ) → rows_in (registers_of (pool f n)) (found_origins (s 0)) ≡ pool f n
  joined_rows n =
      rows_laid (pool f n) (found_origins (s 0)) (found_length (s 0))
      (λ i h. ap (λ (m : Rows). (m i).present) (found_rows avic (s 0)) ∙ sym (present_first n i)) (pool_past n)
