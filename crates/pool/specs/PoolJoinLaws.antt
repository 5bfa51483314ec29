-- The registers and flags of servers 0 to n, and with one more.
use Rattle.std.specs.Prelude.{◌≡◌, Bool, true, ℕ, suc, ◌<◌, replicate}
use Rattle.std.proofs.Common.{sym, ap, ◌∙◌}
use Rattle.std.proofs.Math.Path.{ap₂}
use Rattle.std.proofs.Math.Bool.{false, ◌&&◌}
use mathlib.Core.List.{List}
use Rattle.std.proofs.Math.ListN.{get_or}
use Rattle.std.proofs.lemmas.List.{length-replicate, get_or-replicate}
use Rattle.bits.specs.Lists.{tabulate}
use Rattle.bits.specs.ListsLaws.{get_d_tabulate, tabulated, tabulate_ext}
use Rattle.masking.specs.Kept.{places}
use Rattle.table.specs.Rows.{Rows}
use Rattle.memory.specs.Memory.{row_of, layout}
use Rattle.memory.specs.MemoryLaws.{layout_ext}
use Rattle.memory.proofs.MemoryLaws.{layout_row}
use Rattle.finish.specs.Kinds.{kinds_at}
use Rattle.register_masks.specs.Join.{pooled_results, with_server, pool, all_to}
use Rattle.register_masks.specs.Alike.{registers_alike, alike_to}
use Rattle.register_masks.specs.JoinedEntryLaws.{registers_refl}
use Rattle.register_masks.specs.AlikeLaws.{registers_test}
use Rattle.register_masks.proofs.AlikeLaws.{alike_first}
use Rattle.pool.specs.Joins.{joined_row, found_alike}

abbrev pub registers_of : Rows → List ℕ
registers_of m = layout (λ i. (m i).result)

abbrev pub alike_flags : (ℕ → Rows) → ℕ → List Bool
alike_flags f n = tabulate places (alike_to f n)

pub flags_first : (f : ℕ → Rows) → replicate places true ≡ alike_flags f 0
unfolding alike_to all_to
flags_first f =
    tabulated places (λ i. alike_to f 0 i) (replicate places true) false (length-replicate places true)
    (λ i l. get_or-replicate places i true false l ∙ sym (registers_test (kinds_at i) _ _ (registers_refl (kinds_at i) (f 0 i).result)))

-- w and u are the registers of servers 0 to n, joined, and of the next
module _ (f : ℕ → Rows) (n : ℕ) {w u : List ℕ} (p : w ≡ registers_of (pool f n)) (q : u ≡ registers_of (f (suc n))) where
  first_row_lem : (i : ℕ) → i < places → row_of w i ≡ (pool f n i).result
  first_row_lem i l = ap (λ (x : List ℕ). row_of x i) p ∙ layout_row (λ j. (pool f n j).result) i l

  next_row : (i : ℕ) → i < places → row_of u i ≡ (f (suc n) i).result
  next_row i l = ap (λ (x : List ℕ). row_of x i) q ∙ layout_row (λ j. (f (suc n) j).result) i l

  pub registers_next : layout (joined_row (row_of w) (row_of u)) ≡ registers_of (pool f (suc n))
  unfolding pool with_server
  registers_next = layout_ext _ _ (λ i l. ap₂ (pooled_results (kinds_at i)) (first_row_lem i l) (next_row i l))

  pub flags_next : {alike : List Bool} → alike ≡ alike_flags f n → tabulate places (found_alike alike (row_of w) (row_of u)) ≡ alike_flags f (suc n)
  unfolding alike_to all_to
  flags_next e =
      tabulate_ext places _ _ (λ i l.
      ap₂ ◌&&◌ (ap (λ (x : List Bool). get_or x i false) e ∙ get_d_tabulate places (alike_to f n) i false l)
      (ap₂ (registers_alike (kinds_at i)) (first_row_lem i l) (next_row i l) ∙ alike_first f n i (f (suc n) i).result))
