-- Registers in a flat list: storing a row changes that row alone, and rows laid out are read back.
use Rattle.std.specs.Prelude.{◌≡◌, refl, Bool, true, false, List, ℕ, ◌+◌, ◌*◌, ◌≤◌, ◌<◌, ltb, length, get_or}
use Rattle.std.proofs.Common.{sym, ap, ◌∙◌, arith, ltb-true, ltb-false}
use Rattle.std.proofs.Math.Path.{fun_ext}
use Rattle.std.proofs.Math.ListN.{get_or-eq_default}
use Rattle.bits.specs.Lists.{tabulate}
use Rattle.bits.specs.ListsLaws.{tabulate_ext}
use Rattle.x86defs.specs.declared.CpuidResult.{CpuidResult}
use Rattle.x86defs.specs.Functions.{cpuid_result}
use Rattle.masking.specs.Kept.{places}
use Rattle.table.specs.Rows.{Rows, vacant}
use Rattle.memory.specs.Memory.{row_of, is_there, rows_in, layout, row_list}
use Rattle.memory.specs.MemoryLaws.{layout_at, layout_length}

-- is read back row by row
pub layout_row : (r : ℕ → CpuidResult) (i : ℕ) → i < places → row_of (layout r) i ≡ r i
layout_row r i h =
    λ t. cpuid_result (layout_at r i 0 (4 * i) (omega arith) h (omega arith) t) (layout_at r i 1 (4 * i + 1) refl h (omega arith) t)
    (layout_at r i 2 (4 * i + 2) refl h (omega arith) t) (layout_at r i 3 (4 * i + 3) refl h (omega arith) t)

pub layout_list : (r : ℕ → CpuidResult) → row_list (layout r) ≡ tabulate places r
layout_list r = tabulate_ext places _ _ (layout_row r)

-- ---- rows laid out beside their origins are those rows, at every number

layout_past : (r : ℕ → CpuidResult) (i : ℕ) → places ≤ i → row_of (layout r) i ≡ cpuid_result 0 0 0 0
layout_past r i h =
    let z : (n : ℕ) → 4 * i ≤ n → get_or (layout r) n 0 ≡ 0 = λ n l. get_or-eq_default (layout r) 0 (omega (arith, layout_length r)) in
    λ t. cpuid_result (z (4 * i) (omega arith) t) (z (4 * i + 1) (omega arith) t) (z (4 * i + 2) (omega arith) t) (z (4 * i + 3) (omega arith) t)

pub rows_laid : (m : Rows) (o : List ℕ) → length o ≡ places → ((i : ℕ) → i < places → is_there (get_or o i 0) ≡ (m i).present)
    → ((i : ℕ) → places ≤ i → m i ≡ vacant) → rows_in (layout (λ i. (m i).result)) o ≡ m
rows_laid m o f there past = fun_ext (λ i. go i (ltb i places) refl)
  where
    go : (i : ℕ) (b : Bool) → ltb i places ≡ b → rows_in (layout (λ j. (m j).result)) o i ≡ m i
    go i true q =
        let h : i < places = ltb-true i places q in
        λ t. record { present = there i h t; result = layout_row (λ j. (m j).result) i h t }
    go i false q =
        let h : places ≤ i = ltb-false i places q in
        let p : is_there (get_or o i 0) ≡ false = ap is_there (get_or-eq_default o 0 (omega (arith, f))) in
        (λ t. record { present = p t; result = layout_past (λ j. (m j).result) i h t }) ∙ sym (past i h)
