-- Memory finished by stores: subleaves dropped, four origins, ten rows. It holds the definition's table, since every required row is there.
use Rattle.std.specs.Prelude.{◌≡◌, refl, Bool, true, ◌&&◌, List, ℕ, ◌-◌, ◌<◌, ltb, leb, length, Ok}
use Rattle.std.proofs.Math.Path.{sym, ap}
use Rattle.std.proofs.Common.{◌∙◌, ltb-true}
use Rattle.std.proofs.Math.Bool.{false}
use Rattle.std.specs.Int.Bits.{bit_or}
use Rattle.std.proofs.Math.ListN.{get_or}
use Rattle.bits.specs.Choice.{pick}
use Rattle.bits.specs.Bits.{has}
use Rattle.bits.specs.Lists.{tabulate}
use Rattle.bits.specs.ListsLaws.{get_d_tabulate, tabulate_ext}
use Rattle.x86defs.specs.declared.CpuidResult.{CpuidResult}
use Rattle.x86defs.specs.Functions.{cpuid_result}
use Rattle.masking.specs.Kept.{places}
use Rattle.masking.specs.Place
use Rattle.table.specs.Rows.{Rows, row, vacant}
use Rattle.table.specs.Table.{table_of}
use Rattle.memory.specs.Origin.{is_made_here, finished_origins}
use Rattle.memory.specs.OriginLaws.{marked}
use Rattle.memory.specs.Memory.{row_of, is_there, rows_in, row_list}
use Rattle.memory.specs.MemoryLaws.{Rowed, known_by_rows, layout_length, layout_ext}
use Rattle.memory.proofs.MemoryLaws.{layout_row, layout_list}
use Rattle.checks.specs.ExtendedState.{combined_mask, xfem, xss}
use Rattle.checks.specs.TopologyInputs.{inputs_of}
use Rattle.checks.specs.Checks.{required_verdict}
use Rattle.checks.specs.ChecksLaws.{required_present}
use Rattle.finish.specs.Finish.{Enabled, YmmClears, Settings, ymm_clears, rule_at, remains, enabled_by, settings, finished}
use Rattle.finish.specs.FeaturesInCode.{enabled_from}
use Rattle.finish.specs.PlaceLaws.{always, position, always_required}
use Rattle.finish.specs.Stores.{dropped_row, dropped, Ready}
use Rattle.finish.specs.FinishedTable.{settings_with}
use Rattle.finish.proofs.FinishedTable.{store_results, finished_rows}
use Rattle.finish.specs.RemainsLaws.{finished_present}
use Rattle.rows.specs.Finished.{Holds, stays, kept_row, kept_origin, Dropped}

-- ---- the rows that are not dropped

pub dropped_rowed : {w o : List ℕ} {x : ℕ} {v q : List ℕ} → Dropped w o x v q → Rowed v (tabulate places (kept_row w o x))
dropped_rowed {w} {o} {x} d = record {
  size = ap length d.registers ∙ layout_length (kept_row w o x);
  rows = ap row_list d.registers ∙ layout_list (kept_row w o x);
}

-- a row other than D.2 to D.63 that is read is as it was
pub dropped_read : {w o : List ℕ} {x : ℕ} {v q : List ℕ} → Dropped w o x v q → (i : ℕ) → ltb i places ≡ true
    → (leb (Place.extended_state 2) i && ltb i (Place.extended_state 64)) ≡ false → {r : CpuidResult} → r ≡ row_of v i → r ≡ row_of w i
dropped_read {w} {o} {x} d i h e f =
    f ∙ ap (λ (u : List ℕ). row_of u i) d.registers ∙ layout_row (kept_row w o x) i (ltb-true i places h) ∙ rw e

-- ---- a row that stays is the row that is not dropped

kept_dropped : (w o : List ℕ) (x i : ℕ) → kept_row w o x i ≡ (dropped (rows_in w o) x i).result
unfolding dropped_row
kept_dropped w o x i =
    go (leb (Place.extended_state 2) i && ltb i (Place.extended_state 64)) (has (i - Place.extended_state 0) x && is_there (get_or o i 0))
  where
    go : (b c : Bool)
        → pick (pick b c true) (row_of w i) (cpuid_result 0 0 0 0) ≡ (pick b (pick c (row (row_of w i)) vacant) (rows_in w o i)).result
    go true true = refl
    go true false = refl
    go false c = refl

-- ---- the origins

stored_origins : (c : Settings) (o : ℕ → ℕ)
    → marked (tabulate places (λ i. pick (stays (bit_or c.enabled.xfem c.enabled.xss) i (is_there (o i))) (o i) 0))
    ≡ tabulate places (λ i. pick (remains c (rule_at i) (pick (always (rule_at i)) true (is_there (o i)))) (pick (is_made_here i) 1 (o i)) 0)
unfolding tabulate is_made_here
stored_origins c o = refl

module _ (n : ℕ) (w o : List ℕ) (h : required_verdict (rows_in w o) ≡ Ok tt) where
  abbrev m : Rows
  m = rows_in w o

  known : (i : ℕ) → i < places → pick (always (rule_at i)) true (m i).present ≡ (m i).present
  known i l = go (always (rule_at i)) refl
    where
      go : (b : Bool) → always (rule_at i) ≡ b → pick b true (m i).present ≡ (m i).present
      go true e =
          let q = always_required i l e in
          sym (ap (λ (j : ℕ). (m j).present) (sym q.1) ∙ required_present m h (position i) q.0)
      go false e = refl

  pub finished_origins_lem : marked (tabulate places (kept_origin o (combined_mask m))) ≡ finished_origins (tabulate places (λ i. (finished n m i).present)) o
  unfolding combined_mask settings enabled_by finished_origins
  finished_origins_lem =
      stored_origins (settings n m) (λ i. get_or o i 0)
      ∙ tabulate_ext places _ _ (λ i l.
      ap (λ (p : Bool). pick p (pick (is_made_here i) 1 (get_or o i 0)) 0)
      (ap (remains (settings n m) (rule_at i)) (known i l)
      ∙ sym (finished_present n m i)
      ∙ sym (get_d_tabulate places (λ j. (finished n m j).present) i false l)))

-- ---- both

pub finished_memory : (edition : ℕ) (w o : List ℕ) {y : YmmClears} {e : Enabled} {x size n : ℕ} {d q v p : List ℕ} {l : List CpuidResult}
    → Ready (rows_in w o) size n → y ≡ ymm_clears edition
    → e ≡ enabled_from (row_of w (Place.extended_state 0)) (row_of w (Place.extended_state 1)) (row_of w Place.extended_sev_features)
    → x ≡ combined_mask (rows_in w o) → Dropped w o x d q → p ≡ marked q → Rowed v l
    → l ≡ store_results (settings_with y e size (inputs_of (rows_in w o)).t n) (row_of w) (tabulate places (kept_row w o x))
    → Holds (table_of (finished edition (rows_in w o)) (combined_mask (rows_in w o))) o v p
unfolding combined_mask xfem xss
finished_memory edition w o {y} {e} {x} {size} {n} {d} {q} {v} {p} {l} ready clears f g dropped-to marks held stored =
    let m : Rows = rows_in w o in
    let mask : x ≡ bit_or e.xfem e.xss = g ∙ sym (ap (λ (k : Enabled). bit_or k.xfem k.xss) f) in
    let r : tabulate places (kept_row w o x) ≡ tabulate places (λ i. (dropped m x i).result) = tabulate_ext places _ _ (λ i h. kept_dropped w o x i) in
    record {
      registers =
          known_by_rows v (λ i. (finished edition m i).result) held.size
          (held.rows
          ∙ stored
          ∙ ap (store_results (settings_with y e size (inputs_of m).t n) (row_of w)) r
          ∙ finished_rows edition m ready clears f mask)
          ∙ layout_ext _ _ (λ i h. sym (get_d_tabulate places (λ j. (finished edition m j).result) i (cpuid_result 0 0 0 0) h));
      origins =
          marks
          ∙ ap marked (dropped-to.origins ∙ ap (λ (k : ℕ). tabulate places (kept_origin o k)) g)
          ∙ finished_origins_lem edition w o ready.required;
    }
