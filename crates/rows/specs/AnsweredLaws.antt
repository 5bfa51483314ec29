-- The answer in memory: checked rows are ready to be finished, and memory of zeros holds the empty table.
use Rattle.std.proofs.Math.Path.{◌≡◌, refl, ap}
use Rattle.std.proofs.Common.{sym, ap₂, ◌∙◌, subst, arith}
use Rattle.std.specs.Prelude.{List, ℕ, replicate, Err, Ok, Result}
use Rattle.bits.specs.Lists.{tabulate}
use Rattle.table.specs.declared.Refusal.{Refusal}
use Rattle.table.specs.Rows.{Rows}
use Rattle.table.specs.Table.{empty_table}
use Rattle.memory.specs.Origin.{finished_origins}
use Rattle.memory.specs.Memory.{layout, rows_in}
use Rattle.memory.specs.Held.{held_in, cleared_held}
use Rattle.checks.specs.ExtendedState.{xfem, combined_mask, save_area}
use Rattle.checks.specs.TopologyInputs.{inputs_of}
use Rattle.topology.specs.Topology.{topology_of, processors}
use Rattle.checks.specs.Checks.{rows_verdict}
use Rattle.checks.specs.ChecksLaws.{all_pass}
use Rattle.finish.specs.Stores.{Ready}
use Rattle.finish.specs.RowsBuilt.{table_for, built_from}
use Rattle.rows.specs.declared.checked.Checked.{Checked}
use Rattle.rows.specs.Checked.{checked_by, checked_rows}
use Rattle.rows.specs.Finished.{Holds, Answered, Tried}
use Rattle.table.specs.Verdict.{Verdict}

module _ (m : Rows) where
  pub checked_accepts : {k : Checked} → Ok k ≡ checked_rows m → rows_verdict m ≡ Ok tt
  unfolding checked_rows
  checked_accepts {k} e = go (rows_verdict m) e
    where
      go : (v : Verdict) → Ok k ≡ checked_by v m → v ≡ Ok tt
      go (Ok _) f = refl
      go (Err r) f = absurd (let z : ◌≡◌ {A = ℕ} 0 1 = cc in omega arith)

  pub checked_ready : {k : Checked} → Ok k ≡ checked_rows m → (k.mask ≡ combined_mask m) × Ready m k.size k.processors
  unfolding checked_rows
  checked_ready {k} e =
      let a = checked_accepts e in
      let found : Checked = record { mask = combined_mask m; size = save_area m (xfem m); processors = processors (topology_of (inputs_of m)) } in
      let f : Ok k ≡ Ok found = e ∙ ap (λ (v : Verdict). checked_by v m) a in
      let g : k ≡ found = cc in (
        ap (λ (k : Checked). k.mask) g,
        record { required = (all_pass m a).required; area = ap (λ (k : Checked). k.size) g; topology = ap (λ (k : Checked). k.processors) g },
      )

  pub checked_refuses : {r : Refusal} → Err r ≡ checked_rows m → rows_verdict m ≡ Err r
  unfolding checked_rows
  checked_refuses {r} e = go (rows_verdict m) e
    where
      go : (v : Verdict) → Err r ≡ checked_by v m → v ≡ Err r
      go (Ok _) f = absurd (let z : ◌≡◌ {A = ℕ} 0 1 = cc in omega arith)
      go (Err q) f = ap Err (cc)

-- memory that is cleared
pub cleared : (found : List ℕ) {w o : List ℕ} → w ≡ replicate 352 0 → o ≡ replicate 88 0 → Holds empty_table found w o
unfolding layout tabulate finished_origins
cleared found e f = record { registers = e; origins = f }

pub cleared_whole : {w o : List ℕ} → w ≡ replicate 352 0 → o ≡ replicate 88 0 → held_in w o ≡ empty_table
cleared_whole e f = ap₂ held_in e f ∙ cleared_held

-- the answer, from memory that holds its table
pub answered : (n : ℕ) (m : Rows) (v : Verdict) {found w o : List ℕ} → rows_verdict m ≡ v → Holds (table_for n v m) found w o
    → held_in w o ≡ table_for n v m → Answered (built_from n m) found v w o
unfolding built_from
answered n m v {found} {w} {o} e h k = record {
  verdict = sym e;
  table = subst (λ (u : Verdict). Holds (table_for n u m) found w o) (sym e) h;
  whole = k ∙ ap (λ (u : Verdict). table_for n u m) (sym e);
}

-- what the checks refuse
pub tried_refused : (n : ℕ) (m : Rows) (r : Refusal) (w o : List ℕ) → rows_verdict m ≡ Err r → Tried (built_from n m) w o (Err r) w o
unfolding built_from
tried_refused n m r w o e = record { verdict = sym e; accepted = λ a. absurd (let z : ◌≡◌ {A = ℕ} 0 1 = cc in omega arith); refused = λ _ _. (refl, refl) }

-- the same of rows that the code has checked
pub checked_stays : (n : ℕ) (w o : List ℕ) {r : Refusal} {x : Result Checked Refusal} → x ≡ checked_rows (rows_in w o) → x ≡ Err r
    → Tried (built_from n (rows_in w o)) w o (Err r) w o
checked_stays n w o e f = tried_refused n (rows_in w o) _ w o (checked_refuses (rows_in w o) (sym f ∙ e))

-- and what they accept
pub tried_accepted : (n : ℕ) (m : Rows) {w₀ found w o : List ℕ} → Answered (built_from n m) found (Ok tt) w o → Tried (built_from n m) w₀ found (Ok tt) w o
tried_accepted n m a = record { verdict = a.verdict; accepted = λ _. a; refused = λ r e. absurd (let z : ◌≡◌ {A = ℕ} 0 1 = cc in omega arith) }
