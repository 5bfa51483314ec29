-- What every accepted page set's table has, as far as a guest's life asks for it.
use Rattle.std.specs.Prelude.{◌≡◌, Bool, List, ℕ, ◌+◌, ◌≤◌, ◌<◌, eqb, length, Ok}
use Rattle.std.proofs.Math.Path.{refl, sym, ap}
use Rattle.std.proofs.Common.{◌∙◌, le_of_eq, arith, lit<}
use Rattle.std.proofs.Math.Bool.{true, false}
use Rattle.bits.specs.Choice.{pick}
use Rattle.bits.specs.Lists.{one}
use Rattle.bits.specs.ListsLaws.{sum_ext, length_tabulate}
use Rattle.bits.specs.Bits.{has}
use Rattle.bits.specs.BitsLaws.{within_eq}
use Rattle.x86defs.specs.declared.CpuidResult.{CpuidResult}
use Rattle.x86defs.specs.Functions.{cpuid_result}
use Rattle.masking.specs.Kept.{places}
use Rattle.masking.specs.Place
use Rattle.table.specs.declared.Choices.{Choices}
use Rattle.table.specs.declared.CpuidResults.{CpuidResults}
use Rattle.table.specs.Rows.{Row, Rows}
use Rattle.table.specs.Table.{count_rows, row_in, rows_of_table}
use Rattle.checks.specs.ExtendedState.{xfem, combined_mask, save_area, sum_at}
use Rattle.checks.specs.ExtendedStateLaws.{area_mono, in_combined}
use Rattle.checks.specs.TopologyInputs.{inputs_of}
use Rattle.finish.specs.Finish.{Rule, settings, finish, finished}
use Rattle.finish.specs.PlaceLaws.{component_rule}
use Rattle.build.specs.Build.{rows_for, answer}
use Rattle.rise.specs.RiseProof.{answer_table, answer_row, answer_mask}
use Rattle.rise.specs.BuiltLaws.{always_finished, result_at, built_xfem, built_mask}
use Rattle.guest_rise.specs.BuiltState.{Supplied, built_supplied}
use Rattle.images.specs.ImageTableLaws.{Plain}
use Rattle.images.specs.ImagesProof.{accepted_plain}

-- it has 88 places; the rows that its masks name are there; EDX of B.0 and B.1 is 0; absent rows are zeros and registers fit 32 bits; D.0.ECX is the
-- area over D.0.EAX;
-- count and mask are those of its rows
pub record Sound (t : CpuidResults) : Type 0 where
  pub whole : length t.present ≤ places
  pub supplied : Supplied t
  pub threads : (row_in t Place.thread_level).result.edx ≡ 0
  pub cores : (row_in t Place.core_level).result.edx ≡ 0
  pub plain : Plain t
  pub area : (row_in t (Place.extended_state 0)).result.ecx ≡ save_area (rows_of_table t) (xfem (rows_of_table t))
  pub count : t.row_count ≡ count_rows (rows_of_table t)
  pub mask : t.max_extended_state ≡ combined_mask (rows_of_table t)

module _ (chosen : Choices) (s : List ℕ) (e : (answer chosen s).verdict ≡ Ok tt) where
  abbrev m : Rows
  m = rows_for chosen s

  abbrev t : CpuidResults
  t = (answer chosen s).table

  threads_edx : (row_in t Place.thread_level).result.edx ≡ 0
  unfolding settings
  threads_edx =
      ap (λ (r : CpuidResult). r.edx) (result_at chosen s e Place.thread_level (lit< tt) (always_finished chosen s e Place.thread_level (lit< tt) refl))
      ∙ go (eqb (inputs_of m).t 1)
    where
      go : (b : Bool) → (pick b (cpuid_result 1 2 0x100 0) (cpuid_result 0 1 0x100 0)).edx ≡ 0
      go true = refl
      go false = refl

  cores_edx : (row_in t Place.core_level).result.edx ≡ 0
  unfolding settings
  cores_edx = ap (λ (r : CpuidResult). r.edx) (result_at chosen s e Place.core_level (lit< tt) (always_finished chosen s e Place.core_level (lit< tt) refl))

  component : (k : ℕ) → 2 ≤ k → k < 64 → has k (combined_mask (rows_of_table t)) ≡ true → (row_in t (Place.extended_state k)).result ≡ (m (Place.extended_state k)).result
  component k l u h =
      let there = (built_supplied chosen s e).components k l u h in
      let i : Place.extended_state k < places = omega arith in
      result_at chosen s e (Place.extended_state k) i (sym (ap (λ (r : Row). r.present) (answer_row chosen s e (Place.extended_state k) i)) ∙ there)
      ∙ ap (λ (q : Rule). finish (settings chosen.edition m) q (m (Place.extended_state k)).result) (component_rule k l u)

  area_own : (row_in t (Place.extended_state 0)).result.ecx ≡ save_area (rows_of_table t) (xfem (rows_of_table t))
  unfolding settings
  area_own =
      let same : (k : ℕ) → 2 ≤ k → k < 64 → has k (xfem (rows_of_table t)) ≡ true → sum_at (rows_of_table t) k ≡ sum_at m k =
      λ k l u h. ap (λ (r : CpuidResult). r.eax + r.ebx) (component k l u (in_combined (rows_of_table t) k h)) in
      let up : save_area (rows_of_table t) (xfem (rows_of_table t)) ≤ save_area m (xfem m) =
      area_mono (rows_of_table t) m 64 (within_eq (built_xfem chosen s e)) same in
      let down : save_area m (xfem m) ≤ save_area (rows_of_table t) (xfem (rows_of_table t)) =
      area_mono m (rows_of_table t) 64 (within_eq (sym (built_xfem chosen s e)))
      (λ k l u h. sym (same k l u (ap (has k) (built_xfem chosen s e) ∙ h))) in
      let two : save_area m (xfem m) ≡ save_area (rows_of_table t) (xfem (rows_of_table t)) = omega (arith, up, down) in
      ap (λ (r : CpuidResult). r.ecx)
      (result_at chosen s e (Place.extended_state 0) (lit< tt) (always_finished chosen s e (Place.extended_state 0) (lit< tt) refl))
      ∙ two

  counted_rows : t.row_count ≡ count_rows (rows_of_table t)
  unfolding count_rows
  counted_rows =
      ap (λ (u : CpuidResults). u.row_count) (answer_table chosen s e)
      ∙ sum_ext (λ i. one (finished chosen.edition m i).present) (λ i. one (row_in t i).present) places
      (λ i l. sym (ap (λ (r : Row). one r.present) (answer_row chosen s e i l)))

  pub built_sound : Sound t
  built_sound = record {
    whole =
        le_of_eq (ap (λ (u : CpuidResults). length u.present) (answer_table chosen s e)
        ∙ length_tabulate places (λ i. (finished chosen.edition m i).present));
    supplied = built_supplied chosen s e;
    threads = threads_edx;
    cores = cores_edx;
    plain = accepted_plain chosen s e;
    area = area_own;
    count = counted_rows;
    mask = answer_mask chosen s e ∙ sym (built_mask chosen s e);
  }
