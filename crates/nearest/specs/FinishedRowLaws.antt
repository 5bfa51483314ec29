-- Of two accepted sets that differ at one place, the finished row there decides: finishing keeps in a row all that other rows depend on, so that the
-- same finished row leaves all others the same.
use Rattle.std.specs.Prelude.{◌≡◌, Bool, true, false, ◌&&◌, ℕ, ◌≤◌, ◌<◌, eqb, Ok}
use Rattle.std.proofs.Math.Path.{refl, ap}
use Rattle.std.proofs.Common.{sym, ◌∙◌}
use Rattle.bits.specs.Choice.{pick}
use Rattle.bits.specs.ChoiceLaws.{never_both, and_both, and_right, pick_twice}
use Rattle.bits.specs.Bits.{has}
use Rattle.bits.specs.ListsLaws.{get_d_tabulate}
use Rattle.bits.specs.SearchLaws.{every_at}
use Rattle.x86defs.specs.Functions.{cpuid_result}
use Rattle.masking.specs.Kept.{places}
use Rattle.masking.specs.Place
use Rattle.table.specs.Rows.{Rows}
use Rattle.table.specs.Table.{table_of, row_in}
use Rattle.checks.specs.ExtendedState.{xss_of, xss, combined_mask}
use Rattle.checks.specs.ExtendedStateLaws.{xsaves_ecx}
use Rattle.checks.specs.Checks.{rows_verdict}
use Rattle.finish.specs.Finish.{Needed, Rule, rule_at, change_row, finish, remains, enabled_by, unless_no_xss, settings, finished}
use Rattle.finish.specs.Finish.Needed.{extended_state1}
use Rattle.finish.specs.Finish.Rule.{needed}
use Rattle.finish.specs.PlaceLaws.{component_rule}
use Rattle.finish.specs.RemainsLaws.{finished_present}
use Rattle.finish.proofs.RemainsLaws.{finished_result, component_finished}
use Rattle.finish.specs.RowsBuilt.{table_for}
use Rattle.nearest.specs.SameVerdict.{agree, same_result, is_same_row, same_rows, same_table, same_verdict, same_answer, same_from}

-- ---- what finishing keeps of a row that is there

module _ (n : ℕ) (m : Rows) where
  -- of a required row: what its rule keeps
  pub needed_kept : (j : ℕ) (t : Needed) → rule_at j ≡ needed t → (m j).present ≡ true → (finished n m j).result ≡ change_row (settings n m) t (m j).result
  needed_kept j t e p =
      finished_result n m j (finished_present n m j ∙ ap (λ (u : Rule). remains (settings n m) u (m j).present) e ∙ p)
      ∙ ap (λ (u : Rule). finish (settings n m) u (m j).result) e

  -- of D.1: XSS
  pub xss_kept : let j = Place.extended_state 1 in (m j).present ≡ true → xss_of (finished n m j).result ≡ xss_of (m j).result
  unfolding settings enabled_by unless_no_xss xss
  xss_kept p =
      let s = (m (Place.extended_state 1)).result in
      ap xss_of (needed_kept (Place.extended_state 1) extended_state1 refl p)
      ∙ ap (λ (c : ℕ). pick (has 1 s.eax && has 3 s.eax) c 0) (xsaves_ecx m)
      ∙ pick_twice (has 1 s.eax && has 3 s.eax) s.ecx 0

  -- of a D subleaf in the mask: all
  pub component_kept : (k : ℕ) → 2 ≤ k → k < 64 → has k (combined_mask m) ≡ true → (m (Place.extended_state k)).present ≡ true
      → (finished n m (Place.extended_state k)).result ≡ (m (Place.extended_state k)).result
  component_kept k l u e p =
      finished_result n m (Place.extended_state k) (component_finished n m k l u ∙ and_both e p)
      ∙ ap (λ (t : Rule). finish (settings n m) t (m (Place.extended_state k)).result) (component_rule k l u)

-- ---- another finished row

pub finished_differs : (n i : ℕ) (q m : Rows) → i < places → same_result (finished n q i).result (finished n m i).result ≡ false
    → rows_verdict q ≡ Ok tt → rows_verdict m ≡ Ok tt → false ≡ same_from n q m
unfolding same_answer same_table same_rows
finished_differs n i q m l f a b = go (same_from n q m) refl
  where
    go : (c : Bool) → same_from n q m ≡ c → false ≡ c
    go true e =
        let t = table_of (finished n q) (combined_mask q) in
        let u = table_of (finished n m) (combined_mask m) in
        let h : same_table t u ≡ true = and_right (same_verdict (Ok tt) (Ok tt)) _
        (sym (λ k. same_answer (a k) (table_for n (a k) q) (b k) (table_for n (b k) m)) ∙ e) in
        let r : is_same_row (row_in t i) (row_in u i) ≡ true =
        every_at (λ j. is_same_row (row_in t j) (row_in u j)) places
        (and_right (eqb (combined_mask q) (combined_mask m)) _ (and_right (eqb t.row_count u.row_count) _ h)) i l in
        absurd (never_both
        (sym (λ k. same_result (get_d_tabulate places (λ j. (finished n q j).result) i (cpuid_result 0 0 0 0) l k)
        (get_d_tabulate places (λ j. (finished n m j).result) i (cpuid_result 0 0 0 0) l k))
        ∙ and_right (agree (row_in t i).present (row_in u i).present) _ r) f)
    go false e = refl
