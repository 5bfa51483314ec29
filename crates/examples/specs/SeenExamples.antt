-- What a guest of an accepted page set sees, from its first entries: the verdict and the figures without building anew.
use Rattle.std.specs.Prelude.{◌≡◌, Bool, List, [], ◌∷◌, ℕ, Ok}
use Rattle.std.proofs.Common.{ap, ◌∙◌}
use Rattle.bits.specs.Bits.{clear}
use Rattle.masking.specs.Place
use Rattle.table.specs.declared.Choices.{Choices}
use Rattle.table.specs.declared.CpuidResults.{CpuidResults}
use Rattle.table.specs.Rows.{Rows}
use Rattle.table.specs.Table.{table_of, row_in, rows_of_table}
use Rattle.checks.specs.ExtendedState.{combined_mask}
use Rattle.finish.specs.Finish.{finished}
use Rattle.build.specs.Build.{rows_for, answer}
use Rattle.rise.specs.RiseProof.{answer_table}
use Rattle.page_sets.specs.Pass.{passed_verdict, passed_table}
use Rattle.page_sets.specs.PassLaws.{rows_passed}
use Rattle.page_sets.specs.Evaluation.{passed}
use Rattle.guest_state.specs.Compact.{component_start, placed, compact_below}
use Rattle.guest_state.specs.State.{save_register, compacts, compact_register, allowed, allowed_verdict, compact_verdict, state_verdict}
use Rattle.guest.specs.declared.Processor.{Processor}
use Rattle.guest.specs.Guest.{number_seen, osxsave_seen, guest_table}
use Rattle.guest.specs.GuestPages.{guest_pages}
use Rattle.guest.proofs.GuestPagesLaws.{guest_verdict, given_guest}
use Rattle.table.specs.Verdict.{Verdict}

-- with every definition open
unfoldable pub viewed : Choices → List ℕ → Verdict
unfolding passed state_verdict allowed_verdict compact_verdict allowed compact_register compacts save_register compact_below placed component_start number_seen
    osxsave_seen clear
viewed chosen s = passed_verdict chosen s

abbrev pub processor : ℕ → ℕ → ℕ → Bool → Processor
processor n x s on = record { x2apic = n; xcr0 = x; xss = s; osxsave = on }

-- the table of an accepted page set
abbrev pub built : Choices → List ℕ → CpuidResults
built chosen s = table_of (finished chosen.edition (rows_for chosen s)) (combined_mask (rows_for chosen s))

-- 1.EBX, 1.ECX, B.0.EDX, B.1.EDX, D.0.EBX, D.1.EBX
abbrev pub figures : CpuidResults → List ℕ
figures t =
    (row_in t Place.version_and_features).result.ebx
    ∷ (row_in t Place.version_and_features).result.ecx
    ∷ (row_in t Place.thread_level).result.edx
    ∷ (row_in t Place.core_level).result.edx
    ∷ (row_in t (Place.extended_state 0)).result.ebx
    ∷ (row_in t (Place.extended_state 1)).result.ebx
    ∷ []

-- the same of entries that are read in one pass
module _ (chosen : Choices) (s : List ℕ) where
  pub built_passed : built chosen s ≡ passed_table chosen s
  built_passed = ap (λ (m : Rows). table_of (finished chosen.edition m) (combined_mask m)) (rows_passed chosen.secure_avic s)

  pub state_passed : (xcr0 xss : ℕ) → state_verdict (rows_of_table (built chosen s)) xcr0 xss ≡ state_verdict (rows_of_table (passed_table chosen s)) xcr0 xss
  state_passed xcr0 xss = ap (λ (t : CpuidResults). state_verdict (rows_of_table t) xcr0 xss) built_passed

  pub figures_passed : (v : Processor) → figures (guest_table (built chosen s) v) ≡ figures (guest_table (passed_table chosen s) v)
  figures_passed v = ap (λ (t : CpuidResults). figures (guest_table t v)) built_passed

module _ (chosen : Choices) (s : List ℕ) (v : Processor) (accepted : (answer chosen s).verdict ≡ Ok tt) where
  pub seen_verdict : {w : Verdict} → state_verdict (rows_of_table (built chosen s)) v.xcr0 v.xss ≡ w → (guest_pages chosen s v).verdict ≡ w
  seen_verdict e =
      guest_verdict chosen s v accepted ∙ ap (λ (t : CpuidResults). state_verdict (rows_of_table t) v.xcr0 v.xss) (answer_table chosen s accepted) ∙ e

  pub seen_figures : {l : List ℕ} → state_verdict (rows_of_table (built chosen s)) v.xcr0 v.xss ≡ Ok tt → figures (guest_table (built chosen s) v) ≡ l
      → figures (guest_pages chosen s v).table ≡ l
  seen_figures e f =
      ap figures (given_guest chosen s v accepted (seen_verdict e) ∙ ap (λ (t : CpuidResults). guest_table t v) (answer_table chosen s accepted)) ∙ f
