-- The proof of `EqualImages`: accepted tables are plain, so their images tell their rows, and the rows of Dh tell the combined mask.
use Rattle.std.specs.Prelude.{◌≡◌, refl, Bool, true, false, ◌&&◌, List, ℕ, ◌<◌, eqb, Ok}
use Rattle.std.proofs.Common.{sym, ap, ap₂, ◌∙◌, subst}
use Rattle.std.proofs.Math.Dec.{lit<}
use Rattle.std.specs.Int.Bits.{bit_or}
use Rattle.bits.specs.Choice.{pick}
use Rattle.bits.specs.BitsLaws.{field_lt}
use Rattle.x86defs.specs.declared.CpuidResult.{CpuidResult}
use Rattle.topology.specs.Topology.{topology_of, processors, thread_level, core_level}
use Rattle.topology.specs.TopologyLaws.{processors_fit, shift_fits}
use Rattle.masking.specs.Kept.{places}
use Rattle.masking.specs.Place
use Rattle.table.specs.declared.Choices.{Choices}
use Rattle.table.specs.declared.CpuidResults.{CpuidResults}
use Rattle.table.specs.Rows.{Row, Rows, vacant}
use Rattle.table.specs.Table.{row_in, rows_of_table}
use Rattle.table.specs.Fits.{Fits}
use Rattle.checks.specs.ExtendedState.{xss_of, xfem, xss, combined_mask}
use Rattle.checks.specs.TopologyInputs.{inputs_of}
use Rattle.finish.specs.Finish.{settings, finished}
use Rattle.finish.specs.FitLaws.{SettingsFit}
use Rattle.finish.proofs.FitLaws.{finished_fits}
use Rattle.collect.specs.RowsFit.{rows_fit_lem}
use Rattle.build.specs.Build.{rows_for, answer}
use Rattle.rise.specs.RiseProof.{answer_row, answer_mask}
use Rattle.rise.specs.SameProof.{finished_absent}
use Rattle.rise.specs.BuiltLaws.{area_fits, built_mask}
use Rattle.images.specs.ImageTableLaws.{Plain, rows_told, same_image}
use Rattle.images.specs.Images.{SameTable, EqualImages}

threads_fit : (t : ℕ) → Fits (thread_level t)
threads_fit t = go (eqb t 1)
  where
    go : (b : Bool) → Fits (pick b (record { eax = 1; ebx = 2; ecx = 0x100; edx = 0 }) (record { eax = 0; ebx = 1; ecx = 0x100; edx = 0 }))
    go true = record { eax = lit< tt; ebx = lit< tt; ecx = lit< tt; edx = lit< tt }
    go false = record { eax = lit< tt; ebx = lit< tt; ecx = lit< tt; edx = lit< tt }

module _ (chosen : Choices) (s : List ℕ) (e : (answer chosen s).verdict ≡ Ok tt) where
  abbrev m : Rows
  m = rows_for chosen s

  cores_fit : Fits (core_level (processors (topology_of (inputs_of m))))
  unfolding inputs_of
  cores_fit = record {
    eax = shift_fits (processors (topology_of (inputs_of m)));
    ebx = processors_fit (inputs_of m) (field_lt 16 8 _) (field_lt 12 4 _);
    ecx = lit< tt;
    edx = lit< tt;
  }

  settings_fit : SettingsFit (settings chosen.edition m)
  unfolding settings
  settings_fit = record { area = area_fits chosen s e; threads = threads_fit (inputs_of m).t; cores = cores_fit }

  pub accepted_plain : Plain (answer chosen s).table
  accepted_plain = record {
    absent = λ i h f. answer_row chosen s e i h ∙ finished_absent chosen.edition m i (sym (ap (λ (r : Row). r.present) (answer_row chosen s e i h)) ∙ f);
    fits = λ i h. subst (λ (r : Row). Fits r.result) (sym (answer_row chosen s e i h)) (finished_fits chosen.edition m settings_fit i (rows_fit_lem chosen.secure_avic s i));
  }

-- the combined mask, from the table's own rows of D.0 and D.1
mask_of_rows : (t u : CpuidResults) → ((i : ℕ) → i < places → row_in t i ≡ row_in u i) → combined_mask (rows_of_table t) ≡ combined_mask (rows_of_table u)
unfolding combined_mask xfem xss
mask_of_rows t u same =
    ap₂ (λ (a b : Row). bit_or a.result.eax (xss_of b.result)) (same (Place.extended_state 0) (lit< tt)) (same (Place.extended_state 1) (lit< tt))

pub equal_images : EqualImages
equal_images chosen chosen' s s' e e' = (
  λ i.
      let same = rows_told (answer chosen s).table (answer chosen' s').table (accepted_plain chosen s e) (accepted_plain chosen' s' e') i in
      record {
        rows = same;
        mask = answer_mask chosen s e ∙ sym (built_mask chosen s e) ∙ mask_of_rows (answer chosen s).table (answer chosen' s').table same ∙ built_mask chosen' s' e' ∙ sym (answer_mask chosen' s' e');
      },
  λ same. same_image (answer chosen s).table (answer chosen' s').table same.rows,
)
