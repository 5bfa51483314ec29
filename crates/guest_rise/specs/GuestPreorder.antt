-- Guest tables are ordered as tables are (crates/rise/specs/Preorder.antt), P3's exception included: each rises to itself, and rises compose. Where
-- A's D.1.EAX has bit 1 or bit 3, so has B's, and the exception does not arise on the way.
use Rattle.std.specs.Prelude.{◌≡◌, refl, ◌⊎◌, ℕ, ◌<◌}
use Rattle.std.proofs.Common.{◌∙◌, inl, inr, ⊎_elim}
use Rattle.bits.specs.BitsLaws.{within_refl, within_trans}
use Rattle.masking.specs.Place
use Rattle.table.specs.declared.CpuidResults.{CpuidResults}
use Rattle.table.specs.Table.{row_in}
use Rattle.finish.specs.Kinds.{kinds_at}
use Rattle.rise.specs.PreorderProof.{registers_itself, registers_compose, further_composes_first, further_composes_second}
use Rattle.guest_rise.specs.GuestRise.{compacts_in, GuestTableRises}
use Rattle.guest_rise.specs.StateExactlyProof.{compacts_mono}

pub guest_rises_itself : (t : CpuidResults) → GuestTableRises t t
guest_rises_itself t = record {
  rows = λ i l p. p;
  registers = λ i l p c. registers_itself (kinds_at i) (row_in t i).result;
  xsave_eax = within_refl _;
  xsave_ecx = within_refl _;
  xsave_edx = refl;
  others = λ i l p. inl p;
  mask = within_refl _;
}

module _ (t u v : CpuidResults) (p : GuestTableRises t u) (q : GuestTableRises u v) where
  pub guest_rises_compose : GuestTableRises t v
  guest_rises_compose = record {
    rows = λ i l e. q.rows i l (p.rows i l e);
    registers = λ i l e c.
        registers_compose (kinds_at i) _ _ _ (p.registers i l e c) (q.registers i l (p.rows i l e) (λ at. compacts_mono p.xsave_eax (c at)));
    xsave_eax = within_trans p.xsave_eax q.xsave_eax;
    xsave_ecx = within_trans p.xsave_ecx q.xsave_ecx;
    xsave_edx = p.xsave_edx ∙ q.xsave_edx;
    others = λ i l e.
        ⊎_elim (λ d. ⊎_elim (λ c. inl c) (λ f. inr (further_composes_first t u v q.mask i f)) (p.others i l d))
        (λ f. inr (further_composes_second t u v p.mask i f)) (q.others i l e);
    mask = within_trans p.mask q.mask;
  }
