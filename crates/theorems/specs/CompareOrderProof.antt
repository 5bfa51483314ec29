-- The exported comparison orders servers, as CompareOrder.antt says.
use Rattle.std.specs.Prelude.{◌≡◌, List, ℕ}
use Rattle.std.proofs.Common.{ap}
use Rattle.table.specs.declared.Choices.{Choices}
use Rattle.build.specs.Build.{answer}
use Rattle.rise.specs.Rise.{RiseHypothesis}
use Rattle.rise.specs.SameProof.{rises_itself}
use Rattle.rise.proofs.SameProof.{same_figures}
use Rattle.rise.proofs.PreorderProof.{rises_compose}
use Rattle.table.specs.Numbers.{numbers_of}
use Rattle.theorems.specs.Exported.{compare_answer}
use Rattle.theorems.specs.ExportedProof.{exports_compare, verdict_numbered}
use Rattle.theorems.specs.CompareOrder.{CompareOrder}
use Rattle.table.specs.Verdict.{Verdict}

pub compare_order : (chosen : Choices) → CompareOrder chosen
compare_order chosen = record {
  itself = λ a. (
    λ e. ap (λ (v : Verdict). (numbers_of v).number) (yes a a e).accepted,
    λ e. (exports_compare chosen a a).complete (rises_itself chosen a (verdict_numbered (answer chosen a).verdict e)),
  );
  composes = λ a b c p q. (exports_compare chosen a c).complete (rises_compose chosen a b c (yes a b p) (yes b c q));
  same = λ a b p q. same_figures chosen a b (yes a b p) (yes b a q);
}
  where
    yes : (a b : List ℕ) → compare_answer chosen a b ≡ 0 → RiseHypothesis chosen a b
    yes a b e = ((exports_compare chosen a b).yes e).0
