-- May a guest of server A move to server B? What the comparison of two page sets answers.
-- `answer chosen s` is the answer of the definition (crates/build/specs/Build.antt) to the page bytes s under what the caller chooses.
use Rattle.std.specs.Prelude.{List, ℕ, ◌<◌}
use Rattle.table.specs.declared.Choices.{Choices}
use Rattle.masking.specs.Kept.{places}
use Rattle.compare.specs.Compare.{compared}
use Rattle.compare.specs.Means.{Decides}
use Rattle.table.specs.Order.{Precedes}
use Rattle.table.specs.OrderLaws.{places_rise}
use Rattle.compare.proofs.DecidesProof.{decides}
use Rattle.theorems.specs.Exported.{ExportsCompare}
use Rattle.theorems.specs.ExportedProof.{exports_compare}
use Rattle.theorems.specs.CompareOrder.{CompareOrder}
use Rattle.theorems.specs.CompareOrderProof.{compare_order}

-- ---- May a guest of server A move to server B? crates/compare/specs/Compare.antt has the comparison, Means.antt what each answer says.

-- the answer is yes if and only if the hypothesis of demand 3 holds; any other names the first thing that fails
pub comparison_decides : (chosen : Choices) (a b : List ℕ) → Decides chosen a b (compared chosen a b)
comparison_decides = decides

-- the places, which the comparison takes one after another, rise by leaf, then by subleaf, as unsigned numbers. crates/table/specs/Order.antt
pub comparison_in_order : (i j : ℕ) → i < j → j < places → Precedes i j
comparison_in_order = places_rise

-- snp_cpuid_compare answers 0 if and only if the hypothesis holds; what the other exported functions return for B then rises from A's
pub comparison_of_exports : (chosen : Choices) (a b : List ℕ) → ExportsCompare chosen a b
comparison_of_exports = exports_compare

-- and it orders servers: yes to oneself exactly where accepted, yes and yes make yes, yes both ways means the same answer except for origins.
-- crates/theorems/specs/CompareOrder.antt. Servers W, A and B meet it, by `w_to_a` and `b_rises`.
pub comparison_orders : (chosen : Choices) → CompareOrder chosen
comparison_orders = compare_order
