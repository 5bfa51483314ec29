-- The order of servers as snp_cpuid_compare tells it, the ground of an overview of many servers: an accepted server compares with itself, yes and yes
-- make yes, and two that say yes to each other have one table. So of three servers two answers give the third, and servers fall into classes of one
-- table.
use Rattle.std.specs.Prelude.{◌≡◌, List, ◌↔◌, ℕ}
use Rattle.table.specs.declared.Choices.{Choices}
use Rattle.build.specs.Built.{SameButOrigins}
use Rattle.build.specs.Build.{answer}
use Rattle.theorems.specs.Exported.{built, compare_answer}

pub record CompareOrder (chosen : Choices) : Type 0 where
  pub itself : (a : List ℕ) → (compare_answer chosen a a ≡ 0) ↔ ((built chosen a).number ≡ 0)
  pub composes : (a b c : List ℕ) → compare_answer chosen a b ≡ 0 → compare_answer chosen b c ≡ 0 → compare_answer chosen a c ≡ 0
  pub same : (a b : List ℕ) → compare_answer chosen a b ≡ 0 → compare_answer chosen b a ≡ 0 → SameButOrigins (answer chosen a) (answer chosen b)
