-- What each answer of a comparison says of the two page sets.
use Rattle.std.specs.Prelude.{◌≡◌, List, ℕ, Err, Ok}
use Rattle.table.specs.declared.Choices.{Choices}
use Rattle.finish.specs.Kinds.{EntryAtLeast}
use Rattle.build.specs.Build.{rows_for, answer}
use Rattle.collect.specs.Lawful.{lawful_verdict}
use Rattle.rise.specs.Rise.{RiseConclusion, RiseHypothesis as Hypothesis}
use Rattle.rise.specs.Decide.{in_table}
use Rattle.compare.specs.declared.search.RowsCompared.TheVariants.{NoRow, Differs as RowDiffers}
use Rattle.compare.specs.RowsMean.{Sides, First}
use Rattle.compare.specs.declared.Compared.{Compared}
use Rattle.compare.specs.declared.Compared.TheVariants.{Rises, RefusedA, UnlawfulB, NoEntry, Differs}
use Rattle.compare.specs.Compare.{asked_rows}

-- A is accepted and B's pages are lawful
pub record Stand (chosen : Choices) (a b : List ℕ) : Type 0 where
  pub accepted : (answer chosen a).verdict ≡ Ok tt
  pub lawful : lawful_verdict b ≡ Ok tt

-- the rows of A's table that come from an entry, beside B's entries, of which there may be more
abbrev pub servers : Choices → List ℕ → List ℕ → Sides
servers chosen a b = record {
  A = asked_rows (in_table chosen a) (rows_for chosen a);
  B = rows_for chosen b;
  AtLeast = EntryAtLeast;
  MayStand = λ i. Unit {0};
  MasksRise = Unit {0};
}

-- a yes says that the hypothesis of demand 3 holds, and with the theorem what B's table will have
abbrev pub AnswerMeans : Choices → List ℕ → List ℕ → Compared → Type 0
AnswerMeans chosen a b Rises = Hypothesis chosen a b × RiseConclusion chosen a b
AnswerMeans chosen a b (RefusedA r) = (answer chosen a).verdict ≡ Err r
AnswerMeans chosen a b (UnlawfulB r) = ((answer chosen a).verdict ≡ Ok tt) × (lawful_verdict b ≡ Err r)
AnswerMeans chosen a b (NoEntry leaf subleaf) = Stand chosen a b × First (servers chosen a b) (NoRow leaf subleaf)
AnswerMeans chosen a b (Differs leaf subleaf register) = Stand chosen a b × First (servers chosen a b) (RowDiffers leaf subleaf register)

-- The answer means what it says, and no other answer does: it is c if and only if Means .. c holds. So it is yes if and only if the
-- hypothesis holds.
pub record Decides (chosen : Choices) (a b : List ℕ) (r : Compared) : Type 0 where
  pub means : AnswerMeans chosen a b r
  pub exact : (c : Compared) → AnswerMeans chosen a b c → r ≡ c
  pub complete : Hypothesis chosen a b → r ≡ Rises
