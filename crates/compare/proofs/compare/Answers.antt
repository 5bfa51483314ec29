-- `compare::compare` meets its contract: one return a case of the comparison.
use mathlib.Core.Path.{◌≡◌, sym, ◌∙◌}
use Rattle.memory.specs.Memory.{rows_in}
use Rattle.build.specs.Build.{rows_for, answer}
use Rattle.build.proofs.BuildLaws.{front_refused}
use Rattle.build.specs.InMemoryLaws.{rows_held}
use Rattle.build.proofs.InMemoryLaws.{finished_verdict, answer_in_memory}
use Rattle.compare.specs.declared.search.Asked.TheVariants.{Entries}
use Rattle.compare.specs.RowsCompared.{wanted_by, rows_compared}
use Rattle.compare.specs.CompareLaws.{asked}
use Rattle.compare.proofs.CompareLaws.{refused_a, lawful_b, unlawful_b, rows_compared_lem}
use Rattle.compare.proofs.DecidesProof.{decided}
use Rattle.compare.proofs.compare.Goals as goal
use Rattle.compare.proofs.compare.Goals.{After-compare_rows, In_default-lawful, In_default-verdict}
use Rattle.std.specs.Prelude.{Ok}

pub returns-in-Err : goal.returns-in-Err
returns-in-Err c = let both = decided _ _ _ (refused_a _ _ _ (front_refused _ _ (sym c.rows_into-front.ensures.verdict ∙ c.in-Err.is))) in record { value = both.0; decides = both.1 }

pub returns-in-Err-verdict : goal.returns-in-Err-verdict
returns-in-Err-verdict c = let both = decided _ _ _
    (refused_a _ _ _
    (finished_verdict _ _ _ _ c.rows_into-front.ensures c.in_default.is c.finish_rows-verdict.ensures ∙ c.in-Err-verdict.is)) in record { value = both.0; decides = both.1 }

-- where A is accepted
accepted : (c : In_default-verdict)
    → (answer c.args.choices c.args.a.now).verdict ≡ Ok tt
accepted c =
    finished_verdict _ _ _ _ c.rows_into-front.ensures c.in_default.is c.finish_rows-verdict.ensures ∙ c.in_default-verdict.is

pub returns-in-Err-lawful : goal.returns-in-Err-lawful
returns-in-Err-lawful c = let both = decided _ _ _
    (unlawful_b _ _ _ (accepted (goal.at.returns-in-Err-lawful c).In_default-verdict) (lawful_b _ _ _ (accepted (goal.at.returns-in-Err-lawful c).In_default-verdict) c.rows_into-lawful.ensures.verdict ∙ c.in-Err-lawful.is)) in record { value = both.0; decides = both.1 }

rows-of-b : (e : In_default-lawful) → rows_in e.rows_into-lawful.new.registers e.rows_into-lawful.new.origins
    ≡ rows_for e.args.choices e.args.b.now
rows-of-b e = rows_held _ _ _ _ e.rows_into-lawful.ensures e.in_default-lawful.is

-- the rows of A's table are asked, in A's entries and in B's
rows-searched : (s : After-compare_rows) →
    s.compare_rows.result
    ≡ rows_compared (wanted_by Entries) (rows_in s.rows_into-front.new.registers (asked s.finish_rows-verdict.new.origins))
    (rows_in s.rows_into-lawful.new.registers s.rows_into-lawful.new.origins)
rows-searched s = s.compare_rows.ensures

pub returns : goal.returns
returns c = let both = decided _ _ _
    (rows_compared_lem _ _ _ (accepted (goal.at.returns c).In_default-verdict) (lawful_b _ _ _ (accepted (goal.at.returns c).In_default-verdict) c.rows_into-lawful.ensures.verdict ∙ c.in_default-lawful.is)
    c.finish_rows-verdict.new.registers c.finish_rows-verdict.new.origins c.rows_into-front.new.registers c.rows_into-front.new.origins
    c.rows_into-lawful.new.registers c.rows_into-lawful.new.origins
    (answer_in_memory _ _ _ _ c.rows_into-front.ensures c.in_default.is c.finish_rows-verdict.ensures c.in_default-verdict.is).table
    (rows_held _ _ _ _ c.rows_into-front.ensures c.in_default.is) (rows-of-b (goal.at.returns c).In_default-lawful) (rows-searched (goal.at.returns c).After-compare_rows) c.entries_named.ensures) in record { value = both.0; decides = both.1 }
