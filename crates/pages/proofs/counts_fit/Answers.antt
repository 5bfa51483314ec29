-- `pages::counts_fit` meets its contract. The loop's invariant: the counts of the pages passed fit.
use Rattle.std.proofs.Common.{sym, arith}
use Rattle.pages.specs.LayoutLaws.{counts_fit_none, counts_fit_more, counts_fit_all, counts_fit_not}
use Rattle.pages.proofs.counts_fit.Goals as goal

pub loop-p-init : goal.loop-p-init
loop-p-init c = counts_fit_none _

pub returns-then-count_of-gt-MOST_ENTRIES : goal.returns-then-count_of-gt-MOST_ENTRIES
returns-then-count_of-gt-MOST_ENTRIES c = sym (counts_fit_not _ c.loop-p.p (omega arith) (omega arith))

pub loop-p-preserved : goal.loop-p-preserved
loop-p-preserved c = counts_fit_more _ _ c.loop-p.invariant (omega arith)

pub returns : goal.returns
returns c = sym (counts_fit_all _ c.loop-p.p c.loop-p.invariant (omega arith))
