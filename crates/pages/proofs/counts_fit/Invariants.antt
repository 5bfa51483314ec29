-- `pages::counts_fit` meets its contract. The loop's invariant: the counts of the pages passed fit.
use Rattle.std.proofs.Common.{◌≡◌, true}
use Rattle.pages.specs.LayoutLaws.{counts_fit_to}
use Rattle.pages.proofs.counts_fit.Given as goal

abbrev pub invariant-loop-p : goal.invariant-loop-p
invariant-loop-p l = counts_fit_to l.pages l.p ≡ true
