-- `collect::walk_pages` meets its contract: one return a case of the verdict, and where the pages are lawful, what the walk left in the arrays.
use mathlib.Core.Path.{◌≡◌, sym, ap, ◌∙◌}
use Rattle.collect.specs.Lawful.{clean_verdict, lawful_verdict}
use Rattle.collect.proofs.LawfulLaws.{lawful_bad_length, lawful_bad_count, lawful_reserved}
use Rattle.collect.specs.WalkedPages.{refused_walk}
use Rattle.collect.proofs.WalkedPages.{walk_unmasked, accepted_walk}
use Rattle.collect.proofs.walk_pages.Goals as goal
use Rattle.collect.proofs.walk_pages.Goals.{After-collect_into-walked}
use Rattle.std.specs.Prelude.{Ok}

pub returns-then-bad_length : goal.returns-then-bad_length
returns-then-bad_length c = refused_walk _ _ (lawful_bad_length _ (sym c.bad_length.ensures ∙ c.if-bad_length.true)) c.requires

pub returns-in-Err : goal.returns-in-Err
returns-in-Err c =
    refused_walk _ _
    (ap clean_verdict (sym c.in-Err.is)
    ∙ lawful_reserved _ (sym c.bad_length.ensures ∙ c.if-bad_length.false) (sym c.counts_fit.ensures ∙ c.if-counts_fit.true) c.collect_into-walked.ensures.answer)
    c.clear.ensures

-- the walk came to its end
lawful : (c : After-collect_into-walked) → (Ok tt) ≡ clean_verdict c.collect_into-walked.result → (Ok tt) ≡ lawful_verdict c.args.pages.now
lawful c e =
    e
    ∙ lawful_reserved _ (sym c.bad_length.ensures ∙ c.if-bad_length.false) (sym c.counts_fit.ensures ∙ c.if-counts_fit.true) c.collect_into-walked.ensures.answer

pub mask_rows-requires : goal.mask_rows-requires
mask_rows-requires c =
    walk_unmasked _ _ _ (lawful (goal.at.mask_rows-requires c).After-collect_into-walked (ap clean_verdict (sym c.in_default.is))) c.collect_into-walked.ensures

pub returns-then-counts_fit : goal.returns-then-counts_fit
returns-then-counts_fit c =
    accepted_walk _ _ _ (lawful (goal.at.returns-then-counts_fit c).After-collect_into-walked (ap clean_verdict (sym c.in_default.is)))
    c.collect_into-walked.ensures _ _ c.mask_rows.ensures

pub returns : goal.returns
returns c =
    refused_walk _ _ (lawful_bad_count _ (sym c.bad_length.ensures ∙ c.if-bad_length.false) (sym c.counts_fit.ensures ∙ c.if-counts_fit.false))
    c.requires
