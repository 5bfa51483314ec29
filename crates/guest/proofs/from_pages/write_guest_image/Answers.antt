-- `guest::from_pages::write_guest_image` meets its contract: a refusal, or the image of the guest's table written.
use mathlib.Core.Path.{ap, ◌∙◌}
use Rattle.buffer.specs.Front.{AfterWrite}
use Rattle.buffer.specs.VerdictLaws.{verdict_refused, verdict_accepted}
use Rattle.image.specs.Image.{image}
use Rattle.guest.specs.GuestPages.{write_guest}
use Rattle.guest.proofs.from_pages.write_guest_image.Goals as goal
use Rattle.std.proofs.lemmas.Result.{err_from_is_err_and}

pub returns-in_err-guest_pages : goal.returns-in_err-guest_pages
unfolding write_guest
returns-in_err-guest_pages c =
    let p = err_from_is_err_and c.from_residual.result c.from_residual.ensures.1 in
    let e = verdict_refused _ c.args.out.now c.guest_pages.ensures.verdict c.in_err-guest_pages.was in record { value = rw (p.1, p.2) (ap (λ (o : AfterWrite). o.answer) e); out_after = ap (λ (o : AfterWrite). o.buffer) e }

pub returns : goal.returns
unfolding write_guest
returns c = let e = verdict_accepted _ c.args.out.now c.guest_pages.ensures.verdict c.in_ok-guest_pages.was (ap image c.guest_pages.ensures.table) in record { value = c.write_table.ensures.0 ∙ ap (λ (o : AfterWrite). o.answer) e; out_after = c.write_table.ensures.1 ∙ ap (λ (o : AfterWrite). o.buffer) e }
