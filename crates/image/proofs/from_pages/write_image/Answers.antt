-- `image::from_pages::write_image` meets its contract: building's refusal, or the table's image written. The combined mask of an accepted table tells
-- which components have a row, and how many bytes the image has.
use mathlib.Core.Path.{ap, ◌∙◌}
use Rattle.buffer.specs.Front.{AfterWrite}
use Rattle.buffer.specs.VerdictLaws.{verdict_accepted}
use Rattle.image.specs.Image.{image}
use Rattle.image.specs.Write.{write}
use Rattle.image.specs.AcceptedLaws.{accepted_components, accepted_length}
use borrow.Author.Rules.{rules}
use Rattle.image.proofs.from_pages.write_image.Goals as goal

pub write_rows-requires : goal.write_rows-requires
write_rows-requires c =
    let a = c.args in
    let k = c.build_into.ensures in let e = c.in_ok-build_into.was in (
      accepted_components a.choices a.pages.now k e c.combined_mask-mask.ensures,
      accepted_length a.choices a.pages.now k e c.combined_mask-mask.ensures (search rules),
    )

pub returns : goal.returns
unfolding write
returns c = let a = c.args in
    let k = c.build_into.ensures in
    let e = verdict_accepted _ a.out.now k.verdict c.in_ok-build_into.was (ap image k.table) in record { value = c.write_rows.ensures.0 ∙ ap (λ (o : AfterWrite). o.answer) e; out_after = c.write_rows.ensures.1 ∙ ap (λ (o : AfterWrite). o.buffer) e }
