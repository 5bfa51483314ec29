-- `nearest::search::irrelevant::check_unflipped` meets its contract: field by field.
use mathlib.Core.Path.{sym, ap, ◌∙◌}
use Rattle.memory.specs.Held.{mask_held_lem}
use Rattle.checks.specs.Checks.{invlpgb_of, required_verdict, invlpgb_verdict}
use Rattle.nearest.specs.Irrelevant.{refuses, unflipped_in}
use Rattle.nearest.proofs.search.irrelevant.check_unflipped.Goals as goal

pub returns : goal.returns
unfolding unflipped_in required_verdict invlpgb_verdict
returns c =
    λ k.
    record {
      missing = (c.is_refused.ensures ∙ ap refuses c.validate_required.ensures) k;
      clear = (c.is_refused-2.ensures ∙ ap refuses (c.validate_invlpgb.ensures ∙ ap invlpgb_of c.row_at-sizes.ensures)) k;
      mask = (c.combined_mask.ensures ∙ sym (mask_held_lem c.args.registers.now c.args.origins.now)) k;
      checked = c.check_rows.ensures k;
    }
