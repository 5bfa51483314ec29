-- `carry::clear_bits` meets its contract: its two stores are those of the definition.
use mathlib.Core.Path.{ap, ◌∙◌}
use Rattle.bits.specs.Choice.{pick}
use Rattle.x86defs.specs.declared.CpuidResult.{CpuidResult}
use Rattle.carry.specs.Carry.{without_bits}
use Rattle.carry.proofs.InPlaceLaws.{stored}
use Rattle.carry.proofs.clear_bits.Goals as goal

pub returns : goal.returns
returns c =
    stored c.args.registers.now c.args.origins.now c.told-registers c.args.bits c.args.keep c.is_there.ensures c.is_there-2.ensures
    (c.clear_ecx-cleared.ensures
    ∙ ap (λ (q : CpuidResult). pick c.is_there.result (without_bits c.args.keep c.args.bits.version_ecx q) q) c.row_at-version.ensures)
    (c.clear_ecx-cleared-2.ensures
    ∙ ap (λ (q : CpuidResult). pick c.is_there-2.result (without_bits c.args.keep c.args.bits.extended_version_ecx q) q) c.row_at-extended.ensures)
    c.put_row.ensures c.put_row-2.ensures
