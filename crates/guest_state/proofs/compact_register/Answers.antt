-- `guest_state::compact_register` meets its contract: the size where either bit is set, else 0.
use mathlib.Core.Path.{◌≡◌, sym, ap, ap₂, ◌∙◌}
use mathlib.Core.Bool.{◌||◌}
use Rattle.bits.specs.ChoiceLaws.{pick_true, pick_false}
use Rattle.x86defs.specs.declared.CpuidResult.{CpuidResult}
use Rattle.table.specs.Rows.{Rows}
use Rattle.masking.specs.Place
use Rattle.guest_state.specs.State.{compacts, compact_register}
use Rattle.guest_state.specs.InUse.{read_rows}
use Rattle.guest_state.proofs.compact_register.Goals as goal
use Rattle.guest_state.proofs.compact_register.Goals.{After-xsave_s, Start}

abbrev rows : Start → Rows
rows c = read_rows c.args.absent_as_zero c.args.registers.now c.args.origins.now

found : (c : After-xsave_s)
    → (c.xsave_c.result || c.xsave_s.result) ≡ compacts (rows c.before.before.before (Place.extended_state 1)).result.eax
unfolding compacts
found c =
    ap₂ ◌||◌ c.xsave_c.ensures c.xsave_s.ensures ∙ ap (λ (q : CpuidResult). compacts q.eax) c.read_row-subleaf1.ensures

pub returns-then-xsave_c-xsave_s : goal.returns-then-xsave_c-xsave_s
unfolding compact_register
returns-then-xsave_c-xsave_s c =
    c.compact_size.ensures ∙ sym (pick_true _ _ (sym (found (goal.at.returns-then-xsave_c-xsave_s c).After-xsave_s) ∙ c.if-xsave_c-xsave_s.true))

pub returns : goal.returns
unfolding compact_register
returns c = sym (pick_false _ _ (sym (found (goal.at.returns c).After-xsave_s) ∙ c.if-xsave_c-xsave_s.false))
