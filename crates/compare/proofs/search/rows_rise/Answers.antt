-- `compare::search::rows_rise` meets its contract: the test by masks is the one by kinds, since registers have 32 bits.
use mathlib.Core.Path.{◌≡◌, ap, ◌∙◌}
use mathlib.Core.Bool.{Bool}
use native.Mathlib.Omega.{arith}
use Rattle.x86defs.specs.declared.CpuidResult.{CpuidResult}
use Rattle.table.specs.Fits.{Fits}
use Rattle.compare.specs.declared.registers.RegistersRise.{RegistersRise}
use Rattle.compare.specs.ByMasks.{passes_by, with_ecx, agreed_in, area_test}
use Rattle.compare.proofs.ByMasks.{rows_by_kind}
use Rattle.compare.proofs.search.rows_rise.Goals as goal
use Rattle.compare.proofs.search.rows_rise.Goals.{Start}

first_fits : (c : Start) → Fits c.args.a
first_fits c = record { eax = omega arith; ebx = omega arith; ecx = omega arith; edx = omega arith }

second_fits : (c : Start) → Fits c.args.b
second_fits c = record { eax = omega arith; ebx = omega arith; ecx = omega arith; edx = omega arith }

pub returns : goal.returns
returns c =
    let found : c.registers_rise-rise.result ≡ passes_by c.masks_at-masks.result.features (agreed_in c.args.asked c.masks_at-masks.result) c.args.a c.args.b =
    c.registers_rise-rise.ensures ∙ ap (λ (n : CpuidResult). passes_by c.masks_at-masks.result.features n c.args.a c.args.b) c.agreed_bits.ensures in
    ap (λ (e : Bool). with_ecx e c.registers_rise-rise.result) c.area_rises.ensures
    ∙ ap (λ (r : RegistersRise). with_ecx (area_test c.args.asked c.args.place c.args.a.ecx c.args.b.ecx r.ecx) r) found
    ∙ rows_by_kind c.args.place c.requires c.args.a c.args.b c.masks_at-masks.result (first_fits (goal.at.returns c).Start) (second_fits (goal.at.returns c).Start) c.masks_at-masks.ensures c.args.asked
