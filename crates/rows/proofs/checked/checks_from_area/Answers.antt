-- `checks_from_area` meets its contract: refused where the area is too large, or what the topology says.
use native.Mathlib.Omega.{arith}
use mathlib.Core.Path.{◌≡◌, ap, ◌∙◌}
use Rattle.x86defs.specs.declared.CpuidResult.{CpuidResult}
use Rattle.memory.specs.Memory.{rows_in}
use Rattle.checks.specs.ExtendedState.{xfem, save_area, size_of}
use Rattle.checks.specs.Checks.{size_verdict, area_verdict, topology_verdict}
use Rattle.rows.specs.Checked.{registers_in}
use Rattle.rows.specs.CheckedLaws.{area_verdict_lem, area_found, check_refuses, check_passes}
use Rattle.rows.proofs.checked.checks_from_area.Goals as goal
use Rattle.rows.proofs.checked.checks_from_area.Goals.{After-xsave_size, Start}
use Rattle.std.proofs.lemmas.Result.{err_from_is_err_and}
use Rattle.std.specs.Prelude.{Some, None}
use Rattle.table.specs.declared.Refusal.TheVariants.{SaveAreaOverflow}

-- the size that the code found is the definition's
found : (c : After-xsave_size)
    → c.xsave_size.result
    ≡ size_of (save_area (registers_in c.args.registers.now) (xfem (rows_in c.args.registers.now c.args.origins.now)))
unfolding xfem
found c =
    c.xsave_size.ensures
    ∙ ap (λ (r : CpuidResult). size_of (save_area (registers_in c.args.registers.now) r.eax)) c.row_at-subleaf0.ensures

pub returns-in_err-size : goal.returns-in_err-size
returns-in_err-size c =
    let w = c.args.registers.now in let o = c.args.origins.now in let m = rows_in w o in
    let p = err_from_is_err_and c.from_residual.result c.from_residual.ensures.1 in
    let none : c.xsave_size.result ≡ None = grind arith in
    let over : p.0 ≡ SaveAreaOverflow = grind (arith, p.2) in
    rw (p.1, over)
    (check_refuses m (area_verdict m) (topology_verdict m) (area_verdict_lem w o (found (goal.at.returns-in_err-size c).After-xsave_size)) (ap size_verdict none))

pub check_topology-requires : goal.check_topology-requires
check_topology-requires c =
    let w = goal.at.check_topology-requires c in
    let there : c.xsave_size.result ≡ Some c.in_ok-size.size = grind arith in
    (w.Start.requires, area_found c.args.registers.now c.args.origins.now (found w.After-xsave_size) there)

pub returns : goal.returns
returns c =
    let w = c.args.registers.now in let o = c.args.origins.now in let m = rows_in w o in
    let there : c.xsave_size.result ≡ Some c.in_ok-size.size = grind arith in
    check_passes m (area_verdict m) (topology_verdict m) (area_verdict_lem w o (found (goal.at.returns c).After-xsave_size)) (ap size_verdict there) c.check_topology.ensures
