-- `kvm_export::write_list` meets its contract: building's refusal, or the table's list written.
use mathlib.Core.Path.{ap, ◌∙◌}
use Rattle.buffer.specs.Front.{AfterWrite}
use Rattle.buffer.specs.VerdictLaws.{verdict_refused, verdict_accepted}
use Rattle.kvm_export.specs.Export.{list_of, write_list}
use Rattle.kvm_export.proofs.write_list.Goals as goal
use Rattle.std.proofs.lemmas.Result.{err_from_is_err_and}

pub returns-in_err-build_into : goal.returns-in_err-build_into
unfolding write_list
returns-in_err-build_into c =
    let p = err_from_is_err_and c.from_residual.result c.from_residual.ensures.1 in
    let e = verdict_refused _ c.args.out.now c.build_into.ensures.verdict c.in_err-build_into.was in record { value = rw (p.1, p.2) (ap (λ (o : AfterWrite). o.answer) e); out_after = ap (λ (o : AfterWrite). o.buffer) e }

pub returns : goal.returns
unfolding write_list
returns c = let e = verdict_accepted _ c.args.out.now c.build_into.ensures.verdict c.in_ok-build_into.was (ap list_of c.build_into.ensures.table) in record { value = c.write_table.ensures.0 ∙ ap (λ (o : AfterWrite). o.answer) e; out_after = c.write_table.ensures.1 ∙ ap (λ (o : AfterWrite). o.buffer) e }
