-- `kvm_import::list_checks::check_rows` meets its contract. The invariant: the rows that are left decide over the fields, and with `extended` make
-- the count of leaf Dh's rows.
use mathlib.Core.Path.{sym, ap, ◌∙◌}
use native.Mathlib.Omega.{arith}
use lib.ListN.{length}
use Rattle.bits.specs.Lists.{one}
use Rattle.kvm_import.specs.ListChecks.{rows_on1}
use Rattle.bits.specs.TestLaws.{from_bool_one, from_bool_few}
use Rattle.kvm_import.specs.RowsLeftLaws.{left_all, left_none, on1_none, extended_more, fields_bad, fields_head, lawful_next, lawful_stops, lawful_ends}
use Rattle.kvm_import.proofs.list_checks.check_rows.Goals as goal

pub returns-then-word_at-ne0 : goal.returns-then-word_at-ne0
returns-then-word_at-ne0 c = record { lawful = fields_bad _ c.word_at.ensures c.if-word_at-ne0.true; extended = tt }

pub loop-q-init : goal.loop-q-init
loop-q-init c =
    let l = c.args.list.now in record {
      few = omega arith;
      lawful = fields_head l c.word_at.ensures c.if-word_at-ne0.false;
      counted = omega (arith, ap (λ rs. length (rows_on1 rs)) (left_all l));
    }

pub loop-q-preserved : goal.loop-q-preserved
loop-q-preserved c =
    let l = c.loop-q in
    let list = c.args.list.now in
    let e = c.from-extended.ensures ∙ from_bool_one _ ∙ ap one c.is_extended_state.ensures in record {
      few = omega (arith, c.from-extended.ensures, from_bool_few c.is_extended_state.result);
      lawful = sym (lawful_next list l.q (omega arith) (sym c.row_lawful.ensures ∙ c.if-not-row_lawful.false)) ∙ l.invariant.lawful;
      counted = omega (arith, e, extended_more list l.q (omega arith), l.invariant.counted);
    }

pub returns-then-not-row_lawful : goal.returns-then-not-row_lawful
returns-then-not-row_lawful c =
    let l = c.loop-q in record {
      lawful = sym (lawful_stops _ l.q (omega arith) (sym c.row_lawful.ensures ∙ c.if-not-row_lawful.true)) ∙ l.invariant.lawful;
      extended = tt;
    }

pub returns : goal.returns
returns c =
    let l = c.loop-q in
    let list = c.args.list.now in record {
      lawful = sym (lawful_ends list l.q (omega arith)) ∙ l.invariant.lawful;
      extended = omega (arith, l.invariant.counted, ap (λ rs. length (rows_on1 rs)) (left_none list l.q (omega arith)), ap length on1_none);
    }
