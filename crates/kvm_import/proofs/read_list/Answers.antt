-- `kvm_import::read_list` meets its contract: each return is one answer of `read_list`.
use mathlib.Core.Path.{◌≡◌, sym, ap, ◌∙◌}
use mathlib.Core.Bool.{true}
use mathlib.Core.List.{[]}
use lib.ListN.{length}
use native.Mathlib.Omega.{arith}
use Rattle.std.specs.Prelude.{Some, None, is_some}
use Rattle.std.proofs.lemmas.Result.{err_from_is_err_and}
use Rattle.table.specs.declared.Refusal.TheVariants.{ListFields}
use Rattle.kvm_list.specs.Format.{rows_listed}
use Rattle.kvm_import.specs.ListChecks.{fields_lawful, rows_on1}
use Rattle.kvm_import.specs.RowsLeftLaws.{on_either_in}
use Rattle.kvm_import.proofs.ImportLaws.{good_length, read_10, read_12, read_11_0, read_11_1, read_9, read_0}
use Rattle.kvm_import.proofs.read_list.Goals as goal
use Rattle.kvm_import.proofs.read_list.Goals.{In_ok-extended}

-- ---- what is known once the fields are lawful

lawful : (c : In_ok-extended) → fields_lawful c.args.list.now ≡ true
lawful c =
    let there : c.check_rows.result ≡ Some c.in_ok-extended.extended = grind arith in
    sym c.check_rows.ensures.lawful ∙ ap is_some there

counted : (c : In_ok-extended) → c.in_ok-extended.extended ≡ length (rows_on1 (rows_listed c.args.list.now))
counted c =
    let there : c.check_rows.result ≡ Some c.in_ok-extended.extended = grind arith in
    rw there at c.check_rows.ensures.extended

-- ---- the goals

pub returns-then-bad_list_length : goal.returns-then-bad_list_length
returns-then-bad_list_length c =
    let both = read_10 _ _ (sym c.bad_list_length.ensures ∙ c.if-bad_list_length.true) in record { value = both.0; out_after = both.1 }

pub check_rows-requires : goal.check_rows-requires
check_rows-requires c = good_length _ [] (sym c.bad_list_length.ensures ∙ c.if-bad_list_length.false)

pub returns-in_err-extended : goal.returns-in_err-extended
returns-in_err-extended c =
    let p = err_from_is_err_and c.from_residual.result c.from_residual.ensures.1 in
    let none : c.check_rows.result ≡ None = grind arith in
    let refused : p.0 ≡ ListFields = grind (arith, p.2) in
    let both = read_12 _ _ (sym c.bad_list_length.ensures ∙ c.if-bad_list_length.false) (sym c.check_rows.ensures.lawful ∙ ap is_some none) in
    record { value = rw (p.1, refused) both.0; out_after = both.1 }

pub row_count-requires : goal.row_count-requires
row_count-requires c = omega (arith, good_length _ [] (sym c.bad_list_length.ensures ∙ c.if-bad_list_length.false))

pub overflow_sub-others : goal.overflow_sub-others
overflow_sub-others c = omega (arith, counted (goal.at.overflow_sub-others c).In_ok-extended, c.row_count.ensures.0, on_either_in c.args.list.now)

pub returns-then-others-gt-MOST_ENTRIES : goal.returns-then-others-gt-MOST_ENTRIES
returns-then-others-gt-MOST_ENTRIES c =
    let w = (goal.at.returns-then-others-gt-MOST_ENTRIES c).In_ok-extended in
    let both =
    read_11_0 _ _ (sym c.bad_list_length.ensures ∙ c.if-bad_list_length.false) (lawful w)
    (omega (arith, counted w, c.row_count.ensures.0, on_either_in c.args.list.now)) in
    record { value = both.0; out_after = both.1 }

pub returns-then-extended-gt-MOST_ENTRIES : goal.returns-then-extended-gt-MOST_ENTRIES
returns-then-extended-gt-MOST_ENTRIES c =
    let w = (goal.at.returns-then-extended-gt-MOST_ENTRIES c).In_ok-extended in
    let both =
    read_11_1 _ _ (sym c.bad_list_length.ensures ∙ c.if-bad_list_length.false) (lawful w)
    (omega (arith, counted w, c.row_count.ensures.0, on_either_in c.args.list.now)) (omega (arith, counted w)) in
    record { value = both.0; out_after = both.1 }

pub returns-then-out : goal.returns-then-out
returns-then-out c =
    let w = (goal.at.returns-then-out c).In_ok-extended in
    let both =
    read_9 _ _ (sym c.bad_list_length.ensures ∙ c.if-bad_list_length.false) (lawful w)
    (omega (arith, counted w, c.row_count.ensures.0, on_either_in c.args.list.now)) (omega (arith, counted w)) (omega arith) in
    record { value = both.0; out_after = both.1 }

pub put_pages-requires : goal.put_pages-requires
put_pages-requires c =
    let w = (goal.at.put_pages-requires c).In_ok-extended in (
      good_length _ [] (sym c.bad_list_length.ensures ∙ c.if-bad_list_length.false),
      omega (arith, counted w, c.row_count.ensures.0, on_either_in c.args.list.now),
      counted w,
      omega arith,
      omega arith,
      omega arith,
    )

pub returns : goal.returns
returns c =
    let w = (goal.at.returns c).In_ok-extended in
    let both =
    read_0 _ _ (sym c.bad_list_length.ensures ∙ c.if-bad_list_length.false) (lawful w)
    (omega (arith, counted w, c.row_count.ensures.0, on_either_in c.args.list.now)) (omega (arith, counted w)) (omega arith)
    c.put_pages.ensures in
    record { value = both.0; out_after = both.1 }
