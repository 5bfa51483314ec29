-- `nearest::search::decisive::first_bit` meets its contract: at an irrelevant place no bit decides; else the bits passed keep the answer, and the memory that
-- they are tried in has all other rows.
use native.Mathlib.Omega.{arith}
use mathlib.Core.Path.{◌≡◌, refl, sym, ap, ◌∙◌}
use Rattle.table.specs.Rows.{Rows}
use Rattle.memory.specs.Memory.{rows_in}
use Rattle.nearest.specs.declared.search.irrelevant.Unflipped.{Unflipped}
use Rattle.nearest.specs.SameVerdict.{same_from}
use Rattle.nearest.specs.WithRow.{with_row}
use Rattle.nearest.specs.WithRowLaws.{stored_rows, stored_all_but}
use Rattle.nearest.specs.Irrelevant.{irrelevant, unflipped_in, irrelevant_by}
use Rattle.nearest.specs.SearchReturnLaws.{irrelevant_found, relevant_required}
use Rattle.nearest.specs.BitLaws.{keeps}
use Rattle.nearest.proofs.BitLaws.{keeps_found, bit_first, bit_passes, bit_stops, bit_ends, bit_irrelevant}
use Rattle.nearest.proofs.search.decisive.first_bit.Goals as goal
use Rattle.nearest.proofs.search.decisive.first_bit.Goals.{After-is_irrelevant, After-keeps_answer, After-put_row}

-- whether the place is irrelevant at the unchanged rows
judged : (c : After-is_irrelevant) → irrelevant (rows_in c.args.registers.now c.args.origins.now) c.args.place ≡ c.is_irrelevant.result
judged c =
    sym (irrelevant_found (rows_in c.args.registers.now c.args.origins.now) c.args.place)
    ∙ ap (λ (q : Unflipped). irrelevant_by q c.args.place) (sym c.requires.2)
    ∙ sym c.is_irrelevant.ensures

pub returns-then-is_irrelevant : goal.returns-then-is_irrelevant
returns-then-is_irrelevant c =
    bit_irrelevant _ (rows_in c.args.registers.now c.args.origins.now) _ _ _ c.requires.1
    (judged (goal.at.returns-then-is_irrelevant c).After-is_irrelevant ∙ c.if-is_irrelevant.true)

pub loop-n-init : goal.loop-n-init
loop-n-init c = (bit_first _ _ _ _ _, record { size = c.told-registers; rows = λ x. refl })

-- a turn, once its row is stored
stored : (c : After-put_row)
    → rows_in c.put_row.new.registers c.args.origins.now
    ≡ with_row c.args.place c.masked_at-row.result (rows_in c.args.registers.now c.args.origins.now)
stored c =
    stored_rows c.args.origins.now c.args.place c.requires.0 c.requires.1 _ c.loop-n.invariant.1 c.put_row.ensures

pub keeps_answer-requires : goal.keeps_answer-requires
unfolding unflipped_in
keeps_answer-requires c = (
  record {
    small = c.requires.0;
    present = c.requires.1;
    required =
        relevant_required (rows_in c.args.registers.now c.args.origins.now) c.args.place
        (judged (goal.at.keeps_answer-requires c).After-is_irrelevant ∙ c.if-is_irrelevant.false);
    tried = c.masked_at-row.result;
    changed = stored (goal.at.keeps_answer-requires c).After-put_row;
  },
  ap (λ (q : Unflipped). q.checked) c.requires.2,
)

-- what is found of its bit
found : (c : After-keeps_answer)
    → c.keeps_answer.result ≡ keeps c.args.edition (rows_in c.args.registers.now c.args.origins.now) c.args.kept c.args.place c.args.x c.loop-n.n
found c =
    keeps_found _ _ _ _ _ c.loop-n.n c.flip_bit.ensures c.masked_at-row.ensures
    (c.keeps_answer.ensures
    ∙ ap (λ (q : Rows). same_from c.args.edition q (rows_in c.args.registers.now c.args.origins.now))
    (stored_rows c.args.origins.now c.args.place c.requires.0 c.requires.1 _ c.loop-n.invariant.1 c.put_row.ensures))

pub loop-n-preserved : goal.loop-n-preserved
loop-n-preserved c = (
  c.loop-n.invariant.0
      ∙ bit_passes _ _ _ _ _ c.loop-n.n (omega arith) (sym (found (goal.at.loop-n-preserved c).After-keeps_answer) ∙ c.if-not-keeps_answer.false),
  stored_all_but c.args.origins.now c.args.place c.requires.0 c.requires.1 _ c.loop-n.invariant.1 c.put_row.ensures,
)

pub returns-then-not-keeps_answer : goal.returns-then-not-keeps_answer
returns-then-not-keeps_answer c =
    sym (c.loop-n.invariant.0
    ∙ bit_stops _ _ _ _ _ c.loop-n.n (omega arith) (sym (found (goal.at.returns-then-not-keeps_answer c).After-keeps_answer) ∙ c.if-not-keeps_answer.true))

pub returns : goal.returns
returns c = sym (c.loop-n.invariant.0 ∙ bit_ends _ _ _ _ _ c.loop-n.n c.loop-n-test.false)
