-- `kvm_import::list_checks::row_lawful` meets its contract: the flag and the three padding words, in order.
use Rattle.kvm_import.specs.ListRowLaws.{lawful_1, lawful_2, lawful_3, lawful_4}
use Rattle.kvm_import.proofs.list_checks.row_lawful.Goals as goal

pub returns-then-word_at-gt1 : goal.returns-then-word_at-gt1
returns-then-word_at-gt1 c = lawful_1 _ _ c.word_at.ensures c.if-word_at-gt1.true

pub returns-then-word_at-ne0 : goal.returns-then-word_at-ne0
returns-then-word_at-ne0 c = lawful_2 _ _ c.word_at.ensures c.if-word_at-gt1.false c.word_at-2.ensures c.if-word_at-ne0.true

pub returns-then-word_at-ne0-2 : goal.returns-then-word_at-ne0-2
returns-then-word_at-ne0-2 c =
    lawful_3 _ _ c.word_at.ensures c.if-word_at-gt1.false c.word_at-2.ensures c.if-word_at-ne0.false
    c.word_at-3.ensures c.if-word_at-ne0-2.true

pub returns : goal.returns
returns c =
    lawful_4 _ _ c.word_at.ensures c.if-word_at-gt1.false c.word_at-2.ensures c.if-word_at-ne0.false
    c.word_at-3.ensures c.if-word_at-ne0-2.false c.word_at-4.ensures
