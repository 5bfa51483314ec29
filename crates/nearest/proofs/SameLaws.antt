-- The same answer: an answer is the same as itself, and the same registers are equal.
use Rattle.std.specs.Prelude.{◌≡◌, true}
use Rattle.bits.specs.ChoiceLaws.{and_both}
use Rattle.table.specs.declared.CpuidResults.{CpuidResults}
use Rattle.table.specs.Numbers.{numbers_of}
use Rattle.nearest.specs.SameVerdict.{same_answer}
use Rattle.nearest.specs.SameLaws.{numbers_same, table_same}
use Rattle.table.specs.Verdict.{Verdict}

pub answer_same : {v w : Verdict} {t u : CpuidResults} → v ≡ w → t ≡ u → same_answer v t w u ≡ true
unfolding same_answer
answer_same {v} {w} {t} {u} e f = rw (e, f) (and_both (numbers_same (numbers_of w)) (table_same u))
