-- The same answer: an answer is the same as itself, and the same registers are equal.
use Rattle.std.specs.Prelude.{◌≡◌, refl, Bool, true, false, ℕ, zero, suc, eqb}
use Rattle.std.proofs.Common.{sym, eq-eqb, eqb-true}
use Rattle.bits.specs.ChoiceLaws.{and_both, and_left, and_right}
use Rattle.bits.specs.Search.{every}
use Rattle.x86defs.specs.declared.CpuidResult.{CpuidResult}
use Rattle.masking.specs.Kept.{places}
use Rattle.table.specs.declared.CpuidResults.{CpuidResults}
use Rattle.table.specs.Table.{row_in}
use Rattle.table.specs.declared.numbers.AnswerNumbers.{AnswerNumbers}
use Rattle.nearest.specs.SameVerdict.{agree, same_result, same_rows, same_table, same_numbers}

-- ---- an answer is the same as itself

eqb_same : (n : ℕ) → eqb n n ≡ true
eqb_same n = eq-eqb n n refl

every_all : (test : ℕ → Bool) (n : ℕ) → ((i : ℕ) → test i ≡ true) → every test n ≡ true
every_all test zero h = refl
every_all test (suc n) h = and_both (h n) (every_all test n h)

agree_same : (b : Bool) → agree b b ≡ true
agree_same true = refl
agree_same false = refl

result_same : (r : CpuidResult) → same_result r r ≡ true
unfolding same_result
result_same r = and_both (eqb_same r.eax) (and_both (eqb_same r.ebx) (and_both (eqb_same r.ecx) (eqb_same r.edx)))

pub table_same : (t : CpuidResults) → same_table t t ≡ true
unfolding same_table same_rows
table_same t =
    and_both (eqb_same t.row_count)
    (and_both (eqb_same t.max_extended_state)
    (every_all _ places (λ i. and_both (agree_same (row_in t i).present) (result_same (row_in t i).result))))

pub numbers_same : (n : AnswerNumbers) → same_numbers n n ≡ true
unfolding same_numbers
numbers_same n =
    and_both (eqb_same n.number)
    (and_both (eqb_same n.leaf) (and_both (eqb_same n.has_subleaf) (and_both (eqb_same n.subleaf) (eqb_same n.s))))

-- ---- the same registers are equal

pub result_equal : (a b : CpuidResult) → same_result a b ≡ true → a ≡ b
unfolding same_result
result_equal a b e =
    let f = and_right (eqb a.eax b.eax) _ e in
    let g = and_right (eqb a.ebx b.ebx) _ f in λ k.
    record {
      eax = eqb-true a.eax b.eax (and_left _ _ e) k;
      ebx = eqb-true a.ebx b.ebx (and_left _ _ f) k;
      ecx = eqb-true a.ecx b.ecx (and_left _ _ g) k;
      edx = eqb-true a.edx b.edx (and_right (eqb a.ecx b.ecx) _ g) k;
    }

pub agree_equal : (a b : Bool) → agree a b ≡ true → a ≡ b
agree_equal true b e = sym e
agree_equal false true e = e
agree_equal false false e = refl
