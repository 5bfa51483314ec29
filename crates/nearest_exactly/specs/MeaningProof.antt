-- A flip changes nothing exactly where verdict and table of the two answers are equal.
use Rattle.std.specs.Prelude.{◌≡◌, refl, Bool, true, false, not, List, ◌↔◌, ℕ, ◌<◌, eqb, length, get_or, Err, None, Ok, Option, Some}
use Rattle.std.proofs.Common.{sym, ap, ◌∙◌, eqb-true, ne_eqb}
use Rattle.std.proofs.lemmas.List.{length-replicate}
use Rattle.bits.specs.Choice.{pick}
use Rattle.bits.specs.ChoiceLaws.{never_both, and_left, and_right, pick_false}
use Rattle.bits.specs.SearchLaws.{every_at}
use Rattle.bits.specs.ListsLaws.{tabulated, length_tabulate}
use Rattle.x86defs.specs.Functions.{cpuid_result}
use Rattle.masking.specs.Kept.{places}
use Rattle.table.specs.declared.Choices.{Choices}
use Rattle.table.specs.declared.CpuidResults.{CpuidResults}
use Rattle.table.specs.Refusal.{Details, details, refusal_with}
use Rattle.table.specs.RefusalLaws.{refusal_told}
use Rattle.table.proofs.RefusalLaws.{refusal_numbered}
use Rattle.table.specs.Rows.{Rows}
use Rattle.table.specs.Table.{row_in}
use Rattle.finish.specs.RowsBuilt.{table_for}
use Rattle.build.specs.Build.{rows_for, verdict_of, answer}
use Rattle.table.specs.declared.numbers.AnswerNumbers.{AnswerNumbers}
use Rattle.table.specs.Numbers.{named, subleaf_or0, detail_numbers, numbers_of}
use Rattle.nearest.specs.declared.flips.Flip.{Flip}
use Rattle.nearest.specs.Flips.{flipped}
use Rattle.nearest.specs.SameVerdict.{agree, is_same_row, same_rows, same_table, same_numbers, same_verdict, same_answer}
use Rattle.nearest.specs.SameLaws.{agree_equal, result_equal}
use Rattle.nearest.proofs.SameLaws.{answer_same}
use Rattle.nearest.specs.Changes.{changes}
use Rattle.nearest_exactly.specs.Meaning.{Unchanged}
use Rattle.table.specs.Verdict.{Verdict}

-- ---- a verdict is known by its numbers

subleaf_from : ℕ → ℕ → Option ℕ
subleaf_from flag k = pick (eqb flag 0) None (Some k)

details_from : AnswerNumbers → Details
details_from a = record { number = a.number; leaf = a.leaf; subleaf = subleaf_from a.has_subleaf a.subleaf; s = a.s }

details_told : (d : Details) → details_from (detail_numbers d) ≡ d
unfolding details_from subleaf_from
details_told d = λ i. record { number = d.number; leaf = d.leaf; subleaf = go d.subleaf i; s = d.s }
  where
    go : (k : Option ℕ) → subleaf_from (named k) (subleaf_or0 k) ≡ k
    go None = refl
    go (Some k) = refl

verdict_from : AnswerNumbers → Verdict
verdict_from a = pick (eqb a.number 0) (Ok tt) (Err (refusal_with (details_from a)))

known_by_numbers : (v : Verdict) → verdict_from (numbers_of v) ≡ v
unfolding verdict_from
known_by_numbers (Ok _) = refl
known_by_numbers (Err r) =
    pick_false (Ok tt) (Err (refusal_with (details_from (detail_numbers (details r))))) (ne_eqb (details r).number 0 (refusal_numbered r))
    ∙ ap (λ (d : Details). Err (refusal_with d)) (details_told (details r))
    ∙ ap Err (refusal_told r)

numbers_equal : (a b : AnswerNumbers) → same_numbers a b ≡ true → a ≡ b
unfolding same_numbers
numbers_equal a b e =
    let f = and_right (eqb a.number b.number) _ e in
    let g = and_right (eqb a.leaf b.leaf) _ f in
    let h = and_right (eqb a.has_subleaf b.has_subleaf) _ g in λ k.
    record {
      number = eqb-true a.number b.number (and_left _ _ e) k;
      leaf = eqb-true a.leaf b.leaf (and_left _ _ f) k;
      has_subleaf = eqb-true a.has_subleaf b.has_subleaf (and_left _ _ g) k;
      subleaf = eqb-true a.subleaf b.subleaf (and_left _ _ h) k;
      s = eqb-true a.s b.s (and_right (eqb a.subleaf b.subleaf) _ h) k;
    }

verdict_equal : (v w : Verdict) → same_verdict v w ≡ true → v ≡ w
verdict_equal v w e = sym (known_by_numbers v) ∙ ap verdict_from (numbers_equal _ _ e) ∙ known_by_numbers w

-- ---- a table of 88 places is known by its rows, its count and its mask

record Whole (t : CpuidResults) : Type 0 where
  pub present : length t.present ≡ places
  pub results : length t.results ≡ places

table_equal : (t u : CpuidResults) → Whole t → Whole u → same_table t u ≡ true → t ≡ u
unfolding same_table same_rows
table_equal t u w x e =
    let f = and_right (eqb t.row_count u.row_count) _ e in
    let rows : (i : ℕ) → i < places → is_same_row (row_in t i) (row_in u i) ≡ true =
    every_at (λ i. is_same_row (row_in t i) (row_in u i)) places (and_right (eqb t.max_extended_state u.max_extended_state) _ f) in λ k.
    record {
      present =
          (tabulated places (λ i. get_or u.present i false) t.present false w.present (λ i l. agree_equal _ _ (and_left _ _ (rows i l)))
          ∙ sym (tabulated places (λ i. get_or u.present i false) u.present false x.present (λ i l. refl))) k;
      results =
          (tabulated places (λ i. get_or u.results i (cpuid_result 0 0 0 0)) t.results (cpuid_result 0 0 0 0) w.results (λ i l.
          result_equal _ _ (and_right (agree (row_in t i).present (row_in u i).present) _ (rows i l)))
          ∙ sym (tabulated places (λ i. get_or u.results i (cpuid_result 0 0 0 0)) u.results (cpuid_result 0 0 0 0) x.results (λ i l. refl))) k;
      row_count = eqb-true t.row_count u.row_count (and_left _ _ e) k;
      max_extended_state = eqb-true t.max_extended_state u.max_extended_state (and_left _ _ f) k;
    }

table_whole : (n : ℕ) (v : Verdict) (m : Rows) → Whole (table_for n v m)
table_whole n (Ok _) m = record { present = length_tabulate places _; results = length_tabulate places _ }
table_whole n (Err r) m = record { present = length-replicate places false; results = length-replicate places (cpuid_result 0 0 0 0) }

-- ---- the two answers

answer_whole : (c : Choices) (s : List ℕ) → Whole (answer c s).table
unfolding answer
answer_whole c s = table_whole c.edition (verdict_of c s) (rows_for c s)

pub unchanged_exactly : (c : Choices) (s : List ℕ) (f : Flip) → (changes c s f ≡ false) ↔ Unchanged c s f
unfolding changes same_answer
unchanged_exactly c s f = (equal, λ e. ap not (answer_same e.0 e.1))
  where
    same : (b : Bool) → not b ≡ false → b ≡ true
    same true e = refl
    same false e = absurd (never_both refl e)

    equal : changes c s f ≡ false → Unchanged c s f
    equal e =
        let g = same _ e in (
          verdict_equal _ _ (and_left _ _ g),
          table_equal _ _ (answer_whole c (flipped s f)) (answer_whole c s) (and_right (same_verdict (answer c (flipped s f)).verdict (answer c s).verdict) _ g),
        )
