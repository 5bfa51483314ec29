-- What the exported functions return rises from A to B, and their comparison and origins are as Exported.antt says.
use Rattle.std.specs.Prelude.{◌≡◌, refl, Bool, true, false, List, ◌⊎◌, ℕ, ◌≤◌, ◌<◌, length, Err, Ok, Option}
use Rattle.std.proofs.Common.{sym, ap, ◌∙◌, subst, subst₂, inl, inr, le_of_eq, arith}
use Rattle.std.proofs.lemmas.List.{length-replicate}
use Rattle.bits.specs.ListsLaws.{length_tabulate}
use Rattle.x86defs.specs.declared.CpuidFunction.{CpuidFunction}
use Rattle.x86defs.specs.Functions.{cpuid_result}
use Rattle.masking.specs.Kept.{places}
use Rattle.table.specs.declared.Choices.{Choices}
use Rattle.table.proofs.RefusalLaws.{refusal_numbered}
use Rattle.table.specs.Rows.{Row}
use Rattle.finish.specs.Kinds.{TableAtLeast, Registers, kinds_at}
use Rattle.table.specs.Table.{row_in}
use Rattle.finish.specs.RowsBuilt.{table_for}
use Rattle.build.specs.Build.{rows_for, answer}
use Rattle.lookup.specs.Lookup.{place_asked, lookup_origin}
use Rattle.refusals.proofs.ExactlyProof.{builds_exactly}
use Rattle.rise.specs.Rise.{RiseHypothesis, Outcome, RiseConclusion, Further, TableRises}
use Rattle.rise.specs.Rise.Outcome.{missing, overflow, accepted}
use Rattle.rise.proofs.RiseProof.{demand_3}
use Rattle.compare.specs.declared.Compared.{Compared}
use Rattle.compare.specs.declared.Compared.TheVariants.{Rises as Yes, RefusedA, UnlawfulB, NoEntry, Differs}
use Rattle.compare.specs.Compare.{compared}
use Rattle.compare.specs.Means.{AnswerMeans, Decides}
use Rattle.compare.proofs.DecidesProof.{decides}
use Rattle.table.specs.Numbers.{numbers_of}
use Rattle.answers.specs.declared.SnpCpuidFound.{SnpCpuidFound}
use Rattle.answers.specs.Answers.{found_with}
use Rattle.answers.specs.ComparedAnswers.{compared_numbers}
use Rattle.memory.specs.Origin.{origin_read}
use Rattle.rise.proofs.LocatedProof.{rows_have_origins}
use Rattle.theorems.specs.Looked.{looked_present, looked_inside, looked_at, looked_found}
use Rattle.theorems.specs.Exported.{built, found, registers_of, BuiltRises, ExportsRise, ExportsCompare, origin_found, FoundOrigins}
use Rattle.theorems.specs.Exported.BuiltRises.{refused_3, refused_5, accepted_0}
use Rattle.table.specs.Verdict.{Verdict}

-- ---- the proof

-- an answer with number 0 is accepted
pub verdict_numbered : (v : Verdict) → (numbers_of v).number ≡ 0 → v ≡ Ok tt
verdict_numbered (Ok _) e = refl
verdict_numbered (Err r) e = absurd (refusal_numbered r e)

-- a table has 88 places
pub table_whole : (chosen : Choices) (s : List ℕ) → length (answer chosen s).table.present ≤ places
unfolding answer
table_whole chosen s = go (Rattle.build.specs.Build.verdict_of chosen s)
  where
    go : (v : Verdict) → length (table_for chosen.edition v (rows_for chosen s)).present ≤ places
    go (Ok _) = le_of_eq (length_tabulate places _)
    go (Err r) = le_of_eq (length-replicate places false)

rise_answers : (chosen : Choices) (b : List ℕ) → Outcome (rows_for chosen b) (answer chosen b).verdict → BuiltRises (rows_for chosen b) (built chosen b)
rise_answers chosen b (missing k f e) = refused_3 k f (rw ((builds_exactly chosen b).empty _ e, e))
rise_answers chosen b (overflow n f e) = refused_5 n f (rw ((builds_exactly chosen b).empty _ e, e))
rise_answers chosen b (accepted n f e) = accepted_0 n f (rw e)

-- what is found in a page set's table, from what is found in any (Looked.antt)
module _ (chosen : Choices) (s : List ℕ) (leaf : CpuidFunction) (subleaf : Option ℕ) (enforce : Bool) where
  abbrev asked : Row
  asked = row_in (answer chosen s).table (place_asked leaf subleaf enforce)

  found_present : (found chosen s leaf subleaf enforce).found ≡ 1 → asked.present ≡ true
  found_present = looked_present (answer chosen s).table (table_whole chosen s) (answer chosen s).origins leaf subleaf enforce

  present_inside : asked.present ≡ true → place_asked leaf subleaf enforce < places
  present_inside = looked_inside (answer chosen s).table (table_whole chosen s) (answer chosen s).origins leaf subleaf enforce

  present_found : asked.present ≡ true → (found chosen s leaf subleaf enforce).found ≡ 1
  present_found = looked_found (answer chosen s).table (table_whole chosen s) (answer chosen s).origins leaf subleaf enforce

  found_numbers : asked.present ≡ true
      → found chosen s leaf subleaf enforce ≡ found_with asked.result (origin_read (lookup_origin (answer chosen s).origins leaf subleaf enforce))
  found_numbers = looked_at (answer chosen s).table (table_whole chosen s) (answer chosen s).origins leaf subleaf enforce

module _ (chosen : Choices) (a b : List ℕ) (rises : RiseHypothesis chosen a b) where
  risen : RiseConclusion chosen a b
  risen = demand_3 chosen a b rises

  rows_found : TableRises (answer chosen a).table (answer chosen b).table → (leaf : CpuidFunction) (subleaf : Option ℕ) (enforce : Bool)
      → (found chosen a leaf subleaf enforce).found ≡ 1
      → ((found chosen b leaf subleaf enforce).found ≡ 1)
      × Registers TableAtLeast (kinds_at (place_asked leaf subleaf enforce)) (registers_of (found chosen a leaf subleaf enforce))
      (registers_of (found chosen b leaf subleaf enforce))
  rows_found t leaf subleaf enforce e =
      let i : ℕ = place_asked leaf subleaf enforce in
      let pa = found_present chosen a leaf subleaf enforce e in
      let l = present_inside chosen a leaf subleaf enforce pa in
      let pb = t.rows i l pa in (
        present_found chosen b leaf subleaf enforce pb,
        subst₂ (λ (x y : SnpCpuidFound). Registers TableAtLeast (kinds_at i) (registers_of x) (registers_of y))
            (sym (found_numbers chosen a leaf subleaf enforce pa)) (sym (found_numbers chosen b leaf subleaf enforce pb)) (t.registers i l pa),
      )

  others_found : TableRises (answer chosen a).table (answer chosen b).table → (leaf : CpuidFunction) (subleaf : Option ℕ) (enforce : Bool)
      → (found chosen b leaf subleaf enforce).found ≡ 1
      → ((found chosen a leaf subleaf enforce).found ≡ 1) ⊎ Further (answer chosen a).table (answer chosen b).table (place_asked leaf subleaf enforce)
  others_found t leaf subleaf enforce e =
      let p = found_present chosen b leaf subleaf enforce e in
      elim (t.others (place_asked leaf subleaf enforce) (present_inside chosen b leaf subleaf enforce p) p) [
        | inl q ↦ inl (present_found chosen a leaf subleaf enforce q)
        | inr f ↦ inr f
      ]

  pub exports_rise : ExportsRise chosen a b
  exports_rise = record {
    answers = rise_answers chosen b risen.outcome;
    mask = λ n. (risen.table (verdict_numbered (answer chosen b).verdict n)).mask;
    rows = λ n. rows_found (risen.table (verdict_numbered (answer chosen b).verdict n));
    others = λ n. others_found (risen.table (verdict_numbered (answer chosen b).verdict n));
  }

-- ---- snp_cpuid_compare gives `compared_numbers` of the comparison: answer 0 if and only if the hypothesis of demand 3 holds

answer_numbered : (c : Compared) → (compared_numbers c).answer ≡ 0 → c ≡ Yes
answer_numbered Yes e = refl
answer_numbered (RefusedA r) e = absurd (omega arith)
answer_numbered (UnlawfulB r) e = absurd (omega arith)
answer_numbered (NoEntry leaf subleaf) e = absurd (omega arith)
answer_numbered (Differs leaf subleaf register) e = absurd (omega arith)

pub exports_compare : (chosen : Choices) (a b : List ℕ) → ExportsCompare chosen a b
exports_compare chosen a b =
    let d : Decides chosen a b (compared chosen a b) = decides chosen a b in
    record {
      yes = λ e.
          let rises : RiseHypothesis chosen a b = (subst (AnswerMeans chosen a b) (answer_numbered (compared chosen a b) e) d.means).0 in
          (rises, exports_rise chosen a b rises);
      complete = λ h. ap (λ (c : Compared). (compared_numbers c).answer) (d.complete h);
    }

-- ---- document 02, P11: with a row that is found, the exported functions tell where it came from

pub found_origins_lem : FoundOrigins
found_origins_lem chosen s leaf subleaf enforce built_of e =
    let p = found_present chosen s leaf subleaf enforce e in
    ap origin_found (found_numbers chosen s leaf subleaf enforce p)
    ∙ (rows_have_origins chosen s built_of (place_asked leaf subleaf enforce) (present_inside chosen s leaf subleaf enforce p)).told
