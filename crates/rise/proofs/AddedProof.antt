-- The proof that added entries change no answer: the entries before are a beginning, so every row is kept, and the rows decide.
use Rattle.std.specs.Prelude.{◌≡◌, Bool, List, ℕ, ◌<◌, Err, Ok}
use Rattle.std.proofs.Math.Path.{refl, ap}
use Rattle.std.proofs.Common.{sym, ◌∙◌, subst}
use Rattle.std.proofs.Math.Bool.{true, false}
use Rattle.bits.specs.Choice.{pick}
use Rattle.bits.specs.ListsLaws.{tabulate_ext}
use Rattle.pages.specs.Entries.{counted}
use Rattle.masking.specs.Kept.{places}
use Rattle.memory.specs.Origin.{is_made_here, origin_of, origin_number}
use Rattle.memory.specs.Origin.Origin.{neither, made_here}
use Rattle.collect.specs.FirstEntryOrigin.{stands_at}
use Rattle.table.specs.declared.Choices.{Choices}
use Rattle.table.specs.Refusal.{and_then}
use Rattle.table.specs.Rows.{Row}
use Rattle.table.specs.Table.{row_in}
use Rattle.checks.specs.Checks.{rows_verdict}
use Rattle.finish.specs.Finish.{rule_at}
use Rattle.finish.specs.Kinds.{from_entry}
use Rattle.build.specs.declared.Built.{Built}
use Rattle.finish.specs.declared.RowsBuilt.{RowsBuilt}
use Rattle.build.specs.Built.{SameButOrigins}
use Rattle.build.specs.Build.{edition_verdict, rows_for, verdict_of, origins_in, answer, origin_at}
use Rattle.collect.specs.Lawful.{lawful_verdict}
use Rattle.build.proofs.BuildLaws.{answer_of_rows}
use Rattle.rise.specs.StandsLaws.{stands_begins}
use Rattle.rise.specs.LocatedProof.{refused_has_none}
use Rattle.rise.proofs.LocatedProof.{entry_there}
use Rattle.rise.specs.Rise.{EntryRises, RiseHypothesis}
use Rattle.rise.specs.SameProof.{rises_itself}
use Rattle.rise.specs.Added.{Added, Covered, AddedChangesNothing, AddedRisesBothWays}
use Rattle.rise.proofs.BeginningLaws.{counted_begin}
use Rattle.rise.specs.KeepsLaws.{Keeps, rows_kept}
use Rattle.rise.specs.CoveredLaws.{edition_found, lawful_found}
use Rattle.rise.proofs.KeptRowsLaws.{built_same}
use Rattle.table.specs.Verdict.{Verdict}

module _ (chosen : Choices) (s u : List ℕ) (added : Added s u) (covered : Covered (answer chosen s).verdict) where
  known_edition_lem : edition_verdict chosen.edition ≡ Ok tt
  unfolding answer verdict_of
  known_edition_lem = edition_found chosen.edition (and_then (lawful_verdict s) (rows_verdict (rows_for chosen s))) covered

  pages_covered : Covered (and_then (lawful_verdict s) (rows_verdict (rows_for chosen s)))
  unfolding answer verdict_of
  pages_covered = rw known_edition_lem at covered

  pub lawful_before : lawful_verdict s ≡ Ok tt
  lawful_before = lawful_found s (rows_verdict (rows_for chosen s)) pages_covered

  pub rows_stay : Keeps (rows_for chosen s) (rows_for chosen u)
  rows_stay = rows_kept chosen.secure_avic s u (counted_begin s u added)

  -- verdict and table
  rows_same : SameButOrigins (answer chosen u) (answer chosen s)
  rows_same =
      answer_of_rows chosen u known_edition_lem added.lawful
      ∙ built_same (rows_for chosen s) (rows_for chosen u) rows_stay (rw lawful_before at pages_covered) chosen.edition
      ∙ sym (answer_of_rows chosen s known_edition_lem lawful_before)

  verdict_same : (answer chosen u).verdict ≡ (answer chosen s).verdict
  verdict_same = ap (λ (b : RowsBuilt). b.verdict) rows_same

  -- a row of an accepted table had its entry before, and that is still the first
  origin_same : (answer chosen s).verdict ≡ Ok tt → (i : ℕ) → i < places
      → origin_of (row_in (answer chosen s).table i).present i (stands_at i (counted u)) ≡ origin_at chosen s i
  unfolding origin_of
  origin_same e i l = go (row_in (answer chosen s).table i).present refl (is_made_here i) refl
    where
      go : (p : Bool) → (row_in (answer chosen s).table i).present ≡ p → (h : Bool) → is_made_here i ≡ h
          → pick p (pick h made_here (stands_at i (counted u))) neither ≡ pick p (pick h made_here (stands_at i (counted s))) neither
      go false p h q = refl
      go true p true q = refl
      go true p false q =
          let b = counted_begin s u added in
          ap (stands_at i) b.whole ∙ stands_begins i (counted s) b.more (entry_there chosen s e i l p q)

  accepted_origins : (answer chosen s).verdict ≡ Ok tt → (answer chosen u).origins ≡ (answer chosen s).origins
  unfolding answer origins_in
  accepted_origins e =
      ap (λ (b : RowsBuilt). origins_in b.table u) rows_same ∙ tabulate_ext places _ _ (λ i l. ap origin_number (origin_same e i l))

  origins_same : (v : Verdict) → (answer chosen s).verdict ≡ v → (answer chosen u).origins ≡ (answer chosen s).origins
  origins_same (Ok _) e = accepted_origins e
  origins_same (Err r) e = refused_has_none chosen u r (verdict_same ∙ e) ∙ sym (refused_has_none chosen s r e)

  answer_same : answer chosen u ≡ answer chosen s
  answer_same = λ k. record {
    verdict = verdict_same k;
    table = ap (λ (b : RowsBuilt). b.table) rows_same k;
    origins = origins_same (answer chosen s).verdict refl k;
  }

pub added_same : AddedChangesNothing
added_same = answer_same

-- ---- an accepted page set rises to itself with entries added, and back

module _ (chosen : Choices) (s u : List ℕ) (added : Added s u) (accepted : (answer chosen s).verdict ≡ Ok tt) where
  covered : Covered (answer chosen s).verdict
  covered = rw accepted tt

  -- at each row of the table, the entry of s and the entry of u
  entry : (i : ℕ) → i < places → from_entry (rule_at i) ≡ true → (row_in (answer chosen s).table i).present ≡ true
      → EntryRises i (rows_for chosen s i) (rows_for chosen s i) × (rows_for chosen s i ≡ rows_for chosen u i)
  entry i l f p =
      let e : EntryRises i (rows_for chosen s i) (rows_for chosen s i) = (rises_itself chosen s accepted).entries i l f p in
      (e, sym ((rows_stay chosen s u added covered).kept i e.present))

  rises : RiseHypothesis chosen s u
  rises = record {
    accepted = accepted;
    lawful = added.lawful;
    entries = λ i l f p. let (e, q) = entry i l f p in subst (EntryRises i (rows_for chosen s i)) q e;
  }

  back : RiseHypothesis chosen u s
  back = record {
    accepted = ap (λ (b : Built). b.verdict) same ∙ accepted;
    lawful = lawful_before chosen s u added covered;
    entries = λ i l f p.
        let (e, q) = entry i l f (ap (λ (b : Built). (row_in b.table i).present) (sym same) ∙ p) in
        subst (λ (r : Row). EntryRises i r (rows_for chosen s i)) q e;
  }
    where
      same : answer chosen u ≡ answer chosen s
      same = answer_same chosen s u added covered

pub added_rises : AddedRisesBothWays
added_rises chosen s u added accepted = (rises chosen s u added accepted, back chosen s u added accepted)
