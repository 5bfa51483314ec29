-- P7's statements on the two editions, carried from rows to answers.
use Rattle.std.specs.Prelude.{◌≡◌, Bool, List, ℕ, ◌<◌, Err, Ok}
use Rattle.std.proofs.Math.Path.{refl, ap}
use Rattle.std.proofs.Common.{sym, ap₂, ◌∙◌, lit<}
use Rattle.bits.specs.Bits.{has}
use Rattle.bits.specs.Lists.{one}
use Rattle.bits.specs.ListsLaws.{tabulate_ext, sum_ext}
use Rattle.x86defs.specs.declared.CpuidResult.{CpuidResult}
use Rattle.pages.specs.Entries.{counted}
use Rattle.masking.specs.Kept.{places}
use Rattle.masking.specs.Place
use Rattle.table.specs.declared.Choices.{Choices}
use Rattle.table.specs.declared.CpuidResults.{CpuidResults}
use Rattle.table.specs.Rows.{Row, Rows}
use Rattle.table.specs.Table.{row_in, count_rows}
use Rattle.table.specs.Edition.{known_edition}
use Rattle.checks.specs.ExtendedState.{xfem}
use Rattle.memory.specs.Origin.{origin_of, origin_number}
use Rattle.collect.specs.FirstEntryOrigin.{stands_at}
use Rattle.collect.specs.RowsFit.{rows_fit_lem}
use Rattle.finish.specs.Finish.{ymm_clears, enabled_by, settings, finished}
use Rattle.build.specs.Build.{edition_verdict, rows_for, verdict_of, origins_in, answer, origin_at}
use Rattle.rise.specs.Rise.{with_edition}
use Rattle.rise.specs.RiseProof.{answer_table, answer_row, answer_mask}
use Rattle.rise.specs.BuiltLaws.{always_finished, result_at, built_xfem}
use Rattle.rise.specs.LocatedProof.{refused_has_none}
use Rattle.rise.specs.Second.{second_row, has_ymm_state, SecondTable, SecondEdition, FirstEdition}
use Rattle.rise.specs.SecondLaws.{extended_first}
use Rattle.rise.proofs.SecondLaws.{finished_second}
use Rattle.rise.specs.SecondProof.{second_present}
use Rattle.table.specs.Verdict.{Verdict}

module _ (chosen : Choices) (s : List ℕ) where
  abbrev one_of : Choices
  one_of = with_edition chosen 1

  abbrev two_of : Choices
  two_of = with_edition chosen 2

  verdicts : (answer two_of s).verdict ≡ (answer one_of s).verdict
  unfolding answer verdict_of edition_verdict known_edition
  verdicts = refl

  module _ (e : (answer one_of s).verdict ≡ Ok tt) where
    abbrev m : Rows
    m = rows_for chosen s

    accepted : (answer two_of s).verdict ≡ Ok tt
    accepted = verdicts ∙ e

    state : has 2 (xfem m) ≡ has_ymm_state (answer one_of s).table
    unfolding xfem
    state = ap (has 2) (sym (built_xfem one_of s e))

    row_at : (i : ℕ) → i < places → row_in (answer two_of s).table i ≡ second_row (has_ymm_state (answer one_of s).table) i (row_in (answer one_of s).table i)
    row_at i l =
        answer_row two_of s accepted i l
        ∙ finished_second m i l
        ∙ ap₂ (λ (b : Bool) (r : Row). second_row b i r) state (sym (answer_row one_of s e i l))

    counts : count_rows (finished 2 m) ≡ count_rows (finished 1 m)
    unfolding count_rows
    counts =
        sum_ext (λ i. one (finished 2 m i).present) (λ i. one (finished 1 m i).present) places
        (λ i l. ap one (ap (λ (r : Row). r.present) (finished_second m i l) ∙ second_present (has 2 (xfem m)) i (finished 1 m i)))

    tables : SecondTable (answer one_of s).table (answer two_of s).table
    tables = record {
      rows = row_at;
      count =
          ap (λ (t : CpuidResults). t.row_count) (answer_table two_of s accepted)
          ∙ counts
          ∙ sym (ap (λ (t : CpuidResults). t.row_count) (answer_table one_of s e));
      mask = answer_mask two_of s accepted ∙ sym (answer_mask one_of s e);
    }

    -- the same rows are there, so each has the origin that it had
    origins_at : (i : ℕ) → i < places → origin_at two_of s i ≡ origin_at one_of s i
    origins_at i l =
        ap (λ (b : Bool). origin_of b i (stands_at i (counted s)))
        (ap (λ (r : Row). r.present) (row_at i l) ∙ second_present (has_ymm_state (answer one_of s).table) i (row_in (answer one_of s).table i))

    accepted_origins : (answer two_of s).origins ≡ (answer one_of s).origins
    unfolding answer origins_in
    accepted_origins = tabulate_ext places _ _ (λ i l. ap origin_number (origins_at i l))

  origins : (v : Verdict) → (answer one_of s).verdict ≡ v → (answer two_of s).origins ≡ (answer one_of s).origins
  origins (Ok _) e = accepted_origins e
  origins (Err r) e = refused_has_none two_of s r (verdicts ∙ e) ∙ sym (refused_has_none one_of s r e)

  pub second_edition : SecondEdition chosen s
  second_edition = record { verdict = verdicts; table = tables; origins = origins (answer one_of s).verdict refl }

pub first_edition_lem : FirstEdition
unfolding settings ymm_clears
first_edition_lem chosen s e =
    let m : Rows = rows_for chosen s in
    ap (λ (r : CpuidResult). r.ecx)
    (result_at (with_edition chosen 1) s e Place.extended_version_and_features (lit< tt)
    (always_finished (with_edition chosen 1) s e Place.extended_version_and_features (lit< tt) refl))
    ∙ extended_first (enabled_by m) _ (rows_fit_lem chosen.secure_avic s Place.extended_version_and_features).ecx
