-- Building accepts what is listed, and makes B.0 and B.1 of it.
use Rattle.std.specs.Prelude.{◌≡◌, refl, true, List, ℕ, ◌<◌, Ok}
use Rattle.std.proofs.Math.Path.{sym}
use Rattle.std.proofs.Common.{ap, ◌∙◌, arith, lit<}
use Rattle.std.proofs.lemmas.Bool.{false≢true}
use Rattle.bits.specs.ChoiceLaws.{pick_true}
use Rattle.bits.specs.BitsLaws.{field_lt, bit_lt}
use Rattle.topology.specs.Topology.{topology_of, processors}
use Rattle.masking.specs.Kept.{places}
use Rattle.masking.specs.Place
use Rattle.table.specs.declared.Choices.{Choices}
use Rattle.table.specs.Refusal.{and_then}
use Rattle.table.specs.Rows.{Rows, row}
use Rattle.table.specs.Table.{row_in}
use Rattle.checks.specs.Checks.{topology_refusal, topology_verdict, rows_verdict}
use Rattle.checks.specs.ChecksLaws.{then_left, then_right, then_accepted}
use Rattle.checks.specs.TopologyInputs.{inputs_of}
use Rattle.finish.specs.Finish.{rule_at, settings, finish, finished}
use Rattle.finish.specs.PlaceLaws.{always}
use Rattle.finish.specs.RemainsLaws.{finished_present}
use Rattle.build.specs.Build.{rows_for, verdict_of, answer}
use Rattle.rise.specs.RiseProof.{answer_row}
use Rattle.rise.specs.BuiltLaws.{always_finished}
use Rattle.topologies.specs.Topologies.{consistent, accepts, accepted_inputs}
use Rattle.topology_list.specs.Listed.{In, FieldsFit}
use Rattle.topology_list.proofs.ListedProof.{determined}
use Rattle.topology_list.specs.Builds.{inputs_for, before_topology, Levels, BuildsListed}
use Rattle.topology_list.specs.BuildsProof.{accepts_verdict, fits, given, then_joins, verdict_accepts}
use Rattle.table.specs.Verdict.{Verdict}

module _ (chosen : Choices) (s : List ℕ) where
  in_order_lem : (answer chosen s).verdict ≡ and_then (before_topology chosen s) (topology_verdict (rows_for chosen s))
  unfolding answer verdict_of rows_verdict
  in_order_lem = sym (simp then_joins)

  passed : topology_verdict (rows_for chosen s) ≡ Ok tt → accepts (inputs_for chosen s) ≡ true
  unfolding topology_verdict accepts
  passed e = verdict_accepts (topology_of (inputs_for chosen s)) e

  passes : accepts (inputs_for chosen s) ≡ true → topology_verdict (rows_for chosen s) ≡ Ok tt
  unfolding topology_verdict accepts
  passes e = accepts_verdict (topology_of (inputs_for chosen s)) e

  -- a row of a required leaf, which is there
  required_row : (e : (answer chosen s).verdict ≡ Ok tt) (i : ℕ) → i < places → always (rule_at i) ≡ true
      → row_in (answer chosen s).table i ≡ row (finish (settings chosen.edition (rows_for chosen s)) (rule_at i) (rows_for chosen s i).result)
  unfolding finished
  required_row e i l a =
      answer_row chosen s e i l
      ∙ pick_true _ _ (sym (finished_present chosen.edition (rows_for chosen s) i) ∙ always_finished chosen s e i l a)

  levels : (answer chosen s).verdict ≡ Ok tt → In (inputs_for chosen s) accepted_inputs → Levels (inputs_for chosen s) (answer chosen s).table
  unfolding accepts settings
  levels e p = record {
    v = processors (topology_of (inputs_for chosen s));
    processors = given (topology_of (inputs_for chosen s)) (determined.has.no_other (inputs_for chosen s) p).1;
    threads = required_row e Place.thread_level (lit< tt) refl;
    cores = required_row e Place.core_level (lit< tt) refl;
  }

  last : In (inputs_for chosen s) accepted_inputs → (answer chosen s).verdict ≡ before_topology chosen s
  last p =
      in_order_lem
      ∙ ap (and_then (before_topology chosen s)) (passes (determined.has.no_other (inputs_for chosen s) p).1)
      ∙ then_accepted (before_topology chosen s)

  pub builds_listed : BuildsListed chosen s
  builds_listed = record {
    accepted = λ h. (
      λ e.
          let both = sym in_order_lem ∙ e in
          let listed = determined.has.each (inputs_for chosen s) (fits (rows_for chosen s) h) in
          (then_left (before_topology chosen s) _ both, listed (passed (then_right (before_topology chosen s) _ both))),
      λ p. last p.1 ∙ p.0,
    );
    passes = last;
    levels = levels;
  }
