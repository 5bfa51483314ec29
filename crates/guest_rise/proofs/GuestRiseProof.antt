-- The headline statements of P3, over page bytes.
use Rattle.std.specs.Prelude.{◌≡◌, List, ℕ, ◌-◌, ◌^◌, ◌<◌, min, Ok}
use Rattle.std.proofs.Math.Path.{refl, ap}
use Rattle.std.proofs.Common.{sym, ◌∙◌, subst₂, arith, lit<}
use Rattle.std.proofs.Math.Bool.{true}
use Rattle.x86defs.specs.declared.CpuidResult.{CpuidResult}
use Rattle.masking.specs.Place
use Rattle.table.specs.declared.Choices.{Choices}
use Rattle.table.specs.declared.CpuidResults.{CpuidResults}
use Rattle.table.specs.Table.{row_in, rows_of_table}
use Rattle.checks.specs.ExtendedState.{save_area}
use Rattle.build.specs.Build.{answer}
use Rattle.rise.specs.Rise.{RiseHypothesis, TableRises}
use Rattle.rise.proofs.RiseProof.{demand_3}
use Rattle.guest_state.specs.State.{save_register, state_verdict}
use Rattle.guest.specs.declared.Processor.{Processor}
use Rattle.guest.proofs.SeenLaws.{seen_there}
use Rattle.guest.specs.declared.GuestAnswer.{GuestAnswer}
use Rattle.guest.specs.GuestPages.{guest_pages}
use Rattle.guest.proofs.GuestPagesLaws.{accepted_guest, guest_verdict, given_guest}
use Rattle.guest_rise.specs.GuestRise.{compacts_in, GuestOutcome, GuestRise}
use Rattle.guest_rise.specs.StateExactly.{Allowed}
use Rattle.guest_rise.proofs.StateExactlyProof.{given_allowed}
use Rattle.guest_rise.specs.BuiltState.{built_supplied, built_fits}
use Rattle.guest_rise.proofs.GuestTablesRise.{table_outcome, table_compacts}

-- ---- the rise

module _ (chosen : Choices) (a b : List ℕ) (v : Processor) (rises : RiseHypothesis chosen a b) (acceptedB : (answer chosen b).verdict ≡ Ok tt)
    (isGiven : (guest_pages chosen a v).verdict ≡ Ok tt) where
  abbrev t : CpuidResults
  t = (answer chosen a).table

  tables : TableRises t (answer chosen b).table
  tables = (demand_3 chosen a b rises).table acceptedB

  given_a : state_verdict (rows_of_table t) v.xcr0 v.xss ≡ Ok tt
  given_a = sym (guest_verdict chosen a v rises.accepted) ∙ isGiven

  allowed_a : Allowed (rows_of_table t) v.xcr0 v.xss
  allowed_a = given_allowed (rows_of_table t) v.xcr0 v.xss given_a

  outcome : GuestOutcome (guest_pages chosen a v).table (guest_pages chosen b v)
  outcome =
      subst₂ (λ (g h : GuestAnswer). GuestOutcome g.table h)
      (sym (accepted_guest chosen a v rises.accepted)) (sym (accepted_guest chosen b v acceptedB))
      (table_outcome t (answer chosen b).table v tables (built_supplied chosen a rises.accepted) allowed_a given_a)

  -- where A's D.1.EAX has either bit: given, and the whole of demand 3's comparison, D.0.EBX and D.1.EBX equal in it
  pub guest_rise_whole : compacts_in t ≡ true
      → ((guest_pages chosen b v).verdict ≡ Ok tt) × TableRises (guest_pages chosen a v).table (guest_pages chosen b v).table
  guest_rise_whole c =
      subst₂ (λ (g h : GuestAnswer). (h.verdict ≡ Ok tt) × TableRises g.table h.table)
      (sym (accepted_guest chosen a v rises.accepted)) (sym (accepted_guest chosen b v acceptedB))
      (table_compacts t (answer chosen b).table v tables (built_supplied chosen a rises.accepted) allowed_a given_a c)

pub guest_rise : GuestRise
guest_rise = outcome

-- ---- D.0.EBX of a built table is the size itself, and never passes 32 bits

module _ (chosen : Choices) (s : List ℕ) (v : Processor) (accepted : (answer chosen s).verdict ≡ Ok tt)
    (isGiven : (guest_pages chosen s v).verdict ≡ Ok tt) where
  abbrev w : CpuidResults
  w = (answer chosen s).table

  pub never_overflows : save_area (rows_of_table w) v.xcr0 < 2 ^ 32
  never_overflows =
      built_fits chosen s accepted v.xcr0 (given_allowed (rows_of_table w) v.xcr0 v.xss (sym (guest_verdict chosen s v accepted) ∙ isGiven)).user

  pub area_seen : (row_in (guest_pages chosen s v).table (Place.extended_state 0)).result.ebx ≡ save_area (rows_of_table w) v.xcr0
  unfolding save_register
  area_seen =
      ap (λ (q : CpuidResults). (row_in q (Place.extended_state 0)).result.ebx) (given_guest chosen s v accepted isGiven)
      ∙ ap (λ (r : CpuidResult). r.ebx) (seen_there w v (Place.extended_state 0) (lit< tt) there)
      ∙ fits (save_area (rows_of_table w) v.xcr0) never_overflows
    where
      there : (row_in w (Place.extended_state 0)).present ≡ true
      there = (built_supplied chosen s accepted).required (Place.extended_state 0) (lit< tt) refl

      fits : (n : ℕ) → n < 2 ^ 32 → min n (2 ^ 32 - 1) ≡ n
      fits n l = omega arith
