-- A life's steps together: along a life tables rise from what carrying the first one gives, and views as tables do.
use Rattle.std.specs.Prelude.{◌≡◌, Bool, ◌&&◌, not, List, ◌≢◌, ℕ, ◌-◌, ◌^◌, ◌≤◌, ◌<◌, eqb, ltb, length, Ok}
use Rattle.std.proofs.Math.Path.{refl, sym, ap}
use Rattle.std.proofs.Common.{◌∙◌, subst, le_of_eq, arith, lit<}
use Rattle.std.proofs.Math.Bool.{true, false}
use Rattle.std.specs.Int.Bits.{bit_or}
use Rattle.std.proofs.Math.ListN.{get_or-eq_default}
use borrow.Author.Tests.{eqb-true, eqb-false, ne_eqb, ltb-true, ltb-false}
use Rattle.bits.specs.Choice.{pick}
use Rattle.bits.specs.ChoiceLaws.{never_both, pick_true}
use Rattle.bits.specs.Search.{every}
use Rattle.bits.specs.SearchLaws.{every_at}
use Rattle.bits.specs.Bits.{bit, has, mask_of, Within, clear, clear_unless}
use Rattle.bits.specs.BitsLaws.{bit_lt, bit_and_lem, zero_bit, has_bit}
use Rattle.bits.specs.ListsLaws.{length_tabulate}
use Rattle.x86defs.specs.declared.CpuidFunction.{CpuidFunction}
use Rattle.x86defs.specs.declared.CpuidResult.{CpuidResult}
use Rattle.masking.specs.Kept.{places}
use Rattle.masking.specs.Place
use Rattle.table.specs.declared.CpuidResults.{CpuidResults}
use Rattle.table.specs.declared.edition.EditionBits.{EditionBits}
use Rattle.table.specs.Edition.{joined_from, bits_between, later_bits}
use Rattle.table.specs.EditionLaws.{Inside, inside_itself, between_later}
use Rattle.table.specs.Rows.{Row, row}
use Rattle.table.specs.Table.{row_in, rows_of_table}
use Rattle.finish.specs.Kinds.{Kind, TableAtLeast, Registers, kinds_at}
use Rattle.finish.specs.Kinds.Kind.{feature, feature_but28, area, freed, other}
use Rattle.memory.specs.Memory.{rows_in}
use Rattle.memory.specs.Held.{held_in}
use Rattle.build.specs.Build.{answer}
use Rattle.lookup.specs.Lookup.{lookup, place_asked, row_result}
use Rattle.lookup.proofs.LookupLaws.{lookup_at}
use Rattle.rise.specs.Rise.{TableRises}
use Rattle.rise.specs.Preorder.{SameRows}
use Rattle.rise.specs.PreorderProof.{table_rises_compose, both_ways_same}
use Rattle.rise.proofs.AroundProof.{same_both_ways}
use Rattle.compare.proofs.TablesDecideProof.{decides}
use Rattle.carry.specs.Carry.{without_bits, carried_table, keeps, carry}
use Rattle.guest_state.specs.State.{compacts, state_verdict}
use Rattle.guest.specs.declared.Processor.{Processor}
use Rattle.guest.specs.Guest.{number_seen, seen_at, guest_table, table_given, guest_answer}
use Rattle.guest.proofs.GuestPagesLaws.{guest_verdict, given_guest}
use Rattle.guest.proofs.SeenLaws.{seen_there}
use Rattle.guest.specs.SeenExactly.{OsxsaveBit, VersionSeen}
use Rattle.guest.proofs.SeenExactlyProof.{seen_exactly}
use Rattle.guest_rise.specs.BuiltState.{Supplied}
use Rattle.guest_rise.specs.StateExactly.{Allowed}
use Rattle.guest_rise.proofs.StateExactlyProof.{given_allowed}
use Rattle.guest_rise.specs.GuestRise.{compacts_in, GuestTableRises, GuestOutcome}
use Rattle.guest_rise.specs.GuestRise.GuestOutcome.{given as risen, too_large as notGiven}
use Rattle.guest_rise.proofs.GuestTablesRise.{table_outcome}
use Rattle.images.specs.CarriedLaws as CarriedLaws
use Rattle.images.specs.CarriedRows.{own_ymm}
use Rattle.guest_life.specs.Sound.{Sound, built_sound}
use Rattle.guest_life.specs.StatesAgree.{StatesAgree, mask_agrees, save_agrees, compact_agrees, verdict_agrees}
use Rattle.guest_life.specs.CarriedOrder.{latest, carried_row, carried_there, carried_mono, carried_twice, kept_same, carried_below, ymm_carried, ymm_mono, keeps_ymm, version_feature, extended_feature}
use Rattle.guest_life.specs.SaveAreas.{SameAreas}
use Rattle.guest_life.specs.SaveAreasProof.{in_mask_lem}
use Rattle.guest_life.specs.Life.{Life, three_bits, lost_bit, StillShown, RowShown, AskedShown, ViewLasts, LifeOutcome, LifeShows, KeptLifeShows, LifeComesBack, EndsSeeTheSame, LivesSeeTheSame}
use Rattle.guest_life.specs.Life.Life.{starts, moves, carries}
use Rattle.guest_life.specs.Life.LifeOutcome.{given, too_large}
use Rattle.table.specs.Verdict.{Verdict}

-- ---- tables

-- rises carry over
pub latest_mono : (t u : CpuidResults) → TableRises t u → TableRises (latest t) (latest u)
latest_mono t u r = carried_mono later_bits (own_ymm t) (own_ymm u) t u (ymm_mono t u r) r

-- ---- the view of a table whose state is given

pub given_table : (w : CpuidResults) (v : Processor) → state_verdict (rows_of_table w) v.xcr0 v.xss ≡ Ok tt → (guest_answer w v).table ≡ guest_table w v
unfolding guest_answer
given_table w v e = ap (λ (q : Verdict). table_given q w v) e

pub answer_verdict : (w : CpuidResults) (v : Processor) → (guest_answer w v).verdict ≡ state_verdict (rows_of_table w) v.xcr0 v.xss
unfolding guest_answer
answer_verdict w v = refl

-- a guest's table has as many places as the table
pub guest_whole : (w : CpuidResults) (v : Processor) → length w.present ≤ places → (guest_answer w v).verdict ≡ Ok tt
    → length (guest_answer w v).table.present ≤ places
guest_whole w v l e = rw (given_table w v (sym (answer_verdict w v) ∙ e)) l

-- memory holds 88 places
pub held_whole : (w o : List ℕ) → length (held_in w o).present ≤ places
held_whole w o = le_of_eq (length_tabulate places (λ i. (rows_in w o i).present))

-- ---- lives that come back

pub same_trans : (t u w : CpuidResults) → SameRows t u → SameRows u w → SameRows t w
same_trans t u w a b = record {
  present = λ i l. a.present i l ∙ b.present i l;
  registers = λ i l e. a.registers i l e ∙ b.registers i l (sym (a.present i l) ∙ e);
  mask = a.mask ∙ b.mask;
}

pub same_sym : (t u : CpuidResults) → SameRows t u → SameRows u t
same_sym t u a = record {
  present = λ i l. sym (a.present i l);
  registers = λ i l e. sym (a.registers i l (a.present i l ∙ e));
  mask = sym a.mask;
}

pub both : (a b : Bool) → (a ≡ true → b ≡ true) → (b ≡ true → a ≡ true) → a ≡ b
both true b f g = sym (f refl)
both false true f g = g refl
both false false f g = refl

pub kept_whole : (t : CpuidResults) → own_ymm t ≡ true → SameRows (latest t) t
kept_whole t e = subst (λ (b : Bool). SameRows (carried_table later_bits b t) t) (sym e) (kept_same later_bits t)
