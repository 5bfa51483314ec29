-- Along a life nothing is lost but what carrying the first table loses.
use Rattle.std.specs.Prelude.{◌≡◌, Bool, ◌&&◌, not, List, ◌≢◌, ℕ, ◌-◌, ◌^◌, ◌≤◌, ◌<◌, eqb, ltb, length}
use Rattle.std.proofs.Math.Path.{refl, sym, ap}
use Rattle.std.proofs.Common.{◌∙◌, subst, le_of_eq, arith, lit<}
use Rattle.std.proofs.Math.Bool.{true, false}
use Rattle.std.specs.Int.Bits.{bit_or}
use Rattle.std.proofs.Math.ListN.{get_or-eq_default}
use borrow.Author.Tests.{eqb-true, eqb-false, ne_eqb, ltb-true, ltb-false}
use Rattle.bits.specs.Choice.{pick}
use Rattle.bits.specs.ChoiceLaws.{never_both, pick_true}
use Rattle.bits.specs.Search.{every}
use Rattle.bits.specs.SearchLaws.{every_at}
use Rattle.bits.specs.Bits.{bit, has, mask_of, Within, clear, clear_unless}
use Rattle.bits.specs.BitsLaws.{bit_lt, bit_and_lem, zero_bit, has_bit}
use Rattle.bits.specs.ListsLaws.{length_tabulate}
use Rattle.x86defs.specs.declared.CpuidFunction.{CpuidFunction}
use Rattle.x86defs.specs.declared.CpuidResult.{CpuidResult}
use Rattle.masking.specs.Kept.{places}
use Rattle.masking.specs.Place
use Rattle.table.specs.declared.CpuidResults.{CpuidResults}
use Rattle.table.specs.declared.edition.EditionBits.{EditionBits}
use Rattle.table.specs.Edition.{joined_from, bits_between, later_bits}
use Rattle.table.specs.EditionLaws.{Inside, inside_itself, between_later}
use Rattle.table.specs.Rows.{Row, row}
use Rattle.table.specs.Table.{row_in, rows_of_table}
use Rattle.finish.specs.Kinds.{Kind, TableAtLeast, Registers, kinds_at}
use Rattle.finish.specs.Kinds.Kind.{feature, feature_but28, area, freed, other}
use Rattle.memory.specs.Memory.{rows_in}
use Rattle.memory.specs.Held.{held_in}
use Rattle.build.specs.Build.{answer}
use Rattle.lookup.specs.Lookup.{lookup, place_asked, row_result}
use Rattle.lookup.proofs.LookupLaws.{lookup_at}
use Rattle.rise.specs.Rise.{TableRises}
use Rattle.rise.specs.Preorder.{SameRows}
use Rattle.rise.specs.PreorderProof.{table_rises_compose, both_ways_same}
use Rattle.rise.proofs.AroundProof.{same_both_ways}
use Rattle.compare.proofs.TablesDecideProof.{decides}
use Rattle.carry.specs.Carry.{without_bits, carried_table, keeps, carry}
use Rattle.guest_state.specs.State.{compacts, state_verdict}
use Rattle.guest.specs.declared.Processor.{Processor}
use Rattle.guest.specs.Guest.{number_seen, seen_at, guest_table, table_given, guest_answer}
use Rattle.guest.proofs.GuestPagesLaws.{guest_verdict, given_guest}
use Rattle.guest.proofs.SeenLaws.{seen_there}
use Rattle.guest.specs.SeenExactly.{OsxsaveBit, VersionSeen}
use Rattle.guest.proofs.SeenExactlyProof.{seen_exactly}
use Rattle.guest_rise.specs.BuiltState.{Supplied}
use Rattle.guest_rise.specs.StateExactly.{Allowed}
use Rattle.guest_rise.proofs.StateExactlyProof.{given_allowed}
use Rattle.guest_rise.specs.GuestRise.{compacts_in, GuestTableRises, GuestOutcome}
use Rattle.guest_rise.specs.GuestRise.GuestOutcome.{given as risen, too_large as notGiven}
use Rattle.guest_rise.proofs.GuestTablesRise.{table_outcome}
use Rattle.images.specs.CarriedLaws as CarriedLaws
use Rattle.images.specs.CarriedRows.{own_ymm}
use Rattle.guest_life.specs.Sound.{Sound, built_sound}
use Rattle.guest_life.specs.StatesAgree.{StatesAgree, mask_agrees, save_agrees, compact_agrees, verdict_agrees}
use Rattle.guest_life.specs.CarriedOrder.{latest, carried_row, carried_there, carried_mono, carried_twice, kept_same, carried_below, ymm_carried, ymm_mono, keeps_ymm, version_feature, extended_feature}
use Rattle.guest_life.specs.SaveAreas.{SameAreas}
use Rattle.guest_life.specs.SaveAreasProof.{in_mask_lem}
use Rattle.guest_life.proofs.SaveAreasProof.{accepted_of_lem, areas_same}
use Rattle.guest_life.specs.Life.{Life, three_bits, lost_bit, StillShown, RowShown, AskedShown, ViewLasts, LifeOutcome, LifeShows, KeptLifeShows, LifeComesBack, EndsSeeTheSame, LivesSeeTheSame}
use Rattle.guest_life.specs.Life.Life.{starts, moves, carries}
use Rattle.guest_life.specs.Life.LifeOutcome.{given, too_large}
use Rattle.guest_life.specs.LifeProof.{answer_verdict, both, given_table, guest_whole, held_whole, kept_whole, latest_mono, same_sym, same_trans}
use Rattle.table.specs.Verdict.{Verdict}

-- a table that is carried, whether its bits are kept or not
pub latest_carried : (bits : EditionBits) → Inside bits later_bits → (b : Bool) (t : CpuidResults) → (own_ymm t ≡ true → b ≡ true)
    → TableRises (latest t) (latest (carried_table bits b t))
latest_carried bits h true t f = latest_mono t (carried_table bits true t) (same_both_ways (carried_table bits true t) t (kept_same bits t)).1
latest_carried bits h false t f = go (own_ymm t) refl
  where
    go : (y : Bool) → own_ymm t ≡ y → TableRises (carried_table later_bits y t) (latest (carried_table bits false t))
    go true e = absurd (never_both (f e) refl)
    go false e = carried_twice bits h (own_ymm (carried_table bits false t)) t

-- along a life nothing is lost but what carrying the first table loses
pub life_rises : {t w : CpuidResults} → Life t w → TableRises (latest t) w
life_rises {t} starts = carried_below later_bits (own_ymm t) t
life_rises {t} {w} (moves {u = u} e l) =
    table_rises_compose (latest t) (latest u) w (latest_mono t u ((decides t u).yes e)) (life_rises l)
life_rises {t} {w} (carries from to xcr0 xss e l) =
    let u = (carry t from to xcr0 xss).table in
    table_rises_compose (latest t) (latest u) w
    (subst (λ (x : CpuidResults). TableRises (latest t) (latest x)) (sym (CarriedLaws.given t from to xcr0 xss e))
    (latest_carried (bits_between from to) (between_later from to) (keeps t from to) t (keeps_ymm t from to)))
    (life_rises l)
