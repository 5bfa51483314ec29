-- `guest::find_kept` meets its contract: the row of the place that is asked for.
use Prim.Native.Nat.{ℕ}
use Rattle.lookup.specs.Lookup.{place_asked}
use Rattle.lookup.specs.AskedLaws.{asked_is_place}
use Rattle.guest.proofs.find_kept.Goals as goal
use Rattle.guest.proofs.find_kept.Goals.{Start}

abbrev question : Start → ℕ
question c = place_asked c.args.leaf c.args.subleaf c.args.enforce_subleaf

pub seen_row-requires : goal.seen_row-requires
seen_row-requires c = asked_is_place (question (goal.at.seen_row-requires c).Start) c.place_asked-asked.ensures

pub returns : goal.returns
returns c = c.seen_row.ensures _ _ _ c.place_asked-asked.ensures
