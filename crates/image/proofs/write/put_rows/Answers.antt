-- `image::write::put_rows` meets its contract: each run is lawful, which is computed, and writing goes on from one to the next.
use mathlib.Core.Path.{refl, ap, ◌∙◌}
use mathlib.Core.List.{List}
use Prim.Native.Nat.{ℕ, ◌+◌, ◌≤◌}
use native.Mathlib.Omega.{arith}
use lib.ListN.{length}
use lib.Seq.{sets}
use Rattle.masking.specs.Kept.{slot, kept_leaves}
use Rattle.masking.specs.Runs.{lawful_run}
use Rattle.table.specs.declared.CpuidResults.{CpuidResults}
use Rattle.memory.specs.Held.{held_in}
use Rattle.buffer.specs.OnwardLaws.{Onward, onward_join, onward_all}
use Rattle.image.specs.ImagePieces.{rows_from}
use Rattle.image.specs.PiecesLaws.{rows_all, rows_none}
use Rattle.image.proofs.write.put_rows.Goals as goal
use Rattle.image.proofs.write.put_rows.Goals.{After-put_components-at6, After-put_run, After-put_run-at1, After-put_run-at10, After-put_run-at2, After-put_run-at3, After-put_run-at4, After-put_run-at5, After-put_run-at7, After-put_run-at8, After-put_run-at9, Start}

abbrev held : Start → CpuidResults
held s = held_in s.args.registers.now s.args.origins.now

-- Writing has come from the front of the buffer to index at and place i.
abbrev Reached : Start → List ℕ → ℕ → ℕ → Type 0
Reached s out at i = Onward (rows_from (held s)) s.args.out.now 0 0 out at i

room : (s : Start) {out : List ℕ} {at i : ℕ} → Reached s out at i → at + length (rows_from (held s) i) ≤ length out
room s on = omega (arith, on.room, on.kept, ap length (rows_all (held s)), s.requires.1)

-- ---- after each call
abbrev start1 : After-put_run-at1 → Start
start1 c = c.before.before.before

reached1 : (c : After-put_run-at1) → Reached (start1 c) c.put_run-at1.new.out c.put_run-at1.result 2
reached1 c = c.put_run-at1.ensures

abbrev start2 : After-put_run-at2 → Start
start2 c = c.before.before.before.before.before.before.before

reached2 : (c : After-put_run-at2) → Reached (start2 c) c.put_run-at2.new.out c.put_run-at2.result 3
reached2 c = onward_join _ (reached1 c.before.before.before.before) c.put_run-at2.ensures

abbrev start3 : After-put_run-at3 → Start
start3 c = c.before.before.before.before.before.before.before.before.before.before.before

reached3 : (c : After-put_run-at3) → Reached (start3 c) c.put_run-at3.new.out c.put_run-at3.result 4
reached3 c = onward_join _ (reached2 c.before.before.before.before) c.put_run-at3.ensures

abbrev start4 : After-put_run-at4 → Start
start4 c = c.before.before.before.before.before.before.before.before.before.before.before.before.before.before.before

reached4 : (c : After-put_run-at4) → Reached (start4 c) c.put_run-at4.new.out c.put_run-at4.result 6
reached4 c = onward_join _ (reached3 c.before.before.before.before) c.put_run-at4.ensures

abbrev start5 : After-put_run-at5 → Start
start5 c = c.before.before.before.before.before.before.before.before.before.before.before.before.before.before.before.before.before.before.before

reached5 : (c : After-put_run-at5) → Reached (start5 c) c.put_run-at5.new.out c.put_run-at5.result 8
reached5 c = onward_join _ (reached4 c.before.before.before.before) c.put_run-at5.ensures

abbrev start6 : After-put_components-at6 → Start
start6 c = c.before.before.before.before.before.before.before.before.before.before.before.before.before.before.before.before.before.before.before.before.before.before.before

reached6 : (c : After-put_components-at6) → Reached (start6 c) c.put_components-at6.new.out c.put_components-at6.result 70
reached6 c = onward_join _ (reached5 c.before.before.before.before) c.put_components-at6.ensures

abbrev start7 : After-put_run-at7 → Start
start7 c = c.before.before.before.before.before.before.before.before.before.before.before.before.before.before.before.before.before.before.before.before.before.before.before.before.before.before.before

reached7 : (c : After-put_run-at7) → Reached (start7 c) c.put_run-at7.new.out c.put_run-at7.result 79
reached7 c = onward_join _ (reached6 c.before.before.before.before) c.put_run-at7.ensures

abbrev start8 : After-put_run-at8 → Start
start8 c = c.before.before.before.before.before.before.before.before.before.before.before.before.before.before.before.before.before.before.before.before.before.before.before.before.before.before.before.before.before.before.before

reached8 : (c : After-put_run-at8) → Reached (start8 c) c.put_run-at8.new.out c.put_run-at8.result 80
reached8 c = onward_join _ (reached7 c.before.before.before.before) c.put_run-at8.ensures

abbrev start9 : After-put_run-at9 → Start
start9 c = c.before.before.before.before.before.before.before.before.before.before.before.before.before.before.before.before.before.before.before.before.before.before.before.before.before.before.before.before.before.before.before.before.before.before.before

reached9 : (c : After-put_run-at9) → Reached (start9 c) c.put_run-at9.new.out c.put_run-at9.result 82
reached9 c = onward_join _ (reached8 c.before.before.before.before) c.put_run-at9.ensures

abbrev start10 : After-put_run-at10 → Start
start10 c = c.before.before.before.before.before.before.before.before.before.before.before.before.before.before.before.before.before.before.before.before.before.before.before.before.before.before.before.before.before.before.before.before.before.before.before.before.before.before.before

reached10 : (c : After-put_run-at10) → Reached (start10 c) c.put_run-at10.new.out c.put_run-at10.result 86
reached10 c = onward_join _ (reached9 c.before.before.before.before) c.put_run-at10.ensures

abbrev start11 : After-put_run → Start
start11 c = c.before.before.before.before.before.before.before.before.before.before.before.before.before.before.before.before.before.before.before.before.before.before.before.before.before.before.before.before.before.before.before.before.before.before.before.before.before.before.before.before.before.before.before

reached11 : (c : After-put_run) → Reached (start11 c) c.put_run.new.out c.put_run.result 88
reached11 c = onward_join _ (reached10 c.before.before.before.before) c.put_run.ensures

-- ---- what each call requires
pub put_run-at1-requires : goal.put_run-at1-requires
unfolding lawful_run slot kept_leaves
put_run-at1-requires c = (refl, omega (arith, ap length (rows_all (held (goal.at.put_run-at1-requires c).Start)), c.requires.1))

pub put_run-at2-requires : goal.put_run-at2-requires
unfolding lawful_run slot kept_leaves
put_run-at2-requires c = (refl, room (start1 (goal.at.put_run-at2-requires c).After-put_run-at1) (reached1 (goal.at.put_run-at2-requires c).After-put_run-at1))

pub put_run-at3-requires : goal.put_run-at3-requires
unfolding lawful_run slot kept_leaves
put_run-at3-requires c = (refl, room (start2 (goal.at.put_run-at3-requires c).After-put_run-at2) (reached2 (goal.at.put_run-at3-requires c).After-put_run-at2))

pub put_run-at4-requires : goal.put_run-at4-requires
unfolding lawful_run slot kept_leaves
put_run-at4-requires c = (refl, room (start3 (goal.at.put_run-at4-requires c).After-put_run-at3) (reached3 (goal.at.put_run-at4-requires c).After-put_run-at3))

pub put_run-at5-requires : goal.put_run-at5-requires
unfolding lawful_run slot kept_leaves
put_run-at5-requires c = (refl, room (start4 (goal.at.put_run-at5-requires c).After-put_run-at4) (reached4 (goal.at.put_run-at5-requires c).After-put_run-at4))

pub put_components-at6-requires : goal.put_components-at6-requires
put_components-at6-requires c = ((start5 (goal.at.put_components-at6-requires c).After-put_run-at5).requires.0, room (start5 (goal.at.put_components-at6-requires c).After-put_run-at5) (reached5 (goal.at.put_components-at6-requires c).After-put_run-at5))

pub put_run-at7-requires : goal.put_run-at7-requires
unfolding lawful_run slot kept_leaves
put_run-at7-requires c = (refl, room (start6 (goal.at.put_run-at7-requires c).After-put_components-at6) (reached6 (goal.at.put_run-at7-requires c).After-put_components-at6))

pub put_run-at8-requires : goal.put_run-at8-requires
unfolding lawful_run slot kept_leaves
put_run-at8-requires c = (refl, room (start7 (goal.at.put_run-at8-requires c).After-put_run-at7) (reached7 (goal.at.put_run-at8-requires c).After-put_run-at7))

pub put_run-at9-requires : goal.put_run-at9-requires
unfolding lawful_run slot kept_leaves
put_run-at9-requires c = (refl, room (start8 (goal.at.put_run-at9-requires c).After-put_run-at8) (reached8 (goal.at.put_run-at9-requires c).After-put_run-at8))

pub put_run-at10-requires : goal.put_run-at10-requires
unfolding lawful_run slot kept_leaves
put_run-at10-requires c = (refl, room (start9 (goal.at.put_run-at10-requires c).After-put_run-at9) (reached9 (goal.at.put_run-at10-requires c).After-put_run-at9))

pub put_run-requires : goal.put_run-requires
unfolding lawful_run slot kept_leaves
put_run-requires c = (refl, room (start10 (goal.at.put_run-requires c).After-put_run-at10) (reached10 (goal.at.put_run-requires c).After-put_run-at10))

-- ---- the whole
pub returns : goal.returns
returns c =
    let t = held (start11 (goal.at.returns c).After-put_run) in
    onward_all (rows_from t) _ _ _ _ _ _ (rows_none t) (reached11 (goal.at.returns c).After-put_run) ∙ ap (sets _ 0) (rows_all t)
