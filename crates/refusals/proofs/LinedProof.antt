-- The bounds on what building's refusals name, and with them their lines.
use Rattle.std.specs.Prelude.{◌≡◌, List, ℕ, Err}
use Rattle.std.proofs.Common.{sym, ap, ◌∙◌}
use Rattle.pages.specs.Bytes.{AreBytes}
use Rattle.table.specs.declared.Choices.{Choices}
use Rattle.table.specs.declared.Refusal.{Refusal}
use Rattle.build.specs.Build.{answer}
use Rattle.lines.proofs.LinePromises.{lines_differ}
use Rattle.refusals.specs.Exactly.{FirstFault}
use Rattle.refusals.proofs.ExactlyProof.{builds_exactly}
use Rattle.refusals.specs.Lined.{refusal_of, told_of, Lined, BuildingLined, LinesTell}
use Rattle.refusals.specs.LinedProof.{Small, fault_small, small_lined}

refusal_small : (chosen : Choices) (s : List ℕ) → AreBytes s → (r : Refusal) → (answer chosen s).verdict ≡ Err r → Small r
refusal_small chosen s h r e =
    let f : FirstFault chosen s r = ((builds_exactly chosen s).refused r).0 e in
    fault_small chosen s h f.check r f.fault

pub building_lined : BuildingLined
building_lined chosen s h r e = small_lined r (refusal_small chosen s h r e)

pub lines_tell : LinesTell
lines_tell c d s t h k q r e f same =
    let a : Lined q = building_lined c s h q e in
    let b : Lined r = building_lined d t k r f in
    sym a.tells
    ∙ ap refusal_of (lines_differ (told_of q) (told_of r) a.fits b.fits a.is_writable b.is_writable same)
    ∙ b.tells
