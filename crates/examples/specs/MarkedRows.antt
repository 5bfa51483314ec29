-- Document 01, "Rows to prove": the fourteen marked rows as one table; edition 1 is document 01's.
use Rattle.std.specs.Prelude.{◌≡◌, refl, Bool, false, List, [], ◌∷◌, ℕ, eqb, Err, Ok, Result}
use Rattle.bits.specs.Choice.{pick}
use Rattle.x86defs.specs.Functions.{cpuid_result}
use Rattle.topology.specs.Topology.{inputs, topology_of, core_level}
use Rattle.masking.specs.Place
use Rattle.table.specs.Refusal.{details, topology_details}
use Rattle.table.specs.Rows.{Rows, row, vacant}
use Rattle.checks.specs.Checks.{area_verdict}
use Rattle.finish.specs.Finish.{finished}
use Rattle.page_sets.specs.Evaluation.{opened}
use Rattle.table.specs.Verdict.{Verdict}
use Rattle.topology.specs.declared.TopologyError.{TopologyError}

-- what a marked row tells
pub data Shown : Type 0 where
  -- B.1's EAX and EBX
  core : ℕ → ℕ → Shown
  -- a refusal's number
  refusal : ℕ → Shown
  -- D.0.ECX
  area : ℕ → Shown
  -- D.1.ECX, and whether D.11 is there
  supervisor : ℕ → Bool → Shown

shown_topology : Result ℕ TopologyError → Shown
shown_topology (Ok v) = core (core_level v).eax (core_level v).ebx
shown_topology (Err e) = refusal (topology_details e).number

-- T: s, nc, lps, mt, t
T : ℕ → ℕ → ℕ → ℕ → ℕ → Shown
unfolding shown_topology
T s nc lps mt t = shown_topology (topology_of (inputs s nc lps mt t))

-- rows that hold D.0 with its EAX, D.1 with its EAX and ECX, D.2 with its EAX and EBX, and D.11
state_rows : ℕ → ℕ → ℕ → ℕ → ℕ → Rows
state_rows xfem xsaves xss eax ebx i =
    pick (eqb i (Place.extended_state 0)) (row (cpuid_result xfem 0 0 0))
    (pick (eqb i (Place.extended_state 1)) (row (cpuid_result xsaves 0 xss 0))
    (pick (eqb i (Place.extended_state 2)) (row (cpuid_result eax ebx 0 0)) (pick (eqb i (Place.extended_state 11)) (row (cpuid_result 16 0 1 0)) vacant)))

shown_area : Verdict → Rows → Shown
shown_area (Ok _) m = area (finished 1 m (Place.extended_state 0)).result.ecx
shown_area (Err r) m = refusal (details r).number

-- X: XFEM, and D.2's EAX and EBX
X : ℕ → ℕ → ℕ → Shown
unfolding shown_area state_rows
X xfem eax ebx = let m : Rows = state_rows xfem 0 0 eax ebx in shown_area (area_verdict m) m

-- C: D.1's EAX and ECX
C : ℕ → ℕ → Shown
unfolding state_rows
C xsaves xss =
    let m : Rows = state_rows 7 xsaves xss 256 576 in
    supervisor (finished 1 m (Place.extended_state 1)).result.ecx (finished 1 m (Place.extended_state 11)).present

pub marked : List Shown
unfolding T X C
marked =
    T 0 0 0 0 0
    ∷ T 0 0 2 0 0
    ∷ T 0 2 3 1 0
    ∷ T 0 255 0 1 0
    ∷ T 7 127 128 1 1
    ∷ T 7 128 128 1 0
    ∷ T 7 127 128 0 0
    ∷ T 8 0 0 0 1
    ∷ T 15 0 0 0 0
    ∷ T 0 0 1 1 1
    ∷ X 3 0 0
    ∷ X 7 256 576
    ∷ X 7 0xFFFFFFFF 1
    ∷ X 7 0xFFFFFFFF 0
    ∷ C 2 0x1800
    ∷ []

-- X3 has two figures
pub marked_rows : marked
    ≡ core 0 1
    ∷ refusal 6
    ∷ core 2 3
    ∷ refusal 7
    ∷ core 7 128
    ∷ refusal 7
    ∷ refusal 6
    ∷ core 8 256
    ∷ core 15 32768
    ∷ refusal 8
    ∷ area 576
    ∷ area 832
    ∷ refusal 5
    ∷ area 0xFFFFFFFF
    ∷ supervisor 0 false
    ∷ []
unfolding marked opened
marked_rows = refl
