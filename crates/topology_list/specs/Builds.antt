-- Building and the list: of page sets with s up to 7, the topology lets through exactly what is listed, and the table's B.0 and B.1 are then what
-- document 01 makes of the listed input: "B.0 becomes EAX 1 or 0 (SMT on, off), EBX 2 or 1, ECX 100h, EDX 0. B.1 becomes EAX the shift, EBX v, ECX
-- 201h, EDX 0".
use Rattle.std.specs.Prelude.{◌≡◌, List, ◌↔◌, ℕ, ◌<◌, Ok}
use Rattle.topology.specs.Topology.{Inputs, topology_of, thread_level, core_level}
use Rattle.masking.specs.Place
use Rattle.table.specs.declared.Choices.{Choices}
use Rattle.table.specs.declared.CpuidResults.{CpuidResults}
use Rattle.table.specs.Refusal.{and_then}
use Rattle.table.specs.Rows.{row}
use Rattle.table.specs.Table.{row_in}
use Rattle.checks.specs.Checks.{required_verdict, invlpgb_verdict, components_verdict, area_verdict}
use Rattle.checks.specs.TopologyInputs.{inputs_of}
use Rattle.build.specs.Build.{edition_verdict, rows_for, answer}
use Rattle.collect.specs.Lawful.{lawful_verdict}
use Rattle.topologies.specs.Topologies.{accepted_inputs}
use Rattle.topology_list.specs.Listed.{In}
use Rattle.table.specs.Verdict.{Verdict}

-- the five inputs of a page set
abbrev pub inputs_for : Choices → List ℕ → Inputs
inputs_for chosen s = inputs_of (rows_for chosen s)

-- every check of building but the last, the topology
abbrev pub before_topology : Choices → List ℕ → Verdict
before_topology chosen s =
    and_then (edition_verdict chosen.edition)
    (and_then (lawful_verdict s)
    (and_then (required_verdict (rows_for chosen s))
    (and_then (invlpgb_verdict (rows_for chosen s)) (and_then (components_verdict (rows_for chosen s)) (area_verdict (rows_for chosen s))))))

-- B.0 and B.1 of a table, by five inputs that give v processors
pub record Levels (i : Inputs) (t : CpuidResults) : Type 0 where
  pub v : ℕ
  pub processors : topology_of i ≡ Ok v
  pub threads : row_in t Place.thread_level ≡ row (thread_level i.t)
  pub cores : row_in t Place.core_level ≡ row (core_level v)

pub record BuildsListed (chosen : Choices) (s : List ℕ) : Type 0 where
  -- with s up to 7: accepted if and only if no check before refuses and the inputs are listed
  pub accepted : (inputs_for chosen s).s < 8
      → ((answer chosen s).verdict ≡ Ok tt) ↔ ((before_topology chosen s ≡ Ok tt) × In (inputs_for chosen s) accepted_inputs)
  -- a listed input is refused by none of 6, 7 and 8: the answer is that of the checks before
  pub passes : In (inputs_for chosen s) accepted_inputs → (answer chosen s).verdict ≡ before_topology chosen s
  -- the table that a listed input gives
  pub levels : (answer chosen s).verdict ≡ Ok tt → In (inputs_for chosen s) accepted_inputs → Levels (inputs_for chosen s) (answer chosen s).table
