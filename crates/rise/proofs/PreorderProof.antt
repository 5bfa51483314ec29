-- Rises compose, each accepted server and each table rises to itself, and two tables rise to each other exactly where they have the same rows.
use Rattle.std.specs.Prelude.{List, ℕ}
use Rattle.table.specs.declared.Choices.{Choices}
use Rattle.finish.specs.Kinds.{kinds_at}
use Rattle.rise.specs.Rise.{RiseHypothesis}
use Rattle.rise.proofs.RiseProof.{demand_3}
use Rattle.rise.specs.PreorderProof.{entries_compose}

-- ---- servers: the first two are accepted, each by its own hypothesis

pub rises_compose : (chosen : Choices) (a b c : List ℕ) → RiseHypothesis chosen a b → RiseHypothesis chosen b c → RiseHypothesis chosen a c
rises_compose chosen a b c p q = record {
  accepted = p.accepted;
  lawful = q.lawful;
  entries = λ i l f e.
      let first = p.entries i l f e in
      let second = q.entries i l f (((demand_3 chosen a b p).table q.accepted).rows i l e) in
      record { present = second.present; registers = entries_compose (kinds_at i) _ _ _ first.registers second.registers };
}
