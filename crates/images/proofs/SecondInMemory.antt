-- Document 02, P8 in lent memory: "The new table must equal what edition 2 would have made of the original pages". Memory in which pages were built
-- and accepted under edition 1, once it is carried, is memory in which they were built under edition 2, every word and origin.
use Rattle.std.specs.Prelude.{◌≡◌, List, ℕ, Ok}
use Rattle.std.proofs.Common.{sym, ap, ◌∙◌, subst}
use Rattle.table.specs.declared.Choices.{Choices}
use Rattle.table.specs.declared.CpuidResults.{CpuidResults}
use Rattle.table.specs.Table.{row_in}
use Rattle.memory.specs.Memory.{layout}
use Rattle.memory.specs.Held.{held_in}
use Rattle.build.specs.Build.{answer, InMemory}
use Rattle.rise.specs.Rise.{with_edition}
use Rattle.carry.specs.Carry.{carry}
use Rattle.carry.specs.CarriedInPlace.{left_by, CarriedIn}
use Rattle.rise.proofs.SecondProof.{second_edition}
use Rattle.images.specs.Moves.{table_under}
use Rattle.images.proofs.MovesProof.{moves_to_second}
use Rattle.images.specs.SecondInMemory.{SecondInMemory}
use Rattle.table.specs.Verdict.{Verdict}

pub second_in_memory : SecondInMemory
second_in_memory c s v w o h accepted xcr0 xss d w₁ k carried =
    let t : CpuidResults = table_under 1 c s in
    let of_pages : CarriedIn (carry t 1 2 xcr0 xss) d w o w₁ = subst (λ (u : CpuidResults). CarriedIn (carry u 1 2 xcr0 xss) d w o w₁) h.table k in
    let built : (answer (with_edition c 1) s).verdict ≡ (Ok tt) = sym h.verdict ∙ accepted in
    let given : (carry t 1 2 xcr0 xss).verdict ≡ (Ok tt) = sym of_pages.verdict ∙ carried in
    let same : (carry t 1 2 xcr0 xss).table ≡ table_under 2 c s = (moves_to_second c s xcr0 xss built).table given in
    record {
      verdict = carried ∙ sym built ∙ sym (second_edition c s).verdict;
      registers =
          of_pages.registers
          ∙ ap (λ (e : Verdict). left_by e (carry t 1 2 xcr0 xss) w) given
          ∙ ap (λ (u : CpuidResults). layout (λ i. (row_in u i).result)) same;
      origins = h.origins ∙ sym (second_edition c s).origins;
      table = of_pages.table carried ∙ same;
    }
