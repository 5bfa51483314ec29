-- `pages::registers_at` meets its contract: four words.
use Rattle.x86defs.specs.Functions.{cpuid_result}
use Rattle.pages.specs.Layout.{registers_at}
use Rattle.pages.proofs.registers_at.Goals as goal

pub returns : goal.returns
unfolding registers_at
returns c =
    λ i. cpuid_result (c.word_at.ensures i) (c.word_at-2.ensures i) (c.word_at-3.ensures i) (c.word_at-4.ensures i)
