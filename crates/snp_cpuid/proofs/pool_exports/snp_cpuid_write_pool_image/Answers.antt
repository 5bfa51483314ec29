-- `snp_cpuid_write_pool_image` meets its contract: the write of the pool's image, and its answer's numbers.
use mathlib.Core.Path.{ap, ◌∙◌}
use Rattle.answers.specs.Answers.{written_numbers}
use borrow.Author.Rules.{rules}
use Rattle.snp_cpuid.proofs.pool_exports.snp_cpuid_write_pool_image.Goals as goal

pub returns : goal.returns
returns c = record { value = c.from.ensures ∙ ap written_numbers c.write_pool_image.ensures.value; out_after = c.write_pool_image.ensures.out_after }
