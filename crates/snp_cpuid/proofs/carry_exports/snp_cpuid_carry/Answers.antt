-- `snp_cpuid_carry` meets its contract: the numbers of what carrying the image answers, and its bytes.
use borrow.Author.Rules.{rules}
use mathlib.Core.Path.{ap, ◌∙◌}
use Rattle.answers.specs.CarriedAnswers.{carried_numbers}
use Rattle.snp_cpuid.proofs.carry_exports.snp_cpuid_carry.Goals as goal

pub returns : goal.returns
returns c = record { value = c.from.ensures ∙ ap carried_numbers c.carry_image.ensures.value; image_after = c.carry_image.ensures.image_after }
