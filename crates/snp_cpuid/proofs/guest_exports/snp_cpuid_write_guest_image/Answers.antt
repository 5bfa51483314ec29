-- `snp_cpuid_write_guest_image` meets its contract: the write of the guest's image, and its answer's numbers.
use mathlib.Core.Path.{ap, ◌∙◌}
use Rattle.answers.specs.Answers.{written_numbers}
use borrow.Author.Rules.{rules}
use Rattle.snp_cpuid.proofs.guest_exports.snp_cpuid_write_guest_image.Goals as goal

pub returns : goal.returns
returns c = record { value = rw (← c.processor-v.ensures) (c.from.ensures ∙ ap written_numbers c.write_guest_image.ensures.value); out_after = rw (← c.processor-v.ensures) (c.write_guest_image.ensures.out_after) }
