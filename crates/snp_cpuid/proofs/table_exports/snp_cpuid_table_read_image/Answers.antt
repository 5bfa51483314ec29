-- `snp_cpuid_table_read_image` meets its contract: the image's table in the caller's memory, and its counts.
use borrow.Author.Rules.{rules}
use mathlib.Core.Path.{refl, ap₂, ◌∙◌}
use Rattle.image_read.specs.ReadHeld.{read_held}
use Rattle.answers.specs.Answers.{read_with}
use Rattle.snp_cpuid.proofs.table_exports.snp_cpuid_table_read_image.Goals as goal

pub returns : goal.returns
returns c = record { value = c.read_numbers.ensures ∙ ap₂ read_with c.read_image-is_image.ensures.read_in.image (read_held c.read_image-is_image.ensures.read_in); read_in = record { image = refl; registers = c.read_image-is_image.ensures.read_in.registers; origins = c.read_image-is_image.ensures.read_in.origins } }
