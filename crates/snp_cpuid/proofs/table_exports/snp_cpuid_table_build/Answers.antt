-- `snp_cpuid_table_build` meets its contract: the built answer's numbers, and its table in the caller's memory.
use borrow.Author.Rules.{rules}
use mathlib.Core.Path.{refl, ◌∙◌}
use Rattle.snp_cpuid.specs.ExportsLaws.{built_told}
use Rattle.snp_cpuid.proofs.table_exports.snp_cpuid_table_build.Goals as goal

pub returns : goal.returns
returns c = record { value = c.built_table_numbers.ensures ∙ built_told _ _ c.build_into-verdict.ensures; table_in = record { verdict = refl; registers = c.build_into-verdict.ensures.registers; origins = c.build_into-verdict.ensures.origins; table = c.build_into-verdict.ensures.table } }

pub build_into-verdict-requires : goal.build_into-verdict-requires
build_into-verdict-requires c = c.clear.ensures
