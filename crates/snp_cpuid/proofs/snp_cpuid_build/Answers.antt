-- `snp_cpuid_build` meets its contract: the built answer's numbers.
use borrow.Author.Rules.{rules}
use mathlib.Core.Path.{◌∙◌}
use Rattle.snp_cpuid.specs.ExportsLaws.{built_told}
use Rattle.snp_cpuid.proofs.snp_cpuid_build.Goals as goal

pub returns : goal.returns
returns c =
    c.built_table_numbers.ensures ∙ built_told _ _ c.build_into-verdict.ensures
