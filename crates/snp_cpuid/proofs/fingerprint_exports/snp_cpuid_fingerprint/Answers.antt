-- `snp_cpuid_fingerprint` meets its contract: the built answer's numbers, and its table's fingerprint.
use borrow.Author.Rules.{rules}
use mathlib.Core.Path.{ap, ap₂, ◌∙◌}
use Rattle.fingerprint.specs.Fingerprint.{fingerprint}
use Rattle.answers.specs.Answers.{held_numbers}
use Rattle.snp_cpuid.proofs.fingerprint_exports.snp_cpuid_fingerprint.Goals as goal

pub returns : goal.returns
returns c = record { value = c.table_numbers.ensures ∙ ap₂ held_numbers c.build_into-verdict.ensures.verdict c.build_into-verdict.ensures.table; digest_after = c.fingerprint.ensures ∙ ap fingerprint c.build_into-verdict.ensures.table }
