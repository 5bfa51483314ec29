-- `snp_cpuid_guest_lookup` meets its contract: the lookup in the guest's table, with the origin of the paravisor's row.
use borrow.Author.Rules.{rules}
use mathlib.Core.Path.{ap, ◌∙◌}
use Rattle.table.specs.declared.CpuidResults.{CpuidResults}
use Rattle.build.specs.Build.{answer}
use Rattle.answers.specs.Answers.{choices_of, found_at}
use Rattle.snp_cpuid.specs.GuestExports.{found_seen}
use Rattle.snp_cpuid.proofs.guest_exports.snp_cpuid_guest_lookup.Goals as goal

pub returns : goal.returns
returns c =
    let chosen = choices_of c.args.secure_avic c.args.edition in
    rw (← c.processor-v.ensures, ← c.subleaf_of-named.ensures)
    (c.found_at.ensures
    ∙ ap (λ (t : CpuidResults). found_at t c.guest_pages.new.origins c.args.leaf c.subleaf_of-named.result c.args.enforce_subleaf) c.guest_pages.ensures.table
    ∙ found_seen chosen c.args.pages.now c.processor-v.result c.guest_pages.new.origins (answer chosen c.args.pages.now).origins c.args.leaf c.subleaf_of-named.result c.args.enforce_subleaf
    (λ e. c.guest_pages.ensures.origins (c.guest_pages.ensures.verdict ∙ e)))
