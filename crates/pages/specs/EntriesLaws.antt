-- Where a Dh entry counts.
use Rattle.std.specs.Prelude.{◌≡◌, refl, ℕ, eqb}
use Rattle.x86defs.specs.declared.CpuidResult.{CpuidResult}
use Rattle.x86defs.specs.Functions.{ExtendedStateEnumeration}
use Rattle.pages.specs.Entries.{counts}

-- on page 1 alone
pub dh_counts_on_page_1 : (p q k : ℕ) (r : CpuidResult)
    → counts (record { page = p; position = q; leaf = ExtendedStateEnumeration; subleaf = k; registers = r }) ≡ eqb p 1
unfolding counts
dh_counts_on_page_1 p q k r = refl
