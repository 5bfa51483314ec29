-- The finished rows of any first entries, computed to the paper's figures.
use Rattle.std.specs.Prelude.{◌≡◌, Bool, ◌&&◌, map, ℕ, eqb, ltb}
use Rattle.std.proofs.Math.Path.{refl}
use Rattle.std.proofs.Math.Bool.{true, false}
use Rattle.std.proofs.Common.{eqb-true}
use Rattle.bits.specs.Choice.{pick}
use Rattle.bits.specs.ChoiceLaws.{and_left, and_right}
use Rattle.bits.specs.Lists.{tabulate}
use Rattle.bits.specs.Bits.{has, bit, field, field_mask, mask_of, clear, clear_unless}
use Rattle.x86defs.specs.declared.CpuidResult.{CpuidResult}
use Rattle.x86defs.specs.Functions.{AmdMaximum, ExtendedAmdMaximum}
use Rattle.x86defs.specs.Fields.{fields_mask}
use Rattle.masking.specs.Masks as Masks
use Rattle.masking.specs.Kept.{kept_leaves, place_of, slot}
use Rattle.table.specs.Edition.{known_edition, joined_from, bits_between}
use Rattle.table.proofs.EditionLaws.{each_edition}
use Rattle.table.specs.Rows.{Rows, row, vacant}
use Rattle.topology.specs.Topology as Topology
use Rattle.checks.specs.ExtendedState as State
use Rattle.checks.specs.TopologyInputs.{inputs_of}
use Rattle.collect.specs.FirstEntries.{legacy_features, masked_at}
use Rattle.finish.specs.Finish as Finish
use Rattle.letter.specs.Paper.{Line, masked, version_clears, extended_clears, lines_with, xfem, avx512, combined, area, least_from}
use Rattle.letter.specs.Names.{place_for}
use Rattle.letter.specs.Figures.{clears_said, e, said_test}

pub clears_same : (n : ℕ) → known_edition n ≡ true → Finish.ymm_clears n ≡ clears_said n
unfolding Finish.ymm_clears Finish.edition1 bits_between joined_from mask_of
clears_same n e =
    let t : said_test n ≡ true = each_edition said_test refl n e in
    let p = eqb-true _ _ (and_left (eqb (Finish.ymm_clears n).version_ecx (version_clears n)) _ t) in
    let q = eqb-true _ _ (and_right (eqb (Finish.ymm_clears n).version_ecx (version_clears n)) _ t) in
    λ i. record { version_ecx = p i; features_ebx = 0x20; features_ecx = 0x700; extended_version_ecx = q i }
