-- Document 01, "Misreadings": the order of the checks, on rows where the right reading and the wrong one differ. By computation.
use Rattle.std.specs.Prelude.{◌≡◌, refl, Err, None}
use Rattle.bits.specs.Search.{lowest}
use Rattle.bits.specs.Bits.{bit, has}
use Rattle.x86defs.specs.Functions.{VersionAndFeatures}
use Rattle.masking.specs.Kept.{kept_leaves, place_of}
use Rattle.table.specs.declared.Refusal.TheVariants.{MissingRequiredResult}
use Rattle.table.specs.Rows.{vacant}
use Rattle.checks.specs.Required.{required_at, place_required, common_required_leaves, snp_required_leaves}
use Rattle.checks.specs.Checks.{required_verdict, invlpgb_verdict, rows_verdict}

-- the leaves are tested before INVLPGB: of no rows at all, leaf 1 is the first that is missing
pub leaves_before_invlpgb : rows_verdict (λ i. vacant) ≡ Err (MissingRequiredResult VersionAndFeatures None)
unfolding rows_verdict required_verdict invlpgb_verdict lowest place_required required_at common_required_leaves snp_required_leaves place_of kept_leaves has bit
leaves_before_invlpgb = refl
