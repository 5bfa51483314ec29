-- Document 01, "Where each check stands", from the required leaves on: one verdict a check.
use Rattle.std.specs.Prelude.{Bool, ℕ, Err, None, Ok, Option, Result, Some}
use Rattle.bits.specs.Choice.{pick}
use Rattle.bits.specs.Search.{Failing, lowest}
use Rattle.bits.specs.Search.Failing.{at, none}
use Rattle.bits.specs.Bits.{has}
use Rattle.x86defs.specs.declared.CpuidResult.{CpuidResult}
use Rattle.x86defs.specs.Functions.{ExtendedStateEnumeration}
use Rattle.x86defs.specs.ExtendedAddressSpaceSizesEbx as Sizes
use Rattle.topology.specs.Topology.{topology_of}
use Rattle.masking.specs.Place
use Rattle.table.specs.declared.Refusal.{Refusal}
use Rattle.table.specs.declared.Refusal.TheVariants.{MissingRequiredResult, InvlpgbUnavailable, SaveAreaOverflow, TopologyInconsistent}
use Rattle.table.specs.Refusal.{and_then}
use Rattle.table.specs.Rows.{Rows}
use Rattle.checks.specs.Required.{required_at, required_count, place_required}
use Rattle.checks.specs.ExtendedState.{xfem, combined_mask, supplied, save_area, size_of}
use Rattle.checks.specs.TopologyInputs.{inputs_of}
use Rattle.table.specs.Verdict.{Verdict}
use Rattle.topology.specs.declared.TopologyError.{TopologyError}

-- refused at the first that fails, if one does
abbrev pub refuse_at : Failing → (ℕ → Refusal) → Verdict
refuse_at (at j) r = Err (r j)
refuse_at none r = Ok tt

-- accepted where the test holds
abbrev pub refuse_unless : Bool → Refusal → Verdict
refuse_unless ok r = pick ok (Ok tt) (Err r)

abbrev pub missing_required : ℕ → Refusal
missing_required j = MissingRequiredResult (required_at j).leaf (required_at j).subleaf

-- 3: the first required leaf, in list order, without a row
unfoldable pub required_verdict : Rows → Verdict
required_verdict m = refuse_at (lowest (λ j. (m (place_required j)).present) 0 required_count) missing_required

-- 4: 80000008h.EBX bit 3 clear, of its row
abbrev pub invlpgb_of : CpuidResult → Verdict
invlpgb_of r = refuse_unless (has (Sizes.position Sizes.ExtendedAddressSpaceSizesEbx.invlpgb) r.ebx) InvlpgbUnavailable

unfoldable pub invlpgb_verdict : Rows → Verdict
invlpgb_verdict m = invlpgb_of (m Place.extended_address_space_sizes).result

abbrev pub missing_component : ℕ → Refusal
missing_component k = MissingRequiredResult ExtendedStateEnumeration (Some k)

-- 3: a D subleaf that the mask x needs is absent, ascending
unfoldable pub components_of : Rows → ℕ → Verdict
components_of m x = refuse_at (lowest (supplied m x) 2 62) missing_component

unfoldable pub components_verdict : Rows → Verdict
components_verdict m = components_of m (combined_mask m)

-- 5: a sum overflows
abbrev pub size_verdict : Option ℕ → Verdict
size_verdict (Some n) = Ok tt
size_verdict None = Err SaveAreaOverflow

unfoldable pub area_verdict : Rows → Verdict
area_verdict m = size_verdict (size_of (save_area m (xfem m)))

abbrev pub topology_refusal : Result ℕ TopologyError → Verdict
topology_refusal (Ok v) = Ok tt
topology_refusal (Err e) = Err (TopologyInconsistent e)

-- 6, 7, 8
unfoldable pub topology_verdict : Rows → Verdict
topology_verdict m = topology_refusal (topology_of (inputs_of m))

-- in order
unfoldable pub rows_verdict : Rows → Verdict
rows_verdict m =
    and_then (required_verdict m) (and_then (invlpgb_verdict m) (and_then (components_verdict m) (and_then (area_verdict m) (topology_verdict m))))
