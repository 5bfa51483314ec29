-- `masking::masks::kept_leaves` meets its contract: its 23 rows are those of `kept_leaves`, every mask computed from its named bits and fields.
use mathlib.Core.Path.{ap}
use mathlib.Core.Bool.{false}
use mathlib.Core.List.{List}
use Prim.Native.Nat.{ℕ}
use lib.ListN.{set}
use lib.Bits.{bit_or}
use Rattle.bits.specs.Bits.{mask_of, field_mask}
use Rattle.x86defs.specs.Fields.{fields_mask}
use Rattle.masking.specs.Masks.{version_and_features, extended_features, extended_state0, extended_state1, extended_version_and_features, extended_address_space_sizes, extended_svm, extended_optimization, extended_sev, secure_avic_mask}
use Rattle.masking.specs.Kept.{kept_leaves}
use Rattle.masking.specs.MaskTable.{table, row_at}
use Rattle.masking.specs.declared.masks.KeptLeaf.{KeptLeaf}
use Rattle.masking.proofs.masks.kept_leaves.Goals as goal

-- the table with n added to the mask of 8000001Fh.EAX
abbrev adding : ℕ → List KeptLeaf
adding n =
    let r : KeptLeaf = row_at false 22 in
    set (table false) 22
    (record {
      leaf = r.leaf;
      eax = bit_or r.eax n;
      ebx = r.ebx;
      ecx = r.ecx;
      edx = r.edx;
      subleaf = r.subleaf;
    })

pub returns : goal.returns
unfolding table kept_leaves version_and_features extended_features extended_state0 extended_state1 extended_version_and_features extended_address_space_sizes extended_svm extended_optimization extended_sev secure_avic_mask mask_of fields_mask field_mask
returns c = ap adding c.secure_avic_mask.ensures
