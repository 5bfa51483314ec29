-- The bits of one row, as the code searches them: flipped in the entry's registers, masked, and put at the entry's place.
use Rattle.std.specs.Prelude.{Bool, ℕ, ◌/◌, ◌%◌, None, Option, Some}
use Rattle.bits.specs.Search.{Failing, lowest}
use Rattle.bits.specs.Search.Failing.{at, none}
use Rattle.x86defs.specs.declared.CpuidResult.{CpuidResult}
use Rattle.masking.specs.Masks.{apply_mask}
use Rattle.masking.specs.declared.masks.KeptLeaf.{KeptLeaf}
use Rattle.masking.specs.MaskTable.{masks_of}
use Rattle.table.specs.Rows.{Rows}
use Rattle.collect.specs.FirstEntries.{set_legacy}
use Rattle.nearest.specs.OneBit.{one_bit, xor_result}
use Rattle.nearest.specs.SameVerdict.{same_from}
use Rattle.nearest.specs.WithRow.{with_row}

-- whether flip j of an entry's registers x, masked for place i, keeps the answer
unfoldable pub keeps : ℕ → Rows → KeptLeaf → ℕ → CpuidResult → ℕ → Bool
keeps n m kept i x j = same_from n (with_row i (set_legacy i (apply_mask (masks_of kept) (xor_result x (one_bit (j / 32) (j % 32))))) m) m

abbrev pub bit_found : Failing → Option ℕ
bit_found (at j) = Some j
bit_found none = None

unfoldable pub first_bit : ℕ → Rows → KeptLeaf → ℕ → CpuidResult → Option ℕ
first_bit n m kept i x = bit_found (lowest (keeps n m kept i x) 0 128)
