-- First entries in lent memory before they are masked, some of them masked, and what is set in row D.0 after it.
use Rattle.std.specs.Prelude.{◌≡◌, Bool, false, List, ℕ, ◌*◌, ◌<◌, length, get_or}
use Rattle.std.specs.Int.Bits.{bit_or}
use Rattle.bits.specs.Choice.{pick}
use Rattle.x86defs.specs.declared.CpuidResult.{CpuidResult}
use Rattle.x86defs.specs.Functions.{cpuid_result}
use Rattle.masking.specs.Masks.{apply_mask}
use Rattle.masking.specs.Kept.{places, masks_at}
use Rattle.memory.specs.Memory.{row_of, is_there}
use Rattle.collect.specs.FirstEntries.{words, legacy_features}

-- each row is four words of 32 bits, and all are 0 where there is no row
pub record Unmasked (w o : List ℕ) : Type 0 where
  pub size : length w ≡ 4 * places
  pub wide : (i : ℕ) → i < places → words (row_of w i) ≡ row_of w i
  pub none : (i : ℕ) → i < places → is_there (get_or o i 0) ≡ false → row_of w i ≡ cpuid_result 0 0 0 0

-- memory `v` is `w` with the places masked that `done` has
pub record Masked (avic : Bool) (w v : List ℕ) (done : ℕ → Bool) : Type 0 where
  pub size : length v ≡ 4 * places
  pub at : (j : ℕ) → row_of v j ≡ pick (done j) (apply_mask (masks_at avic j) (row_of w j)) (row_of w j)

abbrev pub legacy_row : Bool → CpuidResult → CpuidResult
legacy_row there r = cpuid_result (pick there (bit_or r.eax legacy_features) r.eax) r.ebx r.ecx r.edx
