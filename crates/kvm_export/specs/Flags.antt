-- "flag 1 where the row has a subleaf, else flag and index 0" (document 02, P2), place by place: the 88 places in order, of which 7.0, B.0 and B.1,
-- D.0 to D.63 and 8000001Dh.0 to .3 have a subleaf.
use Rattle.std.specs.Prelude.{◌≡◌, refl, List, [], ◌∷◌, ◌++◌, ℕ, replicate}
use Rattle.bits.specs.Lists.{tabulate}
use Rattle.x86defs.specs.Functions.{cpuid_result}
use Rattle.masking.specs.Kept.{places, kept_leaves, slot}
use Rattle.kvm_export.specs.Export.{list_row}

abbrev pub flags : List ℕ
flags = tabulate places (λ i. (list_row i (cpuid_result 0 0 0 0)).flags)

abbrev pub indexes : List ℕ
indexes = tabulate places (λ i. (list_row i (cpuid_result 0 0 0 0)).index)

pub flags_are : flags ≡ replicate 3 0 ++ replicate 67 1 ++ replicate 12 0 ++ replicate 4 1 ++ replicate 2 0
unfolding kept_leaves slot tabulate
flags_are = refl

pub indexes_are : indexes ≡ replicate 4 0 ++ (0 ∷ 1 ∷ []) ++ tabulate 64 (λ k. k) ++ replicate 12 0 ++ (0 ∷ 1 ∷ 2 ∷ 3 ∷ []) ++ replicate 2 0
unfolding kept_leaves slot tabulate
indexes_are = refl
