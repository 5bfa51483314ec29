-- "ordered by page, entry, register (EAX, EBX, ECX, EDX) and bit from 0" (document 02, P13), with figures: three entries, two on page 0 and one on
-- page 1. Of their 384 flips the 1st, 2nd, 33rd, 128th, 129th, 257th and 384th.
use Rattle.std.specs.Prelude.{◌≡◌, refl, List, [], ◌∷◌, map, ℕ, get_or}
use Rattle.bits.specs.Lists.{tabulate}
use Rattle.x86defs.specs.Functions.{function, cpuid_result}
use Rattle.pages.specs.Layout.{Entry}
use Rattle.nearest.specs.declared.flips.Flip.{Flip}
use Rattle.nearest.specs.Flips.{flip, flips_of, flips_in}

abbrev at : ℕ → ℕ → Entry
at p q = record { page = p; position = q; leaf = function 0; subleaf = 0; registers = cpuid_result 0 0 0 0 }

abbrev pub some_flips : List Flip
some_flips = map (λ n. get_or (flips_in (at 0 0 ∷ at 0 1 ∷ at 1 0 ∷ [])) n (flip 0 0 0 0)) (0 ∷ 1 ∷ 32 ∷ 127 ∷ 128 ∷ 256 ∷ 383 ∷ [])

pub flips_are : some_flips ≡ flip 0 0 0 0 ∷ flip 0 0 0 1 ∷ flip 0 0 1 0 ∷ flip 0 0 3 31 ∷ flip 0 1 0 0 ∷ flip 1 0 0 0 ∷ flip 1 0 3 31 ∷ []
unfolding flips_in flips_of tabulate
flips_are = refl
