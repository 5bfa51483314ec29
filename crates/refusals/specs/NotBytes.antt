-- That the elements are bytes is needed: the definitions read lists of any numbers, and of a list with a larger one 17 can name a leaf that eight
-- hexadecimal digits do not hold. No slice of bytes is such a list.
use Rattle.std.specs.Prelude.{◌≡◌, refl, List, [], ◌∷◌, ◌++◌, ℕ, ◌^◌, replicate, Err}
use Rattle.std.proofs.Common.{arith}
use Rattle.x86defs.specs.Functions.{function}
use Rattle.table.specs.declared.Refusal.TheVariants.{ReservedBytes}
use Rattle.build.specs.Build.{answer}
use Rattle.page_sets.specs.PageSets.{page}
use Rattle.page_sets.specs.Evaluation.{first_edition, evaluated}
use Rattle.refusals.specs.Lined.{Lined}

-- one entry, of zeros but for the first element, 2^32, and a reserved byte
abbrev pub not_bytes : List ℕ
not_bytes = page 1 ((2 ^ 32 ∷ replicate 46 0) ++ (1 ∷ []))

pub not_bytes_refused : (answer first_edition not_bytes).verdict ≡ Err (ReservedBytes (function (2 ^ 32)))
unfolding evaluated
not_bytes_refused = refl

pub not_lined : Lined (ReservedBytes (function (2 ^ 32))) → ⊥
not_lined l = omega (arith, l.fits.leaf)
