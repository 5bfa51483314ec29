-- The proofs of the statements of Counts.
use Rattle.std.specs.Prelude.{◌≡◌, List, ℕ, ◌≤◌, length, Ok}
use Rattle.std.proofs.Common.{arith}
use Rattle.table.specs.declared.Choices.{Choices}
use Rattle.build.specs.Build.{answer}
use Rattle.image.specs.Image.{image}
use Rattle.counts.specs.Counts.{Counted}
use Rattle.counts.specs.Mask.{components_most}
use Rattle.counts.specs.CountsProof.{rows_counted}

-- the two bounds in plain words, so that neither can be weakened unseen
pub rows_at_most : (chosen : Choices) (s : List ℕ) → (answer chosen s).verdict ≡ Ok tt → (answer chosen s).table.row_count ≤ 32
rows_at_most chosen s e = (rows_counted chosen s e).most

pub bytes_at_most : (chosen : Choices) (s : List ℕ) → (answer chosen s).verdict ≡ Ok tt → length (image (answer chosen s).table) ≤ 732
bytes_at_most chosen s e =
    let c : Counted chosen s = rows_counted chosen s e in
    omega (arith, c.bytes, components_most c.mask)
