-- `image::length_with` meets its contract, by the law of the stretches of equally long rows and of the components.
use native.Mathlib.Omega.{arith}
use borrow.Author.Rules.{rules}
use Rattle.image.specs.LengthLaws.{components_length}
use Rattle.image.proofs.length_with.Goals as goal
use Rattle.image.proofs.length_with.Goals.{Start}

pub returns : goal.returns
returns c =
    λ w. omega (arith, components_length w c.args.origins.now c.args.components c.requires (search rules))
