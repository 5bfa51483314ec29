-- `image::rows_among` meets its contract. The loop's invariant: `n` counts the rows from `first` up to `i`, and is at most their places.
use mathlib.Core.Path.{◌≡◌}
use Prim.Native.Nat.{◌+◌, ◌≤◌}
use Rattle.image.specs.ImagePieces.{rows_among}
use Rattle.memory.specs.Held.{flags}
use Rattle.image.proofs.rows_among.Given as goal

abbrev pub invariant-loop-i : goal.invariant-loop-i
invariant-loop-i l = (l.n ≡ rows_among (flags l.origins) l.first l.i) × (l.n + l.first ≤ l.i)
