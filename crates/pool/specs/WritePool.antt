-- The image of a pool's table, as document 01, "Image and lookup" has one written: the pool's refusals (document 02, P12) come before 9, and a
-- refused write changes no lent byte.
use Rattle.std.specs.Prelude.{List, ℕ}
use Rattle.table.specs.declared.Choices.{Choices}
use Rattle.buffer.specs.Front.{AfterWrite, write_verdict}
use Rattle.image.specs.Image.{image}
use Rattle.pool.specs.Pool.{pooled}

unfoldable pub write_pool : Choices → List ℕ → List ℕ → List ℕ → AfterWrite
write_pool c pages lengths buffer = write_verdict (pooled c pages lengths).verdict (image (pooled c pages lengths).table) buffer
