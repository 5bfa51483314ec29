-- Reading run by run, as the code goes.
use Rattle.std.specs.Prelude.{Bool, ◌&&◌, List, ℕ, ◌+◌, eqb}
use Rattle.bits.specs.Choice.{pick}
use Rattle.pages.specs.Layout.{word_at}
use Rattle.masking.specs.declared.run.Run.{Run}
use Rattle.image_read.specs.ReadImage.{opens}

-- whether bytes begin with the row of the k-th place of a run
unfoldable pub run_begins : List ℕ → Run → ℕ → Bool
run_begins l g k = pick g.indexed (opens l 25 2 g.leaf.0 && eqb (word_at l 5) k) (opens l 21 1 (g.leaf.0 + k))
