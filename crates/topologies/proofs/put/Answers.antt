-- `topologies::put` meets its contract: five bytes are copied over five others.
use Rattle.std.proofs.Common.{refl}
use Rattle.buffer.specs.FrontLaws.{part_sets}
use Rattle.topologies.specs.Topologies.{inputs_bytes}
use Rattle.topologies.specs.ShortLaws.{single}
use Rattle.topologies.proofs.put.Goals as goal

pub returns : goal.returns
unfolding inputs_bytes single
returns c = record { index = refl; bytes = part_sets _ _ _ _ _ c.copy_from_slice.ensures.after refl c.requires.5 }
