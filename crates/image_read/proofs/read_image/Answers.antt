-- `image_read::read_image` meets its contract: the rows found, and whether bytes are left over.
use Rattle.image_read.specs.ReadingLaws.{read_whole, read_over}
use Rattle.image_read.specs.ReadHeld.{read_held}
use Rattle.image_read.proofs.read_image.Goals as goal

pub returns-then-end-bytes : goal.returns-then-end-bytes
returns-then-end-bytes c = let read = read_whole _ c.read_rows-end.ensures c.if-end-bytes.true in record { read_in = read; held = read_held read }

pub returns : goal.returns
returns c = let read = read_over _ c.read_rows-end.ensures c.if-end-bytes.false c.clear.ensures.0 c.clear.ensures.1 in record { read_in = read; held = read_held read }
