-- `image::write::write_rows` meets its contract: a buffer shorter than the image is refused untouched, any other is given the image at its front.
use mathlib.Core.Path.{ap, refl}
use native.Mathlib.Omega.{arith}
use Rattle.std.specs.Prelude.{Ok}
use Rattle.image.specs.Image.{image}
use Rattle.memory.specs.Held.{held_in}
use Rattle.buffer.specs.FrontLaws.{front_short, front_whole}
use Rattle.image.proofs.write.write_rows.Goals as goal
use Rattle.std.specs.Prelude.{Ok}

pub returns-then-out-n : goal.returns-then-out-n
returns-then-out-n c =
    let a = c.args in
    rw (front_short (image (held_in a.registers.now a.origins.now)) a.out.now (omega (arith, c.requires.1))) (refl, refl)

pub returns : goal.returns
returns c =
    let a = c.args in
    rw (front_whole (image (held_in a.registers.now a.origins.now)) a.out.now (omega (arith, c.requires.1)))
    (ap Ok c.requires.1, c.put_rows.ensures)
