-- `fingerprint::fingerprint` meets its contract: the image stands whole at the front of the array, and its bytes are hashed.
use mathlib.Core.Path.{refl, ◌∙◌}
use native.Mathlib.Omega.{arith}
use lib.ListN.{length-take}
use Rattle.memory.specs.Held.{held_in}
use Rattle.fingerprint.specs.FingerprintLaws.{digest_of_image, image_fits, array_kept, image_in_front}
use Rattle.fingerprint.proofs.fingerprint.Goals as goal

pub slice_bounds-bytes-end : goal.slice_bounds-bytes-end
slice_bounds-bytes-end c =
    let t = held_in c.args.registers.now c.args.origins.now in
    omega (arith, c.image_length-n.ensures c.args.registers.now, image_fits t, array_kept t _ refl c.write_table.ensures.1)

pub slice_bounds-sha256-end : goal.slice_bounds-sha256-end
slice_bounds-sha256-end c =
    let t = held_in c.args.registers.now c.args.origins.now in
    simp length-take (omega (arith, c.image_length-n.ensures c.args.registers.now, image_fits t, array_kept t _ refl c.write_table.ensures.1))

pub returns : goal.returns
returns c =
    let t = held_in c.args.registers.now c.args.origins.now in
    c.sha256.ensures ∙ digest_of_image t (image_in_front t _ refl c.write_table.ensures.1 (c.image_length-n.ensures c.args.registers.now))
