-- `topologies::write_topologies` meets its contract: a buffer shorter than the list is refused untouched, any other is given the list at its front.
use mathlib.Core.Path.{◌≡◌, refl, ap}
use native.Mathlib.Omega.{arith}
use lib.ListN.{length}
use Rattle.buffer.specs.FrontLaws.{front_short, front_whole}
use Rattle.topologies.specs.Topologies.{accepted_inputs, inputs_bytes}
use Rattle.topologies.specs.CountLaws.{count_all}
use Rattle.topologies.specs.TopologyWriteLaws.{list_bytes_lem}
use Rattle.topologies.proofs.write_topologies.Goals as goal
use Rattle.std.specs.Prelude.{Ok}

pub returns-then-out-lt-LIST_BYTES : goal.returns-then-out-lt-LIST_BYTES
returns-then-out-lt-LIST_BYTES c = rw (front_short (inputs_bytes accepted_inputs) c.args.out.now (omega (arith, list_bytes_lem))) (refl, refl)

pub put_all-requires : goal.put_all-requires
put_all-requires c = omega (arith, count_all)

pub returns : goal.returns
returns c =
    let w = c.put_all.ensures in
    let n : c.put_all.result ≡ length (inputs_bytes accepted_inputs) = omega (arith, w.index, count_all, list_bytes_lem) in
    let buffer = c.args.out.now in
    rw (front_whole (inputs_bytes accepted_inputs) buffer (omega (arith, list_bytes_lem))) (ap Ok n, w.bytes)
