-- `put::put_fields` meets its contract: leaf, subleaf and s, one after another.
use mathlib.Core.Path.{ap}
use native.Mathlib.Omega.{arith}
use lib.Seq.{length-sets}
use lib.ListN.{length}
use Rattle.lines.specs.Line.{leaf_field, subleaf_field, s_field}
use Rattle.lines.specs.LineLaws.{fields_named, length_fields, three_sets}
use Rattle.lines.proofs.bytes.put.put_fields.Goals as goal

pub put_leaf-after_leaf-requires : goal.put_leaf-after_leaf-requires
put_leaf-after_leaf-requires c = omega (arith, length_fields c.args.d c.names_of-named.ensures)

pub put_subleaf-after_subleaf-requires : goal.put_subleaf-after_subleaf-requires
put_subleaf-after_subleaf-requires c =
    let leaf = c.put_leaf-after_leaf.ensures in
    let e = simp length-sets at (ap length leaf.1) in
    omega (arith, length_fields c.args.d c.names_of-named.ensures, leaf.0, e)

pub put_s-requires : goal.put_s-requires
put_s-requires c =
    let leaf = c.put_leaf-after_leaf.ensures in
    let subleaf = c.put_subleaf-after_subleaf.ensures in
    let e = simp length-sets at (ap length leaf.1) in
    let f = simp length-sets at (ap length subleaf.1) in
    omega (arith, length_fields c.args.d c.names_of-named.ensures, leaf.0, subleaf.0, e, f)

pub returns : goal.returns
returns c =
    let a = c.args in
    let k = c.names_of-named.result in
    let leaf = c.put_leaf-after_leaf.ensures in
    let subleaf = c.put_subleaf-after_subleaf.ensures in
    let s = c.put_s.ensures in
    let stored = three_sets
    a.out.now
    _
    _
    _
    (leaf_field k.leaf a.d.leaf)
    (subleaf_field k.subleaf a.d.subleaf)
    (s_field k.s a.d.s)
    a.at
    _
    _
    leaf.1
    leaf.0
    subleaf.1
    subleaf.0
    s.1 in
    (omega (arith, length_fields a.d c.names_of-named.ensures, leaf.0, subleaf.0, s.0), rw (fields_named a.d c.names_of-named.ensures) stored)
