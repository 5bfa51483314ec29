-- `topology::x2_apic_shift` meets its contract: what the leading zeros of v - 1 leave is the least shift that reaches v.
use native.Mathlib.Omega.{arith}
use Rattle.topology.specs.TopologyLaws.{shift_of_zero, shift_by_zeros}
use Rattle.topology.proofs.x2_apic_shift.Goals as goal

pub returns-then-v-eq0 : goal.returns-then-v-eq0
returns-then-v-eq0 c = rw (c.if-v-eq0.true, shift_of_zero)

pub overflow_sub-result : goal.overflow_sub-result
overflow_sub-result c = omega (arith, c.if-v-eq0.false)

pub overflow_sub-result-2 : goal.overflow_sub-result-2
overflow_sub-result-2 c = (shift_by_zeros _ (omega (arith, c.if-v-eq0.false)) c.ranges.v.fits).0

pub returns : goal.returns
returns c = (shift_by_zeros _ (omega (arith, c.if-v-eq0.false)) c.ranges.v.fits).1
