-- `lookup::place_alone` meets its contract: each run of leaves by computation over it, any other leaf by the law of what lies
-- between the runs.
use borrow.Author.Rules.{rules}
use native.Mathlib.Omega.{arith}
use Rattle.lookup.specs.AskedLaws.{alone_basic, alone_mwait, alone_extended, alone_svm, alone_tlb, alone_last, none_basic, none_extended, none_tlb, none_last, at_below, at_past}
use Rattle.lookup.proofs.place_alone.Goals as goal

pub returns-then-n-le-VERSION_AND_FEATURES : goal.returns-then-n-le-VERSION_AND_FEATURES
returns-then-n-le-VERSION_AND_FEATURES c = at_below (alone_basic c.args.leaf.0 (omega (arith, c.if-n-le-VERSION_AND_FEATURES.true))) (omega (arith, c.if-n-le-VERSION_AND_FEATURES.true))

pub returns-then-n-eq-MONITOR_MWAIT : goal.returns-then-n-eq-MONITOR_MWAIT
returns-then-n-eq-MONITOR_MWAIT c = at_below (alone_mwait c.args.leaf.0 c.if-n-eq-MONITOR_MWAIT.true) (search rules)

pub returns-then-n-lt-EXTENDED_MAX_FUNCTION : goal.returns-then-n-lt-EXTENDED_MAX_FUNCTION
returns-then-n-lt-EXTENDED_MAX_FUNCTION c = at_past (none_basic c.args.leaf.0 (omega (arith, c.if-n-le-VERSION_AND_FEATURES.false)) (omega (arith, c.if-n-lt-EXTENDED_MAX_FUNCTION.true)) c.if-n-eq-MONITOR_MWAIT.false)

pub returns-then-n-le-EXTENDED_ADDRESS_SPACE_SIZES : goal.returns-then-n-le-EXTENDED_ADDRESS_SPACE_SIZES
returns-then-n-le-EXTENDED_ADDRESS_SPACE_SIZES c = at_below (alone_extended c.args.leaf.0 (omega (arith, c.if-n-lt-EXTENDED_MAX_FUNCTION.false)) (omega (arith, c.if-n-le-EXTENDED_ADDRESS_SPACE_SIZES.true))) (omega (arith, c.if-n-le-EXTENDED_ADDRESS_SPACE_SIZES.true))

pub returns-then-n : goal.returns-then-n
returns-then-n c = at_below (alone_svm c.args.leaf.0 c.if-n.true) (search rules)

pub returns-then-n-lt-EXTENDED_TLB1GB_IDENTIFIERS : goal.returns-then-n-lt-EXTENDED_TLB1GB_IDENTIFIERS
returns-then-n-lt-EXTENDED_TLB1GB_IDENTIFIERS c = at_past (none_extended c.args.leaf.0 (omega (arith, c.if-n-le-EXTENDED_ADDRESS_SPACE_SIZES.false)) (omega (arith, c.if-n-lt-EXTENDED_TLB1GB_IDENTIFIERS.true)) c.if-n.false)

pub returns-then-n-le-EXTENDED_OPTIMIZATION_IDENTIFIERS : goal.returns-then-n-le-EXTENDED_OPTIMIZATION_IDENTIFIERS
returns-then-n-le-EXTENDED_OPTIMIZATION_IDENTIFIERS c = at_below (alone_tlb c.args.leaf.0 (omega (arith, c.if-n-lt-EXTENDED_TLB1GB_IDENTIFIERS.false)) (omega (arith, c.if-n-le-EXTENDED_OPTIMIZATION_IDENTIFIERS.true))) (omega (arith, c.if-n-le-EXTENDED_OPTIMIZATION_IDENTIFIERS.true))

pub returns-then-n-lt-PROCESSOR_TOPOLOGY_DEFINITION : goal.returns-then-n-lt-PROCESSOR_TOPOLOGY_DEFINITION
returns-then-n-lt-PROCESSOR_TOPOLOGY_DEFINITION c = at_past (none_tlb c.args.leaf.0 (omega (arith, c.if-n-le-EXTENDED_OPTIMIZATION_IDENTIFIERS.false)) (omega (arith, c.if-n-lt-PROCESSOR_TOPOLOGY_DEFINITION.true)))

pub returns-then-n-le-EXTENDED_SEV_FEATURES : goal.returns-then-n-le-EXTENDED_SEV_FEATURES
returns-then-n-le-EXTENDED_SEV_FEATURES c = at_below (alone_last c.args.leaf.0 (omega (arith, c.if-n-lt-PROCESSOR_TOPOLOGY_DEFINITION.false)) (omega (arith, c.if-n-le-EXTENDED_SEV_FEATURES.true))) (omega (arith, c.if-n-le-EXTENDED_SEV_FEATURES.true))

pub returns : goal.returns
returns c = at_past (none_last c.args.leaf.0 (omega (arith, c.if-n-le-EXTENDED_SEV_FEATURES.false)) (search rules))
