-- `topology::extended_topology` meets its contract: each return is one case of `topology_of`, by the tests that led there. From s = 1 on the
-- code's v, a 1 shifted left, is the power of two.
use mathlib.Core.Path.{sym, ◌∙◌}
use native.Mathlib.Omega.{arith}
use Rattle.topology.specs.TopologyLaws.{one_agrees, one_differs, legacy_agrees, legacy_differs, counts_agree, threads_unsaid, counts_differ, size_decides, one_shifted}
use Rattle.topology.proofs.extended_topology.Goals as goal

-- with s = 0 and older fields that differ
pub returns-then-s-eq0 : goal.returns-then-s-eq0
returns-then-s-eq0 c = legacy_differs _ _ _ _ _ c.if-s-eq0.true c.if-mt-eq0.false c.if-lps-nc.false

-- with s from 8 on, which has nothing to be compared with
pub returns : goal.returns
returns c = size_decides _ _ _ _ _ (one_shifted _ (omega arith)) c.if-s-eq0.false c.if-s-lt8.false c.threads_in-2.ensures

pub returns-then-one_processor : goal.returns-then-one_processor
returns-then-one_processor c = one_agrees _ _ _ _ _ c.if-s-eq0.true c.if-mt-eq0.true (sym c.one_processor.ensures ∙ c.if-one_processor.true)
    c.threads_in.ensures

pub returns-then-mt-eq0 : goal.returns-then-mt-eq0
returns-then-mt-eq0 c = one_differs _ _ _ _ _ c.if-s-eq0.true c.if-mt-eq0.true (sym c.one_processor.ensures ∙ c.if-one_processor.false)

pub returns-then-lps-nc : goal.returns-then-lps-nc
returns-then-lps-nc c = legacy_agrees _ _ _ _ _ c.if-s-eq0.true c.if-mt-eq0.false c.if-lps-nc.true c.threads_in-then-lps-nc.ensures

pub returns-then-mt-eq1 : goal.returns-then-mt-eq1
returns-then-mt-eq1 c = counts_agree _ _ _ _ _ (one_shifted _ (omega arith)) c.if-s-eq0.false c.if-s-lt8.true
    (sym c.counts_agree.ensures ∙ c.if-counts_agree.true) c.if-mt-eq1.true c.threads_in-then-mt-eq1.ensures

pub returns-then-counts_agree : goal.returns-then-counts_agree
returns-then-counts_agree c = threads_unsaid _ _ _ _ _ (one_shifted _ (omega arith)) c.if-s-eq0.false c.if-s-lt8.true
    (sym c.counts_agree.ensures ∙ c.if-counts_agree.true) c.if-mt-eq1.false

pub returns-then-s-lt8 : goal.returns-then-s-lt8
returns-then-s-lt8 c = counts_differ _ _ _ _ _ (one_shifted _ (omega arith)) c.if-s-eq0.false c.if-s-lt8.true
    (sym c.counts_agree.ensures ∙ c.if-counts_agree.false)
