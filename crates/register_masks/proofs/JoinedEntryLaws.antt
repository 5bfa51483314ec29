-- Registers of two entries: bit 28 of 1.EDX stays the first's, where two are alike the join is the base's plain and, and the join stays like
-- the first.
use Rattle.std.specs.Prelude.{◌≡◌}
use Rattle.x86defs.specs.declared.CpuidResult.{CpuidResult}
use Rattle.finish.specs.Kinds.{Kinds, Registers}
use Rattle.finish.specs.MeetLaws.{meet_results}
use Rattle.register_masks.specs.Join.{pooled_results}
use Rattle.register_masks.specs.Alike.{Alike}
use Rattle.register_masks.specs.JoinedEntryLaws.{pooled_joined}
use Rattle.register_masks.specs.JoinedEntryLaws.{alike_pooled}

pub results_joined : (k : Kinds) {a b : CpuidResult} → Registers Alike k a b → pooled_results k a b ≡ meet_results k a b
results_joined k p i = record {
  eax = pooled_joined k.eax _ _ p.eax i;
  ebx = pooled_joined k.ebx _ _ p.ebx i;
  ecx = pooled_joined k.ecx _ _ p.ecx i;
  edx = pooled_joined k.edx _ _ p.edx i;
}

pub registers_pooled : (k : Kinds) {x a : CpuidResult} (b : CpuidResult) → Registers Alike k x a → Registers Alike k x (pooled_results k a b)
registers_pooled k b p = record {
  eax = alike_pooled k.eax _ _ b.eax p.eax;
  ebx = alike_pooled k.ebx _ _ b.ebx p.ebx;
  ecx = alike_pooled k.ecx _ _ b.ecx p.ecx;
  edx = alike_pooled k.edx _ _ b.edx p.edx;
}
