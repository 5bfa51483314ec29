-- Two servers that rise to each other have the same answer, except for origins (`SameFigures`, Same.antt), and each accepted one rises to itself.
use Rattle.std.specs.Prelude.{◌≡◌, refl, Bool, true, false, List, ℕ, Ok}
use Rattle.std.proofs.Common.{sym, ap, ◌∙◌, arith}
use Rattle.bits.specs.Choice.{pick}
use Rattle.bits.specs.ChoiceLaws.{never_both}
use Rattle.bits.specs.BitsLaws.{within_refl, within_antisym}
use Rattle.x86defs.specs.declared.CpuidResult.{CpuidResult}
use Rattle.table.specs.declared.Choices.{Choices}
use Rattle.table.specs.Rows.{Row, Rows, row, vacant}
use Rattle.finish.specs.Finish.{rule_at, settings, finish, remains, finished}
use Rattle.finish.specs.Kinds.{Kind, Kinds, EntryAtLeast, TableAtLeast, Registers, kinds_at}
use Rattle.finish.specs.Kinds.Kind.{feature, feature_but28, area, freed, other}
use Rattle.finish.proofs.RemainsLaws.{finished_entry}
use Rattle.build.specs.Build.{rows_for, answer}
use Rattle.rise.specs.Rise.{RiseHypothesis}
use Rattle.rise.specs.RiseProof.{answer_row, accepted_lawful}

-- ---- every accepted server rises to itself

register_itself : (k : Kind) (a : ℕ) → EntryAtLeast k a a
register_itself feature a = within_refl a
register_itself feature_but28 a = (within_refl a, refl)
register_itself area a = tt
register_itself freed a = tt
register_itself other a = refl

registers_itself : (k : Kinds) (a : CpuidResult) → Registers EntryAtLeast k a a
registers_itself k a = record {
  eax = register_itself k.eax a.eax;
  ebx = register_itself k.ebx a.ebx;
  ecx = register_itself k.ecx a.ecx;
  edx = register_itself k.edx a.edx;
}

pub rises_itself : (chosen : Choices) (a : List ℕ) → (answer chosen a).verdict ≡ Ok tt → RiseHypothesis chosen a a
rises_itself chosen a e = record {
  accepted = e;
  lawful = accepted_lawful chosen a e;
  entries = λ i l f p. record {
    present = finished_entry chosen.edition (rows_for chosen a) i l f (sym (ap (λ (r : Row). r.present) (answer_row chosen a e i l)) ∙ p);
    registers = registers_itself (kinds_at i) (rows_for chosen a i).result;
  };
}

-- ---- registers that are at least each other are equal

register_same : (k : Kind) {a b : ℕ} → TableAtLeast k a b → TableAtLeast k b a → a ≡ b
register_same feature p q = within_antisym p q
register_same feature_but28 p q = within_antisym p.0 q.0
register_same area p q = omega (arith, p, q)
register_same freed p q = p
register_same other p q = p

pub registers_same : (k : Kinds) (a b : CpuidResult) → Registers TableAtLeast k a b → Registers TableAtLeast k b a → a ≡ b
registers_same k a b p q = λ i. record {
  eax = register_same k.eax p.eax q.eax i;
  ebx = register_same k.ebx p.ebx q.ebx i;
  ecx = register_same k.ecx p.ecx q.ecx i;
  edx = register_same k.edx p.edx q.edx i;
}

-- ---- tables that are at least each other have equal rows

-- a row that is not there is all zeros
pub finished_absent : (n : ℕ) (m : Rows) (i : ℕ) → (finished n m i).present ≡ false → finished n m i ≡ vacant
unfolding finished
finished_absent n m i = go (remains (settings n m) (rule_at i) (m i).present) (finish (settings n m) (rule_at i) (m i).result)
  where
    go : (b : Bool) (r : CpuidResult) → (pick b (row r) vacant).present ≡ false → pick b (row r) vacant ≡ vacant
    go true r e = absurd (never_both refl e)
    go false r e = refl
