-- Rises compose, each accepted server and each table rises to itself, and two tables rise to each other exactly where they have the same rows.
use Rattle.std.specs.Prelude.{◌≡◌, refl, Bool, true, false, ℕ, ◌<◌}
use Rattle.std.proofs.Common.{sym, ap, ◌∙◌, inl, inr, ⊎_elim, le_refl, le_trans, arith}
use Rattle.std.proofs.lemmas.List.{get_or-replicate}
use Rattle.bits.specs.ChoiceLaws.{never_both}
use Rattle.bits.specs.Bits.{has, Within}
use Rattle.bits.specs.BitsLaws.{within_refl, within_trans, within_antisym}
use Rattle.bits.proofs.BitsLaws.{has_mono}
use Rattle.x86defs.specs.declared.CpuidResult.{CpuidResult}
use Rattle.x86defs.specs.Functions.{cpuid_result}
use Rattle.masking.specs.Kept.{places}
use Rattle.table.specs.declared.CpuidResults.{CpuidResults}
use Rattle.finish.specs.Kinds.{Kind, Kinds, EntryAtLeast, TableAtLeast, Registers, kinds_at}
use Rattle.finish.specs.Kinds.Kind.{feature, feature_but28, area, freed, other}
use Rattle.table.specs.Rows.{Row}
use Rattle.table.specs.Table.{row_in}
use Rattle.rise.specs.Rise.{Further, TableRises}
use Rattle.rise.specs.SameProof.{registers_same}
use Rattle.rise.specs.Preorder.{SameRows, without_rows}

-- ---- registers

entry_composes : (k : Kind) (a b c : ℕ) → EntryAtLeast k a b → EntryAtLeast k b c → EntryAtLeast k a c
entry_composes feature a b c p q = within_trans p q
entry_composes feature_but28 a b c p q = (within_trans p.0 q.0, p.1 ∙ q.1)
entry_composes area a b c p q = tt
entry_composes freed a b c p q = tt
entry_composes other a b c p q = p ∙ q

register_itself : (k : Kind) (a : ℕ) → TableAtLeast k a a
register_itself feature a = within_refl a
register_itself feature_but28 a = (within_refl a, refl)
register_itself area a = le_refl a
register_itself freed a = refl
register_itself other a = refl

register_composes : (k : Kind) (a b c : ℕ) → TableAtLeast k a b → TableAtLeast k b c → TableAtLeast k a c
register_composes feature a b c p q = within_trans p q
register_composes feature_but28 a b c p q = (within_trans p.0 q.0, p.1 ∙ q.1)
register_composes area a b c p q = le_trans p q
register_composes freed a b c p q = p ∙ q
register_composes other a b c p q = p ∙ q

pub entries_compose : (k : Kinds) (a b c : CpuidResult) → Registers EntryAtLeast k a b → Registers EntryAtLeast k b c → Registers EntryAtLeast k a c
entries_compose k a b c p q = record {
  eax = entry_composes k.eax _ _ _ p.eax q.eax;
  ebx = entry_composes k.ebx _ _ _ p.ebx q.ebx;
  ecx = entry_composes k.ecx _ _ _ p.ecx q.ecx;
  edx = entry_composes k.edx _ _ _ p.edx q.edx;
}

pub registers_itself : (k : Kinds) (a : CpuidResult) → Registers TableAtLeast k a a
registers_itself k a = record {
  eax = register_itself k.eax a.eax;
  ebx = register_itself k.ebx a.ebx;
  ecx = register_itself k.ecx a.ecx;
  edx = register_itself k.edx a.edx;
}

pub registers_compose : (k : Kinds) (a b c : CpuidResult) → Registers TableAtLeast k a b → Registers TableAtLeast k b c → Registers TableAtLeast k a c
registers_compose k a b c p q = record {
  eax = register_composes k.eax _ _ _ p.eax q.eax;
  ebx = register_composes k.ebx _ _ _ p.ebx q.ebx;
  ecx = register_composes k.ecx _ _ _ p.ecx q.ecx;
  edx = register_composes k.edx _ _ _ p.edx q.edx;
}

-- ---- tables

pub table_rises_itself : (t : CpuidResults) → TableRises t t
table_rises_itself t = record {
  rows = λ i l p. p;
  registers = λ i l p. registers_itself (kinds_at i) (row_in t i).result;
  others = λ i l p. inl p;
  mask = within_refl t.max_extended_state;
}

-- a further subleaf on the way is one of the whole way
module _ (t u v : CpuidResults) where
  pub further_composes_first : Within u.max_extended_state v.max_extended_state → (i : ℕ) → Further t u i → Further t v i
  further_composes_first w i f = record {
    subleaf = f.subleaf;
    place = f.place;
    from = f.from;
    below = f.below;
    in_b = has_mono f.subleaf w f.in_b;
    not_in_a = f.not_in_a;
  }

  pub further_composes_second : Within t.max_extended_state u.max_extended_state → (i : ℕ) → Further u v i → Further t v i
  further_composes_second w i f = record {
    subleaf = f.subleaf;
    place = f.place;
    from = f.from;
    below = f.below;
    in_b = f.in_b;
    not_in_a = go (has f.subleaf t.max_extended_state) refl;
  }
    where
      go : (b : Bool) → has f.subleaf t.max_extended_state ≡ b → has f.subleaf t.max_extended_state ≡ false
      go true e = absurd (never_both (has_mono f.subleaf w e) f.not_in_a)
      go false e = e

module _ (t u v : CpuidResults) (p : TableRises t u) (q : TableRises u v) where
  pub table_rises_compose : TableRises t v
  table_rises_compose = record {
    rows = λ i l e. q.rows i l (p.rows i l e);
    registers = λ i l e. registers_compose (kinds_at i) _ _ _ (p.registers i l e) (q.registers i l (p.rows i l e));
    others = λ i l e.
        ⊎_elim (λ d. ⊎_elim (λ c. inl c) (λ f. inr (further_composes_first t u v q.mask i f)) (p.others i l d))
        (λ f. inr (further_composes_second t u v p.mask i f)) (q.others i l e);
    mask = within_trans p.mask q.mask;
  }

pub both_ways_same : (t u : CpuidResults) → TableRises t u → TableRises u t → SameRows t u
both_ways_same t u p q = record {
  present = λ i l. go i l (row_in t i).present (row_in u i).present refl refl;
  registers = λ i l e. registers_same (kinds_at i) _ _ (p.registers i l e) (q.registers i l (p.rows i l e));
  mask = within_antisym p.mask q.mask;
}
  where
    go : (i : ℕ) → i < places → (b c : Bool) → (row_in t i).present ≡ b → (row_in u i).present ≡ c → (row_in t i).present ≡ (row_in u i).present
    go i l true true e f = e ∙ sym f
    go i l true false e f = absurd (never_both (p.rows i l e) f)
    go i l false true e f = absurd (never_both (q.rows i l f) e)
    go i l false false e f = e ∙ sym f

-- and the other way round: tables with the same rows and mask rise to each other
pub same_at : (t u : CpuidResults) → SameRows t u → TableRises t u
same_at t u s = record {
  rows = λ i l e. sym (s.present i l) ∙ e;
  registers = λ i l e. rw (s.registers i l e) (registers_itself (kinds_at i) (row_in u i).result);
  others = λ i l e. inl (s.present i l ∙ e);
  mask = rw s.mask (within_refl u.max_extended_state);
}

pub same_back : (t u : CpuidResults) → SameRows t u → SameRows u t
same_back t u s = record {
  present = λ i l. sym (s.present i l);
  registers = λ i l e. sym (s.registers i l (s.present i l ∙ e));
  mask = sym s.mask;
}

-- ---- what is not said

pub without_rows_rise : (r s : CpuidResult) → TableRises (without_rows r) (without_rows s)
without_rows_rise r s = record {
  rows = λ i l p. p;
  registers = λ i l p. absurd (never_both p (get_or-replicate places i false false l));
  others = λ i l p. inl p;
  mask = within_refl 0;
}

pub and_differ : row_in (without_rows (cpuid_result 0 0 0 0)) 0 ≡ row_in (without_rows (cpuid_result 1 0 0 0)) 0 → ⊥
and_differ e = let z : ◌≡◌ {A = ℕ} 0 1 = ap (λ (r : Row). r.result.eax) e in omega arith
