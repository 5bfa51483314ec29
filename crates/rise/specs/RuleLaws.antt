-- Row by row: where B's entry compares with A's and B enables at least as much, B's finished row compares with A's.
use Rattle.std.specs.Prelude.{◌≡◌, refl, Bool, true, false, ℕ, ◌≤◌, eqb}
use Rattle.std.proofs.Common.{sym, ap, ◌∙◌}
use Rattle.std.specs.Int.Bits.{bit_or}
use Rattle.bits.specs.Choice.{pick}
use Rattle.bits.specs.ChoiceLaws.{and_left, and_right, and_both}
use Rattle.bits.specs.Bits.{has, Within}
use Rattle.bits.specs.BitsLaws.{within_or, within_of_and, and_of_within, within_trans}
use Rattle.bits.proofs.BitsLaws.{has_mono}
use Rattle.x86defs.specs.declared.CpuidResult.{CpuidResult}
use Rattle.finish.specs.Finish.{Needed, Rule, Enabled, Settings, change_row, finish, remains, unless_no_xss, address_sizes_ebx, version_ecx, features_ebx, features_ecx, features_edx, extended_version_ecx, extended_version_edx}
use Rattle.finish.specs.Finish.Needed.{version_and_features, extended_features, thread_level_row, core_level_row, extended_state0, extended_state1, extended_version_and_features, extended_address_space_sizes, untouched}
use Rattle.finish.specs.Finish.Rule.{made, needed, component}
use Rattle.finish.specs.Kinds.{Kind, Kinds, kinds, EntryAtLeast, TableAtLeast, Registers, from_entry}
use Rattle.finish.specs.Kinds.Kind.{feature, feature_but28, area, freed, other}
use Rattle.finish.specs.RuleKinds.{kept, kinds_of}
use Rattle.finish.specs.XsavesLaws.{XsavesRow}
use Rattle.finish.specs.FeatureLaws.{EnablesAtLeast, at_least_of_and, features_edx_and, extended_version_edx_and, address_sizes_ebx_and, ClearsFewer, version_ecx_fewer, features_ebx_fewer, features_ecx_fewer, extended_version_ecx_fewer}
use Rattle.finish.proofs.FeatureLaws.{version_ecx_and, features_ebx_and, features_ecx_and, extended_version_ecx_and}

-- what B's rows need from each other, compared with A's; of the same edition or not, B clears no bit that A leaves
pub record SettingsRise (c d : Settings) : Type 0 where
  pub clears : ClearsFewer c.clears d.clears
  pub enabled : EnablesAtLeast c.enabled d.enabled
  pub save_area : c.save_area ≤ d.save_area
  pub threads : c.threads ≡ d.threads
  pub cores : c.cores ≡ d.cores

-- a row made here is the same
made_registers : {a b : CpuidResult} → a ≡ b → Registers TableAtLeast (kinds freed freed freed freed) a b
made_registers e = record {
  eax = ap (λ (r : CpuidResult). r.eax) e;
  ebx = ap (λ (r : CpuidResult). r.ebx) e;
  ecx = ap (λ (r : CpuidResult). r.ecx) e;
  edx = ap (λ (r : CpuidResult). r.edx) e;
}

zero_unless : (c : Enabled) {x : ℕ} → x ≡ 0 → unless_no_xss c x ≡ 0
unfolding unless_no_xss
zero_unless c {x} e = go (eqb c.xss 0)
  where
    go : (b : Bool) → pick b 0 x ≡ 0
    go true = refl
    go false = e

address_sizes_ebx_mono : {x y : ℕ} → Within x y → Within (address_sizes_ebx x) (address_sizes_ebx y)
address_sizes_ebx_mono {x} {y} h = within_of_and (sym (address_sizes_ebx_and x y) ∙ ap address_sizes_ebx (and_of_within h))

-- a register that keeps its masked value compares as its entry does
kept_rises : (k : Kind) (x y : ℕ) → EntryAtLeast (kept k) x y → TableAtLeast (kept k) x y
kept_rises feature x y h = h
kept_rises feature_but28 x y h = h
kept_rises area x y h = h
kept_rises freed x y h = h
kept_rises other x y h = h

module _ {c d : Settings} (s : SettingsRise c d) where
  -- each register of each required row
  needed_rises : (f : Kinds) (t : Needed) (a b : CpuidResult) → Registers EntryAtLeast (kinds_of f (needed t)) a b
      → (needed t ≡ needed extended_state1 → XsavesRow c a) → (needed t ≡ needed extended_state1 → XsavesRow d b)
      → Registers TableAtLeast (kinds_of f (needed t)) (change_row c t a) (change_row d t b)
  needed_rises f version_and_features a b h p q = record {
    eax = kept_rises f.eax _ _ h.eax;
    ebx = h.ebx;
    ecx =
        within_trans (at_least_of_and (version_ecx c.clears) (version_ecx_and c.clears) s.enabled h.ecx) (version_ecx_fewer s.clears d.enabled b.ecx);
    edx = h.edx;
  }
  needed_rises f extended_features a b h p q = record {
    eax = kept_rises f.eax _ _ h.eax;
    ebx =
        within_trans (at_least_of_and (features_ebx c.clears) (features_ebx_and c.clears) s.enabled h.ebx) (features_ebx_fewer s.clears d.enabled b.ebx);
    ecx =
        within_trans (at_least_of_and (features_ecx c.clears) (features_ecx_and c.clears) s.enabled h.ecx) (features_ecx_fewer s.clears d.enabled b.ecx);
    edx = at_least_of_and features_edx features_edx_and s.enabled h.edx;
  }
  needed_rises f thread_level_row a b h p q = made_registers s.threads
  needed_rises f core_level_row a b h p q = made_registers s.cores
  needed_rises f extended_state0 a b h p q = record { eax = h.eax; ebx = h.ebx; ecx = s.save_area; edx = kept_rises f.edx _ _ h.edx }
  needed_rises f extended_state1 a b h p q = record {
    eax = h.eax;
    ebx = h.ebx;
    ecx = rw ((p refl).ecx, (q refl).ecx) s.enabled.xss;
    edx = zero_unless c.enabled (p refl).edx ∙ sym (zero_unless d.enabled (q refl).edx);
  }
  needed_rises f extended_version_and_features a b h p q = record {
    eax = kept_rises f.eax _ _ h.eax;
    ebx = kept_rises f.ebx _ _ h.ebx;
    ecx =
        within_trans (at_least_of_and (extended_version_ecx c.clears) (extended_version_ecx_and c.clears) s.enabled h.ecx)
        (extended_version_ecx_fewer s.clears d.enabled b.ecx);
    edx = at_least_of_and extended_version_edx extended_version_edx_and s.enabled h.edx;
  }
  needed_rises f extended_address_space_sizes a b h p q =
      record { eax = kept_rises f.eax _ _ h.eax; ebx = address_sizes_ebx_mono h.ebx; ecx = h.ecx; edx = kept_rises f.edx _ _ h.edx }
  needed_rises f untouched a b h p q = record {
    eax = kept_rises f.eax _ _ h.eax;
    ebx = kept_rises f.ebx _ _ h.ebx;
    ecx = kept_rises f.ecx _ _ h.ecx;
    edx = kept_rises f.edx _ _ h.edx;
  }

  pub finish_rises : (f : Kinds) (t : Rule) (a b : CpuidResult) → (from_entry t ≡ true → Registers EntryAtLeast (kinds_of f t) a b)
      → (t ≡ needed extended_state1 → XsavesRow c a) → (t ≡ needed extended_state1 → XsavesRow d b)
      → Registers TableAtLeast (kinds_of f t) (finish c t a) (finish d t b)
  finish_rises f (made t) a b h p q = made_registers refl
  finish_rises f (needed t) a b h p q = needed_rises f t a b (h refl) p q
  finish_rises f (component k) a b h p q = record { eax = (h refl).eax; ebx = (h refl).ebx; ecx = (h refl).ecx; edx = (h refl).edx }

  -- a row that remains in A's table remains in B's
  pub remains_rises : (t : Rule) (p q : Bool) → (p ≡ true → q ≡ true) → remains c t p ≡ true → remains d t q ≡ true
  remains_rises (made t) p q f e = refl
  remains_rises (needed t) p q f e = f e
  remains_rises (component k) p q f e =
      and_both (has_mono k (within_or s.enabled.xfem s.enabled.xss) (and_left _ _ e))
      (f (and_right (has k (bit_or c.enabled.xfem c.enabled.xss)) p e))
