-- The meet of two row sets, for the pool of servers: feature registers by and, all else from the first. Then what is enabled, the
-- combined mask and every feature register of the finished rows are the and of the two sets'.
use Rattle.std.specs.Prelude.{◌≡◌, refl, ℕ, ◌<◌}
use Rattle.std.proofs.Common.{sym, ap, ap₂, ◌∙◌}
use Rattle.std.specs.Int.Bits.{bit_and}
use Rattle.x86defs.specs.declared.CpuidResult.{CpuidResult}
use Rattle.masking.specs.Kept.{places}
use Rattle.table.specs.Rows.{Rows}
use Rattle.finish.specs.Finish.{Rule, Enabled, Settings, rule_at, finish}
use Rattle.finish.specs.Finish.Needed.{version_and_features, extended_features, thread_level_row, core_level_row, extended_state0, extended_state1, extended_version_and_features, extended_address_space_sizes, untouched}
use Rattle.finish.specs.Finish.Rule.{made, needed, component}
use Rattle.finish.specs.Kinds.{Kinds, kinds_at}
use Rattle.finish.specs.RuleKinds.{kinds_of, kinds_at_lem}
use Rattle.finish.specs.FeatureLaws.{both_enable, features_edx_and, extended_version_edx_and, address_sizes_ebx_and}
use Rattle.finish.proofs.FeatureLaws.{version_ecx_and, features_ebx_and, features_ecx_and, extended_version_ecx_and}
use Rattle.finish.specs.MeetLaws.{EndsAsXss, FeaturesMeet, kept_meet, meet_results, meet_rows}

module _ (e c d : Settings) (meets : e.enabled ≡ both_enable c.enabled d.enabled) (clearsC : c.clears ≡ e.clears)
    (clearsD : d.clears ≡ e.clears) where
  pub finish_meet : (f : Kinds) (t : Rule) (a b : CpuidResult)
      → (t ≡ needed extended_state1 → EndsAsXss e (meet_results (kinds_of f t) a b) × EndsAsXss c a × EndsAsXss d b)
      → FeaturesMeet (kinds_of f t) (finish e t (meet_results (kinds_of f t) a b)) (finish c t a) (finish d t b)
  finish_meet f (made t) a b h = record { eax = tt; ebx = tt; ecx = tt; edx = tt }
  finish_meet f (needed version_and_features) a b h =
      record { eax = kept_meet f.eax _ _; ebx = tt; ecx = rw (meets, clearsC, clearsD) (version_ecx_and _ _ _ _ _); edx = refl }
  finish_meet f (needed extended_features) a b h = record {
    eax = kept_meet f.eax _ _;
    ebx = rw (meets, clearsC, clearsD) (features_ebx_and _ _ _ _ _);
    ecx = rw (meets, clearsC, clearsD) (features_ecx_and _ _ _ _ _);
    edx = rw meets (features_edx_and _ _ _ _);
  }
  finish_meet f (needed thread_level_row) a b h = record { eax = tt; ebx = tt; ecx = tt; edx = tt }
  finish_meet f (needed core_level_row) a b h = record { eax = tt; ebx = tt; ecx = tt; edx = tt }
  finish_meet f (needed extended_state0) a b h = record { eax = refl; ebx = tt; ecx = tt; edx = kept_meet f.edx _ _ }
  finish_meet f (needed extended_state1) a b h = record {
    eax = refl;
    ebx = tt;
    ecx = (h refl).0 ∙ ap (λ (x : Enabled). x.xss) meets ∙ sym (ap₂ bit_and (h refl).1 (h refl).2);
    edx = tt;
  }
  finish_meet f (needed extended_version_and_features) a b h =
      record {
        eax = kept_meet f.eax _ _;
        ebx = kept_meet f.ebx _ _;
        ecx = rw (meets, clearsC, clearsD) (extended_version_ecx_and _ _ _ _ _);
        edx = rw meets (extended_version_edx_and _ _ _ _);
      }
  finish_meet f (needed extended_address_space_sizes) a b h =
      record { eax = kept_meet f.eax _ _; ebx = address_sizes_ebx_and _ _; ecx = tt; edx = kept_meet f.edx _ _ }
  finish_meet f (needed untouched) a b h =
      record { eax = kept_meet f.eax _ _; ebx = kept_meet f.ebx _ _; ecx = kept_meet f.ecx _ _; edx = kept_meet f.edx _ _ }
  finish_meet f (component k) a b h = record { eax = tt; ebx = tt; ecx = tt; edx = tt }

  -- at a place
  pub finish_meet_at : (a b : Rows) (i : ℕ) → i < places
      → (rule_at i ≡ needed extended_state1 → EndsAsXss e (meet_rows a b i).result × EndsAsXss c (a i).result × EndsAsXss d (b i).result)
      → FeaturesMeet (kinds_at i) (finish e (rule_at i) (meet_rows a b i).result) (finish c (rule_at i) (a i).result)
      (finish d (rule_at i) (b i).result)
  unfolding meet_rows
  finish_meet_at a b i l h = at (kinds_at i) (kinds_at_lem i l) h
    where
      at : (k : Kinds) → k ≡ kinds_of (kinds_at i) (rule_at i)
          → (rule_at i ≡ needed extended_state1
          → EndsAsXss e (meet_results k (a i).result (b i).result) × EndsAsXss c (a i).result × EndsAsXss d (b i).result)
          → FeaturesMeet k (finish e (rule_at i) (meet_results k (a i).result (b i).result)) (finish c (rule_at i) (a i).result)
          (finish d (rule_at i) (b i).result)
      at k q h = rw q (finish_meet (kinds_at i) (rule_at i) (a i).result (b i).result (rw q at h))
