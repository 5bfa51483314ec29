-- The finished rows as a list of stores: subleaves dropped, then ten rows at their places. Equal to the definition's rows place by place,
-- since every required row is there.
use Rattle.std.specs.Prelude.{◌≡◌, refl, Bool, true, false, List, ℕ, ◌<◌, set, Ok}
use Rattle.std.proofs.Common.{sym, ap₂, ◌∙◌}
use Rattle.std.proofs.Math.Path.{ap}
use Rattle.std.specs.Int.Bits.{bit_or}
use Rattle.bits.specs.Choice.{pick}
use Rattle.bits.specs.Lists.{tabulate}
use Rattle.bits.specs.ListsLaws.{tabulate_ext}
use Rattle.x86defs.specs.declared.CpuidResult.{CpuidResult}
use Rattle.masking.specs.Kept.{places}
use Rattle.masking.specs.Place
use Rattle.table.specs.Rows.{Row, Rows}
use Rattle.checks.specs.ExtendedState.{xfem, xss, combined_mask}
use Rattle.checks.specs.TopologyInputs.{inputs_of}
use Rattle.finish.specs.Finish.{Enabled, YmmClears, Settings, ymm_clears, rule_at, enabled_by, settings, finish, finish_row, finished}
use Rattle.checks.specs.Checks.{required_verdict}
use Rattle.finish.specs.PlaceLaws.{always, position, always_required}
use Rattle.checks.specs.ChecksLaws.{required_present}
use Rattle.finish.specs.FeaturesInCode.{enabled_from}
use Rattle.finish.specs.Stores.{dropped_row, dropped, Ready}
use Rattle.finish.specs.FinishedTable.{settings_with, with_presence}

-- the stores, in the code's order
abbrev at : Settings → (ℕ → CpuidResult) → ℕ → List CpuidResult → List CpuidResult
at c r i l = set l i (finish c (rule_at i) (r i))

abbrev pub store_results : Settings → (ℕ → CpuidResult) → List CpuidResult → List CpuidResult
store_results c r l =
    at c r Place.extended_address_space_sizes
    (at c r Place.extended_version_and_features
    (at c r Place.extended_max_function
    (at c r (Place.extended_state 1)
    (at c r (Place.extended_state 0)
    (at c r Place.core_level
    (at c r Place.thread_level
    (at c r Place.extended_features
    (at c r Place.version_and_features
    (at c r Place.vendor_and_max_function l)))))))))

-- from the values that are stored, one by one
pub stores : (c : Settings) (r : ℕ → CpuidResult) (l : List CpuidResult)
    {made version features threads cores state0 state1 extendedMade extendedVersion sizes : CpuidResult}
    → made ≡ finish c (rule_at Place.vendor_and_max_function) (r Place.vendor_and_max_function)
    → version ≡ finish c (rule_at Place.version_and_features) (r Place.version_and_features)
    → features ≡ finish c (rule_at Place.extended_features) (r Place.extended_features)
    → threads ≡ c.threads
    → cores ≡ c.cores
    → state0 ≡ finish c (rule_at (Place.extended_state 0)) (r (Place.extended_state 0))
    → state1 ≡ finish c (rule_at (Place.extended_state 1)) (r (Place.extended_state 1))
    → extendedMade ≡ finish c (rule_at Place.extended_max_function) (r Place.extended_max_function)
    → extendedVersion ≡ finish c (rule_at Place.extended_version_and_features) (r Place.extended_version_and_features)
    → sizes ≡ finish c (rule_at Place.extended_address_space_sizes) (r Place.extended_address_space_sizes)
    → set (set (set (set (set (set (set (set (set (set l 0 made) 1 version) 3 features) 4 threads) 5 cores) 6 state0) 7 state1)
    70 extendedMade) 71 extendedVersion) 78 sizes
    ≡ store_results c r l
stores c r l e₀ e₁ e₃ e₄ e₅ e₆ e₇ e₇₀ e₇₁ e₇₈ = rw (e₀, e₁, e₃, e₄, e₅, e₆, e₇, e₇₀, e₇₁, e₇₈)

-- rows with every required one there
abbrev known : (ℕ → Bool) → (ℕ → CpuidResult) → Rows
known p r i = record { present = pick (always (rule_at i)) true (p i); result = r i }

stored_results : (c : Settings) (p : ℕ → Bool) (r : ℕ → CpuidResult)
    → store_results c r (tabulate places (λ i. (dropped (known p r) (bit_or c.enabled.xfem c.enabled.xss) i).result))
    ≡ tabulate places (λ i. (finish_row c (rule_at i) (known p r i)).result)
unfolding tabulate dropped_row
stored_results c p r = refl

-- ---- of rows that passed the check of required leaves

module _ (n : ℕ) (m : Rows) (h : required_verdict m ≡ Ok tt) where
  abbrev p : ℕ → Bool
  p i = (m i).present

  abbrev r : ℕ → CpuidResult
  r i = (m i).result

  known_at : (i : ℕ) → i < places → known p r i ≡ m i
  known_at i l = ap (λ (b : Bool). with_presence b (r i)) (go (always (rule_at i)) refl)
    where
      go : (b : Bool) → always (rule_at i) ≡ b → pick b true (p i) ≡ p i
      go true e =
          let q = always_required i l e in
          sym (ap p (sym q.1) ∙ required_present m h (position i) q.0)
      go false e = refl

  finished_results :
      store_results (settings n m) r (tabulate places (λ i. (dropped m (combined_mask m) i).result)) ≡ tabulate places (λ i. (finished n m i).result)
  unfolding combined_mask settings enabled_by finished
  finished_results =
      ap (store_results (settings n m) r)
      (tabulate_ext places _ _ (λ i l. ap (λ (w : Row). (dropped_row (combined_mask m) i w).result) (sym (known_at i l))))
      ∙ stored_results (settings n m) p r
      ∙ tabulate_ext places _ _ (λ i l. ap (λ (w : Row). (finish_row (settings n m) (rule_at i) w).result) (known_at i l))

settings_eq : {y z : YmmClears} {e f : Enabled} {a b u v : ℕ} (t : ℕ) → y ≡ z → e ≡ f → a ≡ b → u ≡ v
    → settings_with y e a t u ≡ settings_with z f b t v
settings_eq t o p q r = rw (o, p, q, r)

pub finished_rows : (edition : ℕ) (m : Rows) {y : YmmClears} {e : Enabled} {x size v : ℕ} → Ready m size v → y ≡ ymm_clears edition
    → e ≡ enabled_from (m (Place.extended_state 0)).result (m (Place.extended_state 1)).result (m Place.extended_sev_features).result
    → x ≡ bit_or e.xfem e.xss
    → store_results (settings_with y e size (inputs_of m).t v) (λ i. (m i).result) (tabulate places (λ i. (dropped m x i).result))
    ≡ tabulate places (λ i. (finished edition m i).result)
unfolding combined_mask settings enabled_by xfem xss
finished_rows edition m {y} {e} {x} {size} {v} ready o f g =
    let q : x ≡ combined_mask m = g ∙ ap (λ (w : Enabled). bit_or w.xfem w.xss) f in
    let s : settings_with y e size (inputs_of m).t v ≡ settings edition m = settings_eq (inputs_of m).t o f ready.area ready.topology in
    ap₂ (λ (w : Settings) (z : ℕ). store_results w (λ i. (m i).result) (tabulate places (λ i. (dropped m z i).result))) s q
    ∙ finished_results edition m ready.required
