-- The meet of two row sets, for the pool of servers: feature registers by and, all else from the first. Then what is enabled, the
-- combined mask and every feature register of the finished rows are the and of the two sets'.
use Rattle.std.specs.Prelude.{◌≡◌, refl, Bool, true, false, ◌&&◌, ℕ, ◌≤◌, min, max, eqb}
use Rattle.std.proofs.Common.{sym, ap, ap₂, ◌∙◌, arith, eqb-true}
use Rattle.std.specs.Int.Bits.{bit_and, bit_or, and_zero_l, and_zero_r}
use Rattle.std.proofs.lemmas.Bool.{eqb-false}
use Rattle.bits.specs.Choice.{pick}
use Rattle.bits.specs.ChoiceLaws.{and_swap}
use Rattle.bits.specs.Bits.{bit, has, Within}
use Rattle.bits.specs.BitsLaws.{bit_and_lem, bit_or_lem, bits_ext, zero_bit}
use Rattle.bits.proofs.BitsLaws.{has_and}
use Rattle.x86defs.specs.declared.CpuidResult.{CpuidResult}
use Rattle.x86defs.specs.Functions.{cpuid_result}
use Rattle.masking.specs.Kept.{kept_leaves, slot}
use Rattle.masking.specs.Place
use Rattle.table.specs.Rows.{Rows}
use Rattle.checks.specs.ExtendedState.{xfem, xss, combined_mask}
use Rattle.finish.specs.Finish.{Settings, enabled_by, unless_no_xss}
use Rattle.finish.specs.Kinds.{Kind, Kinds, register_kinds, kinds_at}
use Rattle.finish.specs.Kinds.Kind.{feature, feature_but28, area, freed, other}
use Rattle.finish.specs.RuleKinds.{kept}
use Rattle.finish.specs.FeatureLaws.{both_enable}

-- the meet of two registers: by and where the register holds features; else the first's
abbrev pub meet : Kind → ℕ → ℕ → ℕ
meet feature a b = bit_and a b
meet feature_but28 a b = bit_and a b
meet area a b = a
meet freed a b = a
meet other a b = a

abbrev pub meet_results : Kinds → CpuidResult → CpuidResult → CpuidResult
meet_results k a b =
    cpuid_result (meet k.eax a.eax b.eax) (meet k.ebx a.ebx b.ebx) (meet k.ecx a.ecx b.ecx)
    (meet k.edx a.edx b.edx)

-- a row that both have
unfoldable pub meet_rows : Rows → Rows → Rows
meet_rows a b i = record { present = (a i).present && (b i).present; result = meet_results (kinds_at i) (a i).result (b i).result }

-- ---- what is enabled

pub xfem_meet : (a b : Rows) → xfem (meet_rows a b) ≡ bit_and (xfem a) (xfem b)
unfolding xfem meet_rows kinds_at register_kinds slot kept_leaves
xfem_meet a b = refl

pick_meet : (p q : Bool) (x y : ℕ) → pick (p && q) (bit_and x y) 0 ≡ bit_and (pick p x 0) (pick q y 0)
pick_meet true true x y = refl
pick_meet true false x y = sym (and_zero_r x)
pick_meet false q x y = sym (and_zero_l (pick q y 0))

pub xss_meet : (a b : Rows) → xss (meet_rows a b) ≡ bit_and (xss a) (xss b)
unfolding xss meet_rows kinds_at register_kinds slot kept_leaves
xss_meet a b =
    let u : ℕ = (a (Place.extended_state 1)).result.eax in
    let v : ℕ = (b (Place.extended_state 1)).result.eax in
    ap (λ (t : Bool). pick t (bit_and (a (Place.extended_state 1)).result.ecx (b (Place.extended_state 1)).result.ecx) 0)
    (ap₂ ◌&&◌ (has_and 1 u v) (has_and 3 u v) ∙ and_swap (has 1 u) (has 1 v) (has 3 u) (has 3 v))
    ∙ pick_meet (has 1 u && has 3 u) (has 1 v && has 3 v) (a (Place.extended_state 1)).result.ecx (b (Place.extended_state 1)).result.ecx

pub enabled_meet : (a b : Rows) → enabled_by (meet_rows a b) ≡ both_enable (enabled_by a) (enabled_by b)
unfolding enabled_by meet_rows kinds_at register_kinds slot kept_leaves
enabled_meet a b i = record {
  xfem = xfem_meet a b i;
  xss = xss_meet a b i;
  tsc_aux = has_and 9 (a Place.extended_sev_features).result.eax (b Place.extended_sev_features).result.eax i;
}

-- what masking leaves of the two state masks: bits 0, 1, 2, 5, 6, 7 of XFEM and 11, 12 of XSS
pub record MaskedState (m : Rows) : Type 0 where
  pub xfem : Within (xfem m) 0xE7
  pub xss : Within (xss m) 0x1800

max_zero_left : (n : ℕ) → max 0 n ≡ n
max_zero_left n = omega arith

max_zero_right : (n : ℕ) → max n 0 ≡ n
max_zero_right n = omega arith

-- of two ranges that share no bit, one is empty at each bit
bit_meet : (e x fa fb sa sb : ℕ) → min e x ≡ 0 → fa ≤ e → fb ≤ e → sa ≤ x → sb ≤ x → max (min fa fb) (min sa sb) ≡ min (max fa sa) (max fb sb)
bit_meet e x fa fb sa sb m p q r t = go (eqb e 0) refl
  where
    go : (b : Bool) → eqb e 0 ≡ b → max (min fa fb) (min sa sb) ≡ min (max fa sa) (max fb sb)
    go true z =
        let a : fa ≡ 0 = omega (arith, eqb-true e 0 z) in
        let b : fb ≡ 0 = omega (arith, eqb-true e 0 z) in
        rw (a, b, max_zero_left (min sa sb), max_zero_left sa, max_zero_left sb)
    go false z =
        let n : ¬ (e ≡ 0) = eqb-false e 0 z in
        let a : sa ≡ 0 = omega arith in
        let b : sb ≡ 0 = omega arith in
        rw (a, b, max_zero_right (min fa fb), max_zero_right fa, max_zero_right fb)

pub mask_meet : (a b : Rows) → MaskedState a → MaskedState b → combined_mask (meet_rows a b) ≡ bit_and (combined_mask a) (combined_mask b)
unfolding combined_mask
mask_meet a b p q = ap₂ bit_or (xfem_meet a b) (xss_meet a b) ∙ bits_ext _ _ at_bit
  where
    at_bit : (k : ℕ)
        → bit k (bit_or (bit_and (xfem a) (xfem b)) (bit_and (xss a) (xss b))) ≡ bit k (bit_and (bit_or (xfem a) (xss a)) (bit_or (xfem b) (xss b)))
    at_bit k =
        rw (
          bit_or_lem k (bit_and (xfem a) (xfem b)) (bit_and (xss a) (xss b)),
          bit_and_lem k (xfem a) (xfem b),
          bit_and_lem k (xss a) (xss b),
          bit_and_lem k (bit_or (xfem a) (xss a)) (bit_or (xfem b) (xss b)),
          bit_or_lem k (xfem a) (xss a),
          bit_or_lem k (xfem b) (xss b),
        )
        (bit_meet (bit k 0xE7) (bit k 0x1800) _ _ _ _ (sym (bit_and_lem k 0xE7 0x1800) ∙ zero_bit k)
        (p.xfem.at k) (q.xfem.at k) (p.xss.at k) (q.xss.at k))

-- ---- every feature register

-- z is the and of x and y where the register holds features
abbrev pub FeatureMeet : Kind → ℕ → ℕ → ℕ → Type 0
FeatureMeet feature z x y = z ≡ bit_and x y
FeatureMeet feature_but28 z x y = z ≡ bit_and x y
FeatureMeet area z x y = Unit {0}
FeatureMeet freed z x y = Unit {0}
FeatureMeet other z x y = Unit {0}

pub record FeaturesMeet (k : Kinds) (z x y : CpuidResult) : Type 0 where
  pub eax : FeatureMeet k.eax z.eax x.eax y.eax
  pub ebx : FeatureMeet k.ebx z.ebx x.ebx y.ebx
  pub ecx : FeatureMeet k.ecx z.ecx x.ecx y.ecx
  pub edx : FeatureMeet k.edx z.edx x.edx y.edx

-- a register that keeps its masked value meets as its kind says
pub kept_meet : (k : Kind) (x y : ℕ) → FeatureMeet (kept k) (meet (kept k) x y) x y
kept_meet feature x y = refl
kept_meet feature_but28 x y = refl
kept_meet area x y = tt
kept_meet freed x y = tt
kept_meet other x y = tt

-- D.1.ECX ends as XSS (ExtendedStateLaws)
abbrev pub EndsAsXss : Settings → CpuidResult → Type 0
EndsAsXss c r = unless_no_xss c.enabled r.ecx ≡ c.enabled.xss
