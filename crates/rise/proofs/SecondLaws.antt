-- Finished under edition 2, rows are those of edition 1 without the three bits: bit by bit in the two registers, by computation elsewhere.
use Rattle.std.specs.Prelude.{◌≡◌, Bool, ℕ, ◌-◌, ◌^◌, ◌<◌}
use Rattle.std.proofs.Math.Path.{refl, ap₂, subst}
use Rattle.std.proofs.Common.{sym, ap, eqb-true}
use Rattle.std.proofs.Math.Bool.{true, false}
use Rattle.std.specs.Int.Bits.{and_zero_l}
use Rattle.std.proofs.Math.Dec.{eqb}
use Rattle.bits.specs.Choice.{pick}
use Rattle.bits.specs.Bits.{has, clear, clear_unless}
use Rattle.x86defs.specs.declared.CpuidResult.{CpuidResult}
use Rattle.x86defs.specs.Functions.{cpuid_result}
use Rattle.masking.specs.Kept.{places}
use Rattle.masking.specs.Place
use Rattle.table.specs.Edition.{f16c, xop_and_fma4}
use Rattle.table.specs.Rows.{Rows, row, vacant}
use Rattle.checks.specs.ExtendedState.{xfem}
use Rattle.finish.specs.Finish.{rule_at, enabled_by, settings, finished}
use Rattle.rise.specs.Second.{clear_ecx, second_row}
use Rattle.rise.specs.SecondLaws.{extended_second, remains_same, same_elsewhere, version_second}

pub zero_clears : (keep : Bool) (k : ℕ) → clear_unless keep k 0 ≡ 0
unfolding clear_unless clear
zero_clears true k = refl
zero_clears false k = and_zero_l (2 ^ 32 - 1 - k)

-- a row whose ECX loses the bits of k, there or not
row_second : (p keep : Bool) (k : ℕ) (r : CpuidResult) (x y d : ℕ) → x ≡ clear_unless keep k y
    → pick p (row (cpuid_result r.eax r.ebx x d)) vacant ≡ clear_ecx keep k (pick p (row (cpuid_result r.eax r.ebx y d)) vacant)
row_second true keep k r x y d e = ap (λ (z : ℕ). row (cpuid_result r.eax r.ebx z d)) e
row_second false keep k r x y d e = ap (λ (z : ℕ). record { present = false; result = cpuid_result 0 0 z 0 }) (sym (zero_clears keep k))

module _ (m : Rows) where
  abbrev keep : Bool
  keep = has 2 (xfem m)

  version_row_lem : finished 2 m Place.version_and_features ≡ clear_ecx keep f16c (finished 1 m Place.version_and_features)
  unfolding finished settings enabled_by
  version_row_lem =
      let r : CpuidResult = (m Place.version_and_features).result in
      row_second (m Place.version_and_features).present keep f16c r _ _ r.edx (version_second (enabled_by m) r.ecx)

  extended_row : finished 2 m Place.extended_version_and_features ≡ clear_ecx keep xop_and_fma4 (finished 1 m Place.extended_version_and_features)
  unfolding finished settings enabled_by
  extended_row =
      let r : CpuidResult = (m Place.extended_version_and_features).result in
      row_second (m Place.extended_version_and_features).present keep xop_and_fma4 r _ _ _ (extended_second (enabled_by m) r.ecx)

  pub finished_second : (i : ℕ) → i < places → finished 2 m i ≡ second_row keep i (finished 1 m i)
  unfolding finished
  finished_second i l = go (eqb i Place.version_and_features) refl (eqb i Place.extended_version_and_features) refl
    where
      go : (p : Bool) → eqb i Place.version_and_features ≡ p → (q : Bool) → eqb i Place.extended_version_and_features ≡ q
          → finished 2 m i ≡ pick p (clear_ecx keep f16c (finished 1 m i)) (pick q (clear_ecx keep xop_and_fma4 (finished 1 m i)) (finished 1 m i))
      go true e q f =
          subst (λ (j : ℕ). finished 2 m j ≡ clear_ecx keep f16c (finished 1 m j)) (sym (eqb-true i Place.version_and_features e)) version_row_lem
      go false e true f =
          subst (λ (j : ℕ). finished 2 m j ≡ clear_ecx keep xop_and_fma4 (finished 1 m j)) (sym (eqb-true i Place.extended_version_and_features f))
          extended_row
      go false e false f =
          ap₂ (λ (b : Bool) (q : CpuidResult). pick b (row q) vacant) (remains_same m (rule_at i) (m i).present)
          (same_elsewhere m (λ j. (m j).result) i l (rw (e, f)))
