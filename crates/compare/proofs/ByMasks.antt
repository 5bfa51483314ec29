-- Registers of two rows compared by masks: f has the feature bits, m those that must agree, which in tables are all others. For the masks of a kind
-- this is the test of that kind, of registers of 32 bits; the save area of a table is tested by its size.
use Rattle.std.specs.Prelude.{◌≡◌, refl, Bool, true, ◌&&◌, ℕ, ◌-◌, ◌^◌, ◌≤◌, ◌<◌, min, max, eqb, leb}
use Rattle.std.proofs.Common.{sym, ap, ◌∙◌, ap₂, arith, eqb-true, eq-eqb}
use Rattle.std.specs.Int.Bits.{bit_and, bit_or, and_zero_r}
use Rattle.bits.specs.ChoiceLaws.{and_left, and_right, and_both, and_implied}
use Rattle.bits.specs.Bits.{bit, Within}
use Rattle.bits.specs.BitsLaws.{bit_and_lem, bit_or_lem, bit_lt, bits_ext, within_of_and, and_of_within}
use Rattle.x86defs.specs.declared.CpuidResult.{CpuidResult}
use Rattle.table.specs.Fits.{Fits}
use Rattle.finish.specs.Kinds.{Kind, Kinds, kinds_at}
use Rattle.finish.specs.Kinds.Kind.{feature, feature_but28, area, freed, other}
use Rattle.register_masks.specs.declared.RowMasks.{RowMasks}
use Rattle.register_masks.specs.RegisterMasks.{feature_bits, agreed_bits, masks_of}
use Rattle.register_masks.specs.AlikeLaws.{same_truth}
use Rattle.register_masks.specs.RegisterMaskLaws.{agree, whole, none_agreed, bit_28_agreed, all_agreed}
use Rattle.rise.specs.Decide.{rises_test}
use Rattle.compare.specs.declared.registers.RegistersRise.{RegistersRise}
use Rattle.compare.specs.Registers.{registers_rise}
use Rattle.bits.specs.Choice.{pick}
use Rattle.masking.specs.Kept.{places}
use Rattle.masking.specs.Place
use Rattle.compare.specs.declared.search.Asked.{Asked}
use Rattle.compare.specs.declared.search.Asked.TheVariants.{Entries, Tables}
use Rattle.compare.specs.RowsCompared.{table_test, wanted_by}
use Rattle.compare.specs.ByMasks.{agreed_in, area_test, is_area, only_area, outside, passes, passes_by, passes_or_grows, with_ecx}

-- ---- a register of two entries

module _ (a b : ℕ) (h : a < 2 ^ 32) (l : b < 2 ^ 32) where
  -- masks of every bit ask that A's lies within B's, and that the two agree where they must
  module _ (f m : ℕ) (all : bit_or f m ≡ 2 ^ 32 - 1) where
    abbrev asked : ℕ
    asked = bit_or (bit_and a f) m

    asked_bit : (k : ℕ) → bit k asked ≡ max (min (bit k a) (bit k f)) (bit k m)
    asked_bit k = omega (arith, bit_or_lem k (bit_and a f) m, bit_and_lem k a f)

    every_bit : (k : ℕ) → bit k a ≡ min (bit k a) (max (bit k f) (bit k m))
    every_bit k = omega (arith, ap (bit k) (whole a h), bit_and_lem k a (2 ^ 32 - 1), ap (bit k) all, bit_or_lem k f m)

    pub both_pass : passes f m a b ≡ (eqb (bit_and a b) a && agree m a b)
    both_pass = same_truth _ _ sound complete
      where
        sound : agree asked a b ≡ true → (eqb (bit_and a b) a && agree m a b) ≡ true
        sound e = and_both (eq-eqb _ _ (and_of_within (record { at = within }))) (eq-eqb _ _ (bits_ext _ _ agreeing))
          where
            both : (k : ℕ) → min (bit k a) (bit k asked) ≡ min (bit k b) (bit k asked)
            both k = sym (bit_and_lem k a asked) ∙ ap (bit k) (eqb-true _ _ e) ∙ bit_and_lem k b asked

            within : (k : ℕ) → bit k a ≤ bit k b
            within k = omega (arith, both k, asked_bit k, every_bit k, bit_lt k a, bit_lt k b, bit_lt k f, bit_lt k m)

            agreeing : (k : ℕ) → bit k (bit_and a m) ≡ bit k (bit_and b m)
            agreeing k = omega (arith, both k, asked_bit k, bit_and_lem k a m, bit_and_lem k b m, bit_lt k a, bit_lt k b, bit_lt k m)

        complete : (eqb (bit_and a b) a && agree m a b) ≡ true → agree asked a b ≡ true
        complete e = eq-eqb _ _ (bits_ext _ _ agreeing)
          where
            within : Within a b
            within = within_of_and (eqb-true _ _ (and_left _ _ e))

            both : (k : ℕ) → min (bit k a) (bit k m) ≡ min (bit k b) (bit k m)
            both k = sym (bit_and_lem k a m) ∙ ap (bit k) (eqb-true _ _ (and_right (eqb (bit_and a b) a) _ e)) ∙ bit_and_lem k b m

            agreeing : (k : ℕ) → bit k (bit_and a asked) ≡ bit k (bit_and b asked)
            agreeing k =
                omega (arith, bit_and_lem k a asked, bit_and_lem k b asked, asked_bit k, within.at k, both k, bit_lt k a, bit_lt k b, bit_lt k f, bit_lt k m)

  features_pass : passes (2 ^ 32 - 1) 0 a b ≡ rises_test feature a b
  features_pass = both_pass (2 ^ 32 - 1) 0 refl ∙ and_implied _ (agree 0 a b) (λ e. none_agreed a b)

  but_28_passes : passes (2 ^ 32 - 1 - 2 ^ 28) (2 ^ 28) a b ≡ rises_test feature_but28 a b
  but_28_passes = both_pass (2 ^ 32 - 1 - 2 ^ 28) (2 ^ 28) refl ∙ ap (λ (c : Bool). eqb (bit_and a b) a && c) (bit_28_agreed a b)

  same_passes : passes 0 (2 ^ 32 - 1) a b ≡ eqb a b
  same_passes = ap (λ (x : ℕ). agree (bit_or x (2 ^ 32 - 1)) a b) (and_zero_r a) ∙ all_agreed a b h l

  free_passes : passes 0 0 a b ≡ true
  free_passes = ap (λ (x : ℕ). agree (bit_or x 0) a b) (and_zero_r a) ∙ none_agreed a b

  entry_passes : (k : Kind) → passes (feature_bits k) (agreed_bits k) a b ≡ rises_test k a b
  entry_passes feature = features_pass
  entry_passes feature_but28 = but_28_passes
  entry_passes area = free_passes
  entry_passes freed = free_passes
  entry_passes other = same_passes

-- ---- a row of entries, by its masks m

module _ (m : RowMasks) (a b : CpuidResult) (f : Fits a) (g : Fits b) (k : Kinds) (e : m ≡ masks_of k) where
  pub entries_by_kind : passes_by m.features m.agreed a b ≡ registers_rise rises_test k a b
  entries_by_kind =
      ap (λ (n : RowMasks). passes_by n.features n.agreed a b) e
      ∙ (λ t. record {
        eax = entry_passes a.eax b.eax f.eax g.eax k.eax t;
        ebx = entry_passes a.ebx b.ebx f.ebx g.ebx k.ebx t;
        ecx = entry_passes a.ecx b.ecx f.ecx g.ecx k.ecx t;
        edx = entry_passes a.edx b.edx f.edx g.edx k.edx t;
      })

table_passes : (k : Kind) (a b : ℕ) → a < 2 ^ 32 → b < 2 ^ 32 → passes_or_grows (is_area k) (feature_bits k) a b ≡ table_test k a b
table_passes feature a b h l = features_pass a b h l
table_passes feature_but28 a b h l = but_28_passes a b h l
table_passes area a b h l = refl
table_passes freed a b h l = same_passes a b h l
table_passes other a b h l = same_passes a b h l

-- ---- a row, by the masks m of its place

module _ (i : ℕ) (l : i < places) (a b : CpuidResult) (m : RowMasks) (g : Fits a) (h : Fits b) (e : m ≡ masks_of (kinds_at i)) where
  abbrev k : Kinds
  k = kinds_at i

  abbrev f : CpuidResult
  f = m.features

  abbrev row_by : RegistersRise → RowMasks → RegistersRise
  row_by grows n = record {
    eax = passes_or_grows grows.eax n.features.eax a.eax b.eax;
    ebx = passes_or_grows grows.ebx n.features.ebx a.ebx b.ebx;
    ecx = passes_or_grows grows.ecx n.features.ecx a.ecx b.ecx;
    edx = passes_or_grows grows.edx n.features.edx a.edx b.edx;
  }

  tables_by_kind : with_ecx (pick (eqb i (Place.extended_state 0)) (leb a.ecx b.ecx) (passes f.ecx (outside f).ecx a.ecx b.ecx))
      (passes_by f (outside f) a b)
      ≡ registers_rise table_test k a b
  tables_by_kind =
      ap₂ row_by (sym (only_area i l)) e
      ∙ (λ t. record {
        eax = table_passes k.eax a.eax b.eax g.eax h.eax t;
        ebx = table_passes k.ebx a.ebx b.ebx g.ebx h.ebx t;
        ecx = table_passes k.ecx a.ecx b.ecx g.ecx h.ecx t;
        edx = table_passes k.edx a.edx b.edx g.edx h.edx t;
      })

  pub rows_by_kind : (asked : Asked)
      → with_ecx (area_test asked i a.ecx b.ecx (passes_by f (agreed_in asked m) a b).ecx) (passes_by f (agreed_in asked m) a b)
      ≡ registers_rise (wanted_by asked).register k a b
  rows_by_kind Entries = entries_by_kind m a b g h k e
  rows_by_kind (Tables x y) = tables_by_kind
