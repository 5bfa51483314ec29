-- A carried table's rows are as CarriedRows.antt says, bit by bit.
use Rattle.std.specs.Prelude.{◌≡◌, Bool, ◌&&◌, List, ◌≢◌, eqb, length, Err, Ok}
use Rattle.std.proofs.Math.Path.{refl}
use Rattle.std.proofs.Common.{ap, ◌∙◌, lit<, eqb-true, ne_eqb}
use Rattle.std.proofs.Math.Bool.{true, false}
use Prim.Native.Nat.{ℕ, ◌-◌, ◌^◌, ◌<◌, min}
use native.Mathlib.Omega.{arith}
use Rattle.std.proofs.lemmas.List.{length-replicate}
use Rattle.bits.specs.Choice.{pick}
use Rattle.bits.specs.ChoiceLaws.{never_both}
use Rattle.bits.specs.Search.{every}
use Rattle.bits.specs.SearchLaws.{every_at}
use Rattle.bits.specs.Bits.{bit, has, mask_of, clear, clear_unless}
use Rattle.bits.specs.BitsLaws.{bit_lt, bit_and_lem}
use Rattle.bits.specs.ListsLaws.{get_d_tabulate, length_tabulate}
use Rattle.x86defs.specs.Functions.{cpuid_result}
use Rattle.masking.specs.Kept.{places}
use Rattle.masking.specs.Place
use Rattle.table.specs.declared.CpuidResults.{CpuidResults}
use Rattle.table.specs.Edition.{joined_from, bits_between}
use Rattle.table.specs.Rows.{Row}
use Rattle.table.specs.Table.{table_of, empty_table, row_in}
use Rattle.checks.specs.ExtendedState.{xfem, combined_mask}
use Rattle.image.specs.Image.{image}
use Rattle.image_read.specs.ReadImage.{rows_read, is_image, read_image}
use Rattle.image_read.specs.WrittenAgain.{read_has_image}
use Rattle.carry.specs.Carry.{carried_at, carried_table, keeps, carry}
use Rattle.carry.specs.CarryImage.{carry_image}
use Rattle.images.specs.CarriedLaws.{given, carry_keeps, carries_in_place}
use Rattle.images.specs.CarriedRows.{own_ymm, BitsGone, RowGone, of_version, of_extended, CarriesRows, StaysWithin}
use Rattle.table.specs.Verdict.{Verdict}

-- ---- the statement

-- ---- bits

-- a mask m whose bits are the named ones, over 32 bits by one test
module _ (m : ℕ) (named : ℕ → Bool) where
  abbrev gone_test : ℕ → Bool
  gone_test k = eqb (bit k (2 ^ 32 - 1 - m)) (pick (named k) 0 1)

  bits_gone : every gone_test 32 ≡ true → (keep : Bool) (x : ℕ) → BitsGone keep named x (clear_unless keep m x)
  unfolding clear_unless clear
  bits_gone t true x = record { kept = λ e. refl; gone = λ e. absurd (never_both refl e) }
  bits_gone t false x = record {
    kept = λ e. absurd (never_both e refl);
    gone = λ e k l. go k _ (named k) (bit_and_lem k x (2 ^ 32 - 1 - m)) (eqb-true _ _ (every_at gone_test 32 t k l));
  }
    where
      go : (k y : ℕ) (b : Bool) → y ≡ min (bit k x) (bit k (2 ^ 32 - 1 - m)) → bit k (2 ^ 32 - 1 - m) ≡ pick b 0 1 → y ≡ pick b 0 (bit k x)
      go k y true e f = omega arith
      go k y false e f = omega (arith, bit_lt k x)

pub version_gone : (keep : Bool) (x : ℕ) → BitsGone keep of_version x (clear_unless keep (bits_between 1 2).version_ecx x)
unfolding bits_between joined_from mask_of bit
version_gone = bits_gone (bits_between 1 2).version_ecx of_version refl

pub extended_gone : (keep : Bool) (x : ℕ) → BitsGone keep of_extended x (clear_unless keep (bits_between 1 2).extended_version_ecx x)
unfolding bits_between joined_from mask_of bit
extended_gone = bits_gone (bits_between 1 2).extended_version_ecx of_extended refl

-- ---- rows

pub own_keeps : (t : CpuidResults) → keeps t 1 2 ≡ own_ymm t
unfolding keeps xfem
own_keeps t = go (row_in t (Place.extended_state 0)).present
  where
    go : (b : Bool)
        → has 2 (pick b (row_in t (Place.extended_state 0)).result (cpuid_result 0 0 0 0)).eax
        ≡ has 2 (pick b (row_in t (Place.extended_state 0)).result.eax 0)
    go true = refl
    go false = refl

-- ---- in place

read_places : (s : List ℕ) → length (read_image s).table.results ≡ places
unfolding read_image
read_places s = go (is_image s)
  where
    go : (b : Bool) → length (pick b (table_of (rows_read s) (combined_mask (rows_read s))) empty_table).results ≡ places
    go true = length_tabulate places (λ i. (rows_read s i).result)
    go false = length-replicate places (cpuid_result 0 0 0 0)

not_carried : (s : List ℕ) (from to xcr0 xss : ℕ) → (read_image s).is_image ≡ false → (carry_image s from to xcr0 xss).buffer ≡ s
unfolding carry_image
not_carried s from to xcr0 xss e = rw e

refused_carry_lem : (s : List ℕ) (from to xcr0 xss : ℕ) {r : _} → (carry (read_image s).table from to xcr0 xss).verdict ≡ Err r
    → (read_image s).is_image ≡ true → (carry_image s from to xcr0 xss).buffer ≡ s
unfolding carry_image
refused_carry_lem s from to xcr0 xss e f = rw (f, e)

pub stays_within : StaysWithin
stays_within s n xcr0 xss bytes = go (read_image s).is_image refl (carry (read_image s).table n n xcr0 xss).verdict refl
  where
    go : (b : Bool) → (read_image s).is_image ≡ b → (v : Verdict) → (carry (read_image s).table n n xcr0 xss).verdict ≡ v
        → (carry_image s n n xcr0 xss).buffer ≡ s
    go false e v f = not_carried s n n xcr0 xss e
    go true e (Err r) f = refused_carry_lem s n n xcr0 xss f e
    go true e (Ok _) f =
        (carries_in_place s n n xcr0 xss bytes e f).0
        ∙ ap image ((carry_keeps (read_image s).table n n xcr0 xss (read_places s) f).same refl)
        ∙ read_has_image s bytes e
