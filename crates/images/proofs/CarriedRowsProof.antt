-- A carried table's rows are as CarriedRows.antt says, bit by bit.
use Rattle.std.specs.Prelude.{◌≡◌, Bool, ◌&&◌, List, ◌≢◌, eqb, length}
use Rattle.std.proofs.Math.Path.{refl}
use Rattle.std.proofs.Common.{ap, ◌∙◌, lit<, eqb-true, ne_eqb}
use Rattle.std.proofs.Math.Bool.{true, false}
use Prim.Native.Nat.{ℕ, ◌-◌, ◌^◌, ◌<◌, min}
use native.Mathlib.Omega.{arith}
use Rattle.std.proofs.lemmas.List.{length-replicate}
use Rattle.bits.specs.Choice.{pick}
use Rattle.bits.specs.ChoiceLaws.{never_both}
use Rattle.bits.specs.Search.{every}
use Rattle.bits.specs.SearchLaws.{every_at}
use Rattle.bits.specs.Bits.{bit, has, mask_of, clear, clear_unless}
use Rattle.bits.specs.BitsLaws.{bit_lt, bit_and_lem}
use Rattle.bits.specs.ListsLaws.{get_d_tabulate, length_tabulate}
use Rattle.x86defs.specs.Functions.{cpuid_result}
use Rattle.masking.specs.Kept.{places}
use Rattle.masking.specs.Place
use Rattle.table.specs.declared.CpuidResults.{CpuidResults}
use Rattle.table.specs.Edition.{joined_from, bits_between}
use Rattle.table.specs.Rows.{Row}
use Rattle.table.specs.Table.{table_of, empty_table, row_in}
use Rattle.checks.specs.ExtendedState.{xfem, combined_mask}
use Rattle.image.specs.Image.{image}
use Rattle.image_read.specs.ReadImage.{rows_read, is_image, read_image}
use Rattle.image_read.specs.WrittenAgain.{read_has_image}
use Rattle.carry.specs.Carry.{carried_at, carried_table, keeps, carry}
use Rattle.carry.specs.CarryImage.{carry_image}
use Rattle.images.specs.CarriedLaws.{given, carry_keeps, carries_in_place}
use Rattle.images.specs.CarriedRows.{own_ymm, BitsGone, RowGone, of_version, of_extended, CarriesRows, StaysWithin}
use Rattle.images.specs.CarriedRowsProof.{extended_gone, own_keeps, version_gone}
use Rattle.table.specs.Verdict.{Verdict}

module _ (keep : Bool) (t : CpuidResults) where
  carried_at_lem : (i : ℕ) → i < places → (row_in (carried_table (bits_between 1 2) keep t) i).result ≡ carried_at (bits_between 1 2) keep i (row_in t i)
  carried_at_lem i l = get_d_tabulate places (λ j. carried_at (bits_between 1 2) keep j (row_in t j)) i (cpuid_result 0 0 0 0) l

  absent_at : (i : ℕ) (r : Row) → r.present ≡ false → carried_at (bits_between 1 2) keep i r ≡ r.result
  absent_at i r e = rw (e, none (eqb i Place.version_and_features), none (eqb i Place.extended_version_and_features))
    where
      none : (b : Bool) → (b && false) ≡ false
      none true = refl
      none false = refl

  absent_row : (i : ℕ) → i < places → (row_in t i).present ≡ false → row_in (carried_table (bits_between 1 2) keep t) i ≡ row_in t i
  absent_row i l e = λ k. record { present = (row_in t i).present; result = (carried_at_lem i l ∙ absent_at i (row_in t i) e) k }

  other_at : (i : ℕ) (r : Row) → i ≢ Place.version_and_features → i ≢ Place.extended_version_and_features → carried_at (bits_between 1 2) keep i r ≡ r.result
  other_at i r p q = rw (ne_eqb i Place.version_and_features p, ne_eqb i Place.extended_version_and_features q)

  other_row : (i : ℕ) → i < places → i ≢ Place.version_and_features → i ≢ Place.extended_version_and_features → row_in (carried_table (bits_between 1 2) keep t) i ≡ row_in t i
  other_row i l p q = λ k. record {
    present = (row_in t i).present;
    result = (carried_at_lem i l ∙ other_at i (row_in t i) p q) k;
  }

  version_row_lem : (row_in t Place.version_and_features).present ≡ true
      → RowGone keep of_version (row_in t Place.version_and_features).result (row_in (carried_table (bits_between 1 2) keep t) Place.version_and_features).result
  version_row_lem e = rw (carried_at_lem Place.version_and_features (lit< tt), e) (record { eax = refl; ebx = refl; ecx = version_gone keep _; edx = refl })

  extended_row : (row_in t Place.extended_version_and_features).present ≡ true
      → RowGone keep of_extended (row_in t Place.extended_version_and_features).result
      (row_in (carried_table (bits_between 1 2) keep t) Place.extended_version_and_features).result
  extended_row e =
      rw (carried_at_lem Place.extended_version_and_features (lit< tt), e) (record { eax = refl; ebx = refl; ecx = extended_gone keep _; edx = refl })

pub carries_rows : CarriesRows
carries_rows t xcr0 xss e =
    let g : (carry t 1 2 xcr0 xss).table ≡ carried_table (bits_between 1 2) (own_ymm t) t =
    given t 1 2 xcr0 xss e ∙ ap (λ (b : Bool). carried_table (bits_between 1 2) b t) (own_keeps t) in
    rw g
    (record {
      present = refl;
      count = refl;
      mask = refl;
      version = version_row_lem (own_ymm t) t;
      extended = extended_row (own_ymm t) t;
      others = other_row (own_ymm t) t;
      absent = absent_row (own_ymm t) t;
    })
