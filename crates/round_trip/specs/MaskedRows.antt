-- Rows of pages are masked: masking again changes nothing.
use Rattle.std.specs.Prelude.{◌≡◌, refl, Bool, true, false, List, ℕ, ◌<◌, eqb}
use Rattle.std.proofs.Common.{arith}
use Rattle.std.specs.Int.Bits.{bit_and, bit_or}
use Rattle.bits.specs.Choice.{pick}
use Rattle.bits.specs.ChoiceLaws.{never_both}
use Rattle.bits.specs.BitsLaws.{bit_and_lem, bit_or_lem, bits_ext}
use Rattle.x86defs.specs.declared.CpuidResult.{CpuidResult}
use Rattle.x86defs.specs.Functions.{cpuid_result}
use Rattle.pages.specs.Entries.{counted}
use Rattle.masking.specs.Kept.{places, masks_at}
use Rattle.masking.specs.Place
use Rattle.table.specs.Rows.{row, vacant}
use Rattle.collect.specs.FirstEntries.{first_at, legacy_features, masked_at, mask_row, rows_of}
use Rattle.collect.specs.FirstEntriesLaws.{row_of_place_lem}
use Rattle.round_trip.specs.Again.{MaskedAgain}

and_again : (x m : ℕ) → bit_and (bit_and x m) m ≡ bit_and x m
and_again x m = bits_ext _ _ (λ k. omega (arith, bit_and_lem k (bit_and x m) m, bit_and_lem k x m))

or_again : (x m l : ℕ) → bit_or (bit_and (bit_or (bit_and x m) l) m) l ≡ bit_or (bit_and x m) l
or_again x m l =
    bits_ext _ _ (λ k. omega (
      arith,
      bit_or_lem k (bit_and (bit_or (bit_and x m) l) m) l,
      bit_and_lem k (bit_or (bit_and x m) l) m,
      bit_or_lem k
          (bit_and x m) l,
      bit_and_lem k x m,
    ))

eax_again : (b : Bool) (x m l : ℕ)
    → pick b (bit_or (bit_and (pick b (bit_or (bit_and x m) l) (bit_and x m)) m) l) (bit_and (pick b (bit_or (bit_and x m) l) (bit_and x m)) m)
    ≡ pick b (bit_or (bit_and x m) l) (bit_and x m)
eax_again true x m l = or_again x m l
eax_again false x m l = and_again x m

masked_again : (avic : Bool) (i : ℕ) (r : CpuidResult) → masked_at avic i (masked_at avic i r) ≡ masked_at avic i r
masked_again avic i r = λ k.
    cpuid_result (eax_again (eqb i (Place.extended_state 0)) r.eax (masks_at avic i).eax legacy_features k)
    (and_again r.ebx (masks_at avic i).ebx k)
    (and_again r.ecx (masks_at avic i).ecx k)
    (and_again r.edx (masks_at avic i).edx k)

pub rows_masked : (avic : Bool) (s : List ℕ) → MaskedAgain avic (rows_of avic s)
rows_masked avic s = record { fixed = λ i l p. at i l p }
  where
    mask_row_lem : (i : ℕ) (b : Bool) (r : CpuidResult) → (pick b (row (masked_at avic i r)) vacant).present ≡ true
        → masked_at avic i (pick b (row (masked_at avic i r)) vacant).result ≡ (pick b (row (masked_at avic i r)) vacant).result
    mask_row_lem i true r e = masked_again avic i r
    mask_row_lem i false r e = absurd (never_both e refl)

    at : (i : ℕ) → i < places → (rows_of avic s i).present ≡ true → masked_at avic i (rows_of avic s i).result ≡ (rows_of avic s i).result
    at i l p =
        let q : rows_of avic s i ≡ mask_row avic i (first_at i (counted s)) = row_of_place_lem avic s i l in
        rw q
        (mask_row_lem i (first_at i (counted s)).present (first_at i (counted s)).result (rw q at p))
