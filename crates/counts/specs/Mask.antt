-- The combined mask of any page set lies within bits 0, 1, 2, 5, 6, 7, 11 and 12, so it has at most six from 2 up.
use Rattle.std.specs.Prelude.{◌≡◌, refl, Bool, true, false, ◌&&◌, List, ℕ, ◌+◌, ◌≤◌, ltb}
use Rattle.std.proofs.Common.{le_refl, arith}
use Rattle.bits.specs.Choice.{pick}
use Rattle.bits.specs.Lists.{sum_to, one}
use Rattle.bits.specs.Bits.{bit, has, mask_of, Within}
use Rattle.bits.specs.BitsLaws.{within_refl, within_trans, within_of_and, within_zero, and_within_right, or_least}
use Rattle.bits.proofs.BitsLaws.{has_mono}
use Rattle.x86defs.specs.declared.CpuidResult.{CpuidResult}
use Rattle.pages.specs.Entries.{counted}
use Rattle.masking.specs.Masks.{extended_state0, extended_state1}
use Rattle.masking.specs.Kept.{kept_leaves, slot, places}
use Rattle.masking.specs.Place
use Rattle.table.specs.Rows.{Row, Rows, vacant}
use Rattle.checks.specs.ExtendedState.{xfem, xss, combined_mask}
use Rattle.collect.specs.FirstEntries.{first_at, legacy_features, masked_at, mask_row, rows_of}
use Rattle.counts.specs.Counts.{components_in}
use Rattle.image.specs.Sums.{sum_mono}

-- ---- the mask

-- a register that stays within x when a first entry is masked, and in a vacant row, does so in the rows of any page set
pub register_within : (register : CpuidResult → ℕ) (avic : Bool) (s : List ℕ) (i : ℕ) {x : ℕ}
    → ((r : CpuidResult) → Within (register (masked_at avic i r)) x)
    → Within (register vacant.result) x → Within (register (rows_of avic s i).result) x
unfolding rows_of
register_within register avic s i {x} masked absent = go (ltb i places) first.present
  where
    first : Row
    first = first_at i (counted s)

    go : (inside b : Bool) → Within (register (pick inside (mask_row avic i (record { present = b; result = first.result })) vacant).result) x
    go true true = masked first.result
    go true false = absent
    go false b = absent

-- D.0.EAX, with bits 0 and 1 set, and D.1.ECX
pub xfem_within : (avic : Bool) (s : List ℕ) → Within (xfem (rows_of avic s)) extended_state0.eax
unfolding xfem slot kept_leaves legacy_features extended_state0 mask_of
xfem_within avic s =
    register_within (λ r. r.eax) avic s (Place.extended_state 0)
    (λ r. or_least (and_within_right r.eax extended_state0.eax) (within_of_and refl))
    (within_zero extended_state0.eax)

subleaf_1_within : (avic : Bool) (s : List ℕ) → Within (rows_of avic s (Place.extended_state 1)).result.ecx extended_state1.ecx
unfolding slot kept_leaves
subleaf_1_within avic s =
    register_within (λ r. r.ecx) avic s (Place.extended_state 1) (λ r. and_within_right r.ecx extended_state1.ecx)
    (within_zero extended_state1.ecx)

pick_within : (b : Bool) (a : ℕ) → Within (pick b a 0) a
pick_within true a = within_refl a
pick_within false a = within_zero a

pub xss_within : (m : Rows) → Within (xss m) (m (Place.extended_state 1)).result.ecx
unfolding xss
xss_within m = let eax : ℕ = (m (Place.extended_state 1)).result.eax in pick_within (has 1 eax && has 3 eax) _

pub mask_within : (avic : Bool) (s : List ℕ) → Within (combined_mask (rows_of avic s)) 0x18E7
unfolding combined_mask extended_state0 extended_state1 mask_of
mask_within avic s =
    or_least
    (within_trans (xfem_within avic s) (within_of_and refl))
    (within_trans (xss_within (rows_of avic s)) (within_trans (subleaf_1_within avic s) (within_of_and refl)))

-- ---- its components

one_mono : (a b : Bool) → (a ≡ true → b ≡ true) → one a ≤ one b
one_mono true b f = rw (f refl) (le_refl 1)
one_mono false b f = omega arith

components_mono : {x y : ℕ} → Within x y → components_in x ≤ components_in y
unfolding components_in
components_mono {x} {y} h = sum_mono _ _ 62 (λ k. one_mono (has (2 + k) x) (has (2 + k) y) (has_mono (2 + k) h))

pub components_most : {x : ℕ} → Within x 0x18E7 → components_in x ≤ 6
unfolding components_in sum_to has bit
components_most h = components_mono h
