-- The bits of editions: more of them where more editions are asked for, and all of them bits of a 32-bit register.
use Rattle.std.specs.Prelude.{◌≡◌, refl, Bool, true, false, ◌&&◌, ℕ, suc, ◌^◌, ◌≤◌, ◌<◌, ltb, leb}
use Rattle.std.proofs.Common.{arith, lit<, leb-true, le-leb}
use mathlib.Core.List.{List, [], ◌∷◌}
use Rattle.bits.specs.ChoiceLaws.{never_both, and_left, and_right}
use Rattle.bits.specs.Bits.{mask_of, Within}
use Rattle.bits.specs.BitsLaws.{within_refl, within_trans, within_le, within_or, or_within_left}
use Rattle.table.specs.declared.edition.EditionBits.{EditionBits}
use Rattle.table.specs.Edition.{editions, known_edition, joined, joined_from, bits_between, later_bits}

pub known_bounds : (n : ℕ) → known_edition n ≡ true → (1 ≤ n) × (n ≤ editions)
unfolding known_edition
known_bounds n e = (leb-true 1 n (and_left (leb 1 n) (leb n editions) e), leb-true n editions (and_right (leb 1 n) (leb n editions) e))

-- c has at least the bits of b
pub record Inside (b c : EditionBits) : Type 0 where
  pub version : Within b.version_ecx c.version_ecx
  pub extended : Within b.extended_version_ecx c.extended_version_ecx

pub inside_itself : (b : EditionBits) → Inside b b
inside_itself b = record { version = within_refl _; extended = within_refl _ }

joined_inside : (p q : Bool) (r : EditionBits) {b c : EditionBits} → (p ≡ true → q ≡ true) → Inside b c → Inside (joined b p r) (joined c q r)
joined_inside true true r f h = record { version = within_or h.version (within_refl _); extended = within_or h.extended (within_refl _) }
joined_inside true false r f h = absurd (never_both (f refl) refl)
joined_inside false true r f h =
    record { version = within_trans h.version (or_within_left _ _); extended = within_trans h.extended (or_within_left _ _) }
joined_inside false false r f h = h

module _ {p q : ℕ → Bool} (f : (k : ℕ) → p k ≡ true → q k ≡ true) where
  pub from_inside : (k : ℕ) {b c : EditionBits} (l : List EditionBits) → Inside b c → Inside (joined_from p k b l) (joined_from q k c l)
  unfolding joined_from
  from_inside k [] h = h
  from_inside k (r ∷ rs) h = from_inside (suc k) rs (joined_inside (p k) (q k) r (f k) h)

-- between any two editions there are no other bits
pub between_later : (from to : ℕ) → Inside (bits_between from to) later_bits
unfolding bits_between later_bits
between_later from to = from_inside (λ k e. refl) 2 _ (inside_itself _)

pub later_small : (later_bits.version_ecx < 2 ^ 32) × (later_bits.extended_version_ecx < 2 ^ 32)
unfolding later_bits joined_from mask_of
later_small = (lit< tt, lit< tt)

-- an edition clears what an earlier one clears
pub between_rise : (from to later : ℕ) → to ≤ later → Inside (bits_between from to) (bits_between from later)
unfolding bits_between
between_rise from to later l = from_inside (λ k. go k (ltb from k)) 2 _ (inside_itself _)
  where
    go : (k : ℕ) (b : Bool) → (b && leb k to) ≡ true → (b && leb k later) ≡ true
    go k true e = le-leb k later (omega (arith, leb-true k to e))
    go k false e = e

pub between_small : (from to : ℕ) → ((bits_between from to).version_ecx < 2 ^ 32) × ((bits_between from to).extended_version_ecx < 2 ^ 32)
between_small from to =
    let h = between_later from to in
    (omega (arith, within_le h.version, later_small.0), omega (arith, within_le h.extended, later_small.1))
