-- How many there are, computed from how many each s and nc have.
use Rattle.std.specs.Prelude.{◌≡◌, refl, Bool, true, false, [], ◌++◌, ℕ, ◌+◌, ◌^◌, ◌≤◌, ◌<◌, eqb, ltb, length}
use Rattle.std.proofs.Common.{◌∙◌, arith, pow_mono, eqb-true, ltb-true, ltb-false}
use Rattle.std.proofs.lemmas.Bool.{eqb-false}
use Rattle.bits.specs.Choice.{pick}
use Rattle.bits.specs.Lists.{sum_to}
use Rattle.bits.specs.ListsLaws.{sum_ext}
use Rattle.topologies.specs.GatherLaws.{gather_length}
use Rattle.topologies.specs.Topologies.{accepted_at, accepted_of, accepted_inputs}
use Rattle.topologies.specs.ShortLaws.{single, counted, counted_two, at_zero, at_legacy, at_last, at_sized, at_beyond}

pub single_length : (s nc lps mt t : ℕ) → length (single s nc lps mt t) ≡ 1
unfolding single
single_length s nc lps mt t = refl

pub two_length : (s nc v : ℕ) → 1 < v → length (counted s nc v) ≡ 2
unfolding single
two_length s nc v h = rw (counted_two s nc v h)

pub some_length : (s nc v : ℕ) → 1 ≤ length (counted s nc v)
unfolding counted single
some_length s nc v = go (ltb 1 v)
  where
    go : (b : Bool) → 1 ≤ length (single s nc v 1 0 ++ pick b (single s nc v 1 1) [])
    go true = omega arith
    go false = omega arith

pub zero_length : (nc : ℕ) → nc ≡ 0 → (length (accepted_at 0 nc) ≡ 3) × (length (counted 0 0 1) ≡ 1)
unfolding counted single
zero_length nc e = (rw (e, at_zero), refl)

-- three with s = 0 and nc = 0, else two or none
abbrev pub many : ℕ → ℕ → ℕ
many s nc = pick (eqb s 0) (pick (eqb nc 0) 3 (pick (ltb nc 255) 2 0)) (pick (ltb nc (2 ^ s)) 2 0)

many_at : (s nc : ℕ) → s < 8 → length (accepted_at s nc) ≡ many s nc
unfolding counted single
many_at s nc h = go (eqb s 0) (eqb nc 0) (ltb nc 255) (ltb nc (2 ^ s)) refl refl refl refl
  where
    go : (a b c d : Bool) → eqb s 0 ≡ a → eqb nc 0 ≡ b → ltb nc 255 ≡ c → ltb nc (2 ^ s) ≡ d
        → length (accepted_at s nc) ≡ pick a (pick b 3 (pick c 2 0)) (pick d 2 0)
    go true true c d p q r u = rw (eqb-true s 0 p, eqb-true nc 0 q, at_zero)
    go true false true d p q r u =
        let n : nc ≡ 0 → ⊥ = eqb-false nc 0 q in
        rw (eqb-true s 0 p, at_legacy nc n (ltb-true nc 255 r), two_length 0 nc (nc + 1) (omega (arith, n)))
    go true false false d p q r u = rw (eqb-true s 0 p, at_last nc (ltb-false nc 255 r))
    go false b c true p q r u =
        let n : s ≡ 0 → ⊥ = eqb-false s 0 p in
        let two : 1 < 2 ^ s = omega (arith, pow_mono {i = 1} {j = s} (omega (arith, n))) in
        rw (at_sized s nc (2 ^ s) refl n h (ltb-true nc (2 ^ s) u), two_length s nc (2 ^ s) two)
    go false b c false p q r u =
        let n : s ≡ 0 → ⊥ = eqb-false s 0 p in rw (at_beyond s nc (2 ^ s) refl n h (ltb-false nc (2 ^ s) u))

pub count_of_lem : (s : ℕ) → s < 8 → length (accepted_of s) ≡ sum_to (many s) 256
unfolding accepted_of
count_of_lem s h = gather_length 256 (accepted_at s) ∙ sum_ext _ _ 256 (λ nc l. many_at s nc h)

-- "There are 1,019"
pub count_all : length accepted_inputs ≡ 1019
unfolding accepted_inputs sum_to
count_all = gather_length 8 accepted_of ∙ sum_ext _ (λ s. sum_to (many s) 256) 8 (λ s l. count_of_lem s l)
