-- Inputs by their inputs_rank, the five fields as digits, s first. A list that rises by inputs_rank is known by its members.
use Rattle.std.specs.Prelude.{◌≡◌, refl, List, [], ◌∷◌, ℕ, ◌+◌, ◌*◌, ◌<◌}
use Rattle.std.proofs.Common.{sym, ap, ap₂, ◌∙◌, inl, inr, eq-or-lt_of_le, arith}
use Rattle.bits.specs.Ascending.{BeforeAll, Ascending}
use Rattle.topology.specs.Topology.{Inputs}
use Rattle.topology_list.specs.Listed.{In, FieldsFit, InputsBefore}
use Rattle.topology_list.specs.Listed.InputsBefore.{by_s, by_nc, by_lps, by_mt, by_t}

unfoldable pub inputs_rank : Inputs → ℕ
inputs_rank i = (((i.s * 256 + i.nc) * 256 + i.lps) * 2 + i.mt) * 256 + i.t

pub before_rank : (i j : Inputs) → FieldsFit i → FieldsFit j → InputsBefore i j → inputs_rank i < inputs_rank j
unfolding inputs_rank
before_rank i j f g (by_s a) = omega (arith, f.nc, f.lps, f.mt, f.t)
before_rank i j f g (by_nc a b) = omega (arith, f.lps, f.mt, f.t)
before_rank i j f g (by_lps a b c) = omega (arith, f.mt, f.t)
before_rank i j f g (by_mt a b c d) = omega (arith, f.t)
before_rank i j f g (by_t a b c d e) = omega arith

pub rank_before : (i j : Inputs) → FieldsFit i → FieldsFit j → inputs_rank i < inputs_rank j → InputsBefore i j
unfolding inputs_rank
rank_before i j f g h = elim (eq-or-lt_of_le {n = i.s} {m = j.s} (omega (arith, f.nc, f.lps, f.mt, f.t, g.nc, g.lps, g.mt, g.t))) [
  | inr q ↦ by_s q
  | inl a ↦ elim (eq-or-lt_of_le {n = i.nc} {m = j.nc} (omega (arith, f.lps, f.mt, f.t, g.lps, g.mt, g.t))) [
    | inr q ↦ by_nc a q
    | inl b ↦ elim (eq-or-lt_of_le {n = i.lps} {m = j.lps} (omega (arith, f.mt, f.t, g.mt, g.t))) [
      | inr q ↦ by_lps a b q
      | inl c ↦ elim (eq-or-lt_of_le {n = i.mt} {m = j.mt} (omega (arith, f.t, g.t))) [
        | inr q ↦ by_mt a b c q
        | inl d ↦ by_t a b c d (omega arith)
      ]
    ]
  ]
]

-- each has a lower inputs_rank than all after it
abbrev pub InputsRise : List Inputs → Type 0
InputsRise [] = Unit
InputsRise (i ∷ is) = ((x : Inputs) → In x is → inputs_rank i < inputs_rank x) × InputsRise is

-- ---- two rising lists with the same members are one

module _ (i j : Inputs) (is js : List Inputs) (above : (x : Inputs) → In x is → inputs_rank i < inputs_rank x) (over : (x : Inputs) → In x js → inputs_rank j < inputs_rank x) where
  -- neither head stands further on in the other list
  same_head : In i (j ∷ js) → In j (i ∷ is) → i ≡ j
  same_head (inl e) q = e
  same_head (inr p) (inl e) = sym e
  same_head (inr p) (inr q) = absurd (omega (arith, over i p, above j q))

  -- what stands further on is no head
  same_tail : i ≡ j → ((x : Inputs) → In x (i ∷ is) → In x (j ∷ js)) → (x : Inputs) → In x is → In x js
  same_tail e h x p = go (h x (inr p))
    where
      go : In x (j ∷ js) → In x js
      go (inl f) = absurd (let r : inputs_rank x ≡ inputs_rank i = ap inputs_rank (f ∙ sym e) in omega (arith, above x p, r))
      go (inr q) = q

pub rising_unique : (l k : List Inputs) → InputsRise l → InputsRise k → ((x : Inputs) → In x l → In x k) → ((x : Inputs) → In x k → In x l) → l ≡ k
rising_unique [] [] a b to from = refl
rising_unique [] (j ∷ js) a b to from = absurd (from j (inl refl))
rising_unique (i ∷ is) [] a b to from = absurd (to i (inl refl))
rising_unique (i ∷ is) (j ∷ js) a b to from =
    let e = same_head i j is js a.0 b.0 (to i (inl refl)) (from j (inl refl)) in
    ap₂ ◌∷◌ e
    (rising_unique is js a.1 b.1 (same_tail i j is js a.0 b.0 e to) (same_tail j i js is b.0 a.0 (sym e) from))
