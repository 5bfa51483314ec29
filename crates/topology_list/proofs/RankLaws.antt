-- Inputs by their inputs_rank, the five fields as digits, s first. A list that rises by inputs_rank is known by its members.
use Rattle.std.specs.Prelude.{◌≡◌, refl, List, [], ◌∷◌, ℕ, ◌+◌, ◌*◌, ◌<◌}
use Rattle.std.proofs.Common.{sym, ap, ap₂, ◌∙◌, inl, inr, eq-or-lt_of_le, arith}
use Rattle.bits.specs.Ascending.{BeforeAll, Ascending}
use Rattle.topology.specs.Topology.{Inputs}
use Rattle.topology_list.specs.Listed.{In, FieldsFit, InputsBefore}
use Rattle.topology_list.specs.Listed.InputsBefore.{by_s, by_nc, by_lps, by_mt, by_t}
use Rattle.topology_list.specs.RankLaws.{InputsRise, before_rank, inputs_rank, rank_before}

-- ---- rising by inputs_rank is to ascend

pub ascending_rises : (l : List Inputs) → ((i : Inputs) → In i l → FieldsFit i) → Ascending InputsBefore l → InputsRise l
ascending_rises [] f a = tt
ascending_rises (i ∷ is) f a = (below i is (f i (inl refl)) (λ x p. f x (inr p)) a.0, ascending_rises is (λ x p. f x (inr p)) a.1)
  where
    below : (i : Inputs) (is : List Inputs) → FieldsFit i → ((x : Inputs) → In x is → FieldsFit x) → BeforeAll InputsBefore i is → (x : Inputs) → In x is → inputs_rank i < inputs_rank x
    below i [] f g b x p = absurd p
    below i (j ∷ js) f g b x (inl e) = rw e (before_rank i j f (g j (inl refl)) b.0)
    below i (j ∷ js) f g b x (inr p) = below i js f (λ y q. g y (inr q)) b.1 x p

pub rising_ascends : (l : List Inputs) → ((i : Inputs) → In i l → FieldsFit i) → InputsRise l → Ascending InputsBefore l
rising_ascends [] f a = tt
rising_ascends (i ∷ is) f a = (all i is (f i (inl refl)) (λ x p. f x (inr p)) a.0, rising_ascends is (λ x p. f x (inr p)) a.1)
  where
    all : (i : Inputs) (is : List Inputs) → FieldsFit i → ((x : Inputs) → In x is → FieldsFit x) → ((x : Inputs) → In x is → inputs_rank i < inputs_rank x)
        → BeforeAll InputsBefore i is
    all i [] f g h = tt
    all i (j ∷ js) f g h = (rank_before i j f (g j (inl refl)) (h j (inl refl)), all i js f (λ x p. g x (inr p)) (λ x p. h x (inr p)))
