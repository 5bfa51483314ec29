-- The list has what P14 asks, no other list has it, and its counts.
use Rattle.std.specs.Prelude.{◌≡◌, Bool, eqb, ltb, length}
use Rattle.std.proofs.Math.Path.{refl, ap}
use Rattle.std.proofs.Common.{◌∙◌, inl, inr, eq-or-lt_of_le, arith}
use Rattle.std.proofs.Math.Bool.{true, false}
use mathlib.Core.List.{List, [], ◌∷◌, ◌++◌}
use Prim.Native.Nat.{ℕ, zero, suc, ◌+◌, ◌*◌, ◌^◌, ◌≤◌, ◌<◌}
use Rattle.bits.specs.Choice.{pick}
use Rattle.bits.specs.Lists.{keep_if, sum_to}
use Rattle.bits.specs.ListsLaws.{sum_ext}
use Rattle.topology.specs.Topology.{Inputs, inputs}
use Rattle.topologies.specs.Gather.{gather}
use Rattle.topologies.specs.GatherLaws.{gather_length}
use Rattle.topologies.specs.Topologies.{accepts, if_accepted, accepted_at, accepted_of, accepted_inputs}
use Rattle.topologies.specs.CountLaws.{many, count_of_lem, count_all}
use Rattle.topology_list.specs.Listed.{In, FieldsFit, ListsAccepted, Determined, Counted}
use Rattle.topology_list.specs.RankLaws.{inputs_rank, InputsRise, rising_unique}

-- ---- members of lists put end to end

in_left : (x : Inputs) (xs ys : List Inputs) → In x xs → In x (xs ++ ys)
in_left x [] ys p = absurd p
in_left x (y ∷ xs) ys (inl e) = inl e
in_left x (y ∷ xs) ys (inr p) = inr (in_left x xs ys p)

in_right : (x : Inputs) (xs ys : List Inputs) → In x ys → In x (xs ++ ys)
in_right x [] ys p = p
in_right x (y ∷ xs) ys p = inr (in_right x xs ys p)

in_gather : (x : Inputs) (n : ℕ) (f : ℕ → List Inputs) (k : ℕ) → k < n → In x (f k) → In x (gather n f)
unfolding gather
in_gather x zero f k l i = absurd (omega arith)
in_gather x (suc n) f k l i = elim (eq-or-lt_of_le l) [
  | inl q ↦ let e : k ≡ n = omega arith in in_right x (gather n f) (f n) (rw e at i)
  | inr q ↦ in_left x (gather n f) (f n) (in_gather x n f k (omega arith) i)
]

-- ---- accepted inputs of ranks from a on and below b, rising

pub data Ranked (b : ℕ) : ℕ → List Inputs → Type 0 where
  none : {a : ℕ} → a ≤ b → Ranked b a []
  next : {a : ℕ} {i : Inputs} {is : List Inputs} → FieldsFit i → accepts i ≡ true → a ≤ inputs_rank i → Ranked b (suc (inputs_rank i)) is → Ranked b a (i ∷ is)

pub ranked_from : {a b c : ℕ} {is : List Inputs} → c ≤ a → Ranked b a is → Ranked b c is
ranked_from {c = c} l (none h) = none {a = c} (omega arith)
ranked_from {c = c} l (next f e h r) = next {a = c} f e (omega arith) r

pub ranked_as : {a b c d : ℕ} {is : List Inputs} → a ≡ c → b ≡ d → Ranked b a is → Ranked d c is
ranked_as e f r = rw (← e, ← f) r

pub one_ranked : (i : Inputs) → FieldsFit i → Ranked (suc (inputs_rank i)) (inputs_rank i) (if_accepted i)
unfolding if_accepted
one_ranked i f = go (accepts i) refl
  where
    go : (b : Bool) → accepts i ≡ b → Ranked (suc (inputs_rank i)) (inputs_rank i) (pick b (i ∷ []) [])
    go true e = next {a = inputs_rank i} f e (omega arith) (none {a = suc (inputs_rank i)} (omega arith))
    go false e = none {a = inputs_rank i} (omega arith)

pub ranked_end : {b a : ℕ} {is : List Inputs} → Ranked b a is → a ≤ b
ranked_end (none h) = h
ranked_end (next f e h r) = omega (arith, h, ranked_end r)

pub ranked_in : {a b : ℕ} (is : List Inputs) → Ranked b a is → (i : Inputs) → In i is → FieldsFit i × (accepts i ≡ true)
ranked_in [] r i p = absurd p
ranked_in (j ∷ js) (next f e h r) i (inl q) = rw q (f, e)
ranked_in {a = a} {b = b} (j ∷ js) (next f e h r) i (inr q) = ranked_in {a = suc (inputs_rank j)} {b = b} js r i q

pub ranked_above : {a b : ℕ} (is : List Inputs) → Ranked b a is → (i : Inputs) → In i is → a ≤ inputs_rank i
ranked_above [] r i p = absurd p
ranked_above (j ∷ js) (next f e h r) i (inl q) = rw q h
ranked_above {a = a} {b = b} (j ∷ js) (next f e h r) i (inr q) = omega (arith, h, ranked_above {a = suc (inputs_rank j)} {b = b} js r i q)

-- ---- what P14 asks

pub lists_each : (i : Inputs) → FieldsFit i → accepts i ≡ true → In i accepted_inputs
unfolding accepted_inputs accepted_of accepted_at if_accepted
lists_each i f e =
    in_gather i 8 _ i.s (omega (arith, f.s))
    (in_gather i 256 _ i.nc f.nc
    (in_gather i 256 _ i.lps f.lps
    (in_gather i 2 _ i.mt f.mt
    (in_gather i 256 _ i.t f.t (rw e (inl refl))))))

-- ---- how many, by a test on s

module _ (test : Inputs → Bool) where
  keep_append : (xs ys : List Inputs) → keep_if test (xs ++ ys) ≡ keep_if test xs ++ keep_if test ys
  unfolding keep_if
  keep_append [] ys = refl
  keep_append (x ∷ xs) ys = go (test x) (keep_append xs ys)
    where
      go : (b : Bool) → keep_if test (xs ++ ys) ≡ keep_if test xs ++ keep_if test ys
          → pick b (x ∷ keep_if test (xs ++ ys)) (keep_if test (xs ++ ys)) ≡ pick b (x ∷ keep_if test xs) (keep_if test xs) ++ keep_if test ys
      go true e = ap (λ (l : List Inputs). x ∷ l) e
      go false e = e

  pub keep_gather : (n : ℕ) (f : ℕ → List Inputs) → keep_if test (gather n f) ≡ gather n (λ k. keep_if test (f k))
  unfolding gather keep_if
  keep_gather zero f = refl
  keep_gather (suc n) f = keep_append (gather n f) (f n) ∙ ap (λ (l : List Inputs). l ++ keep_if test (f n)) (keep_gather n f)

  -- all of them, or none
  pub keep_same : (b : Bool) (l : List Inputs) → ((i : Inputs) → In i l → test i ≡ b) → length (keep_if test l) ≡ pick b (length l) 0
  unfolding keep_if
  keep_same true [] h = refl
  keep_same false [] h = refl
  keep_same true (i ∷ is) h = rw (h i (inl refl)) (ap suc (keep_same true is (λ x p. h x (inr p))))
  keep_same false (i ∷ is) h = rw (h i (inl refl)) (keep_same false is (λ x p. h x (inr p)))
