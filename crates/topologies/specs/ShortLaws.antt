-- The accepted inputs of one s and one nc, written out: at most three, one case for each return of the function.
use Rattle.std.specs.Prelude.{◌≡◌, Bool, ℕ, ◌+◌, ◌^◌, ◌≤◌, ◌<◌, ltb}
use Rattle.std.proofs.Math.Path.{refl}
use Rattle.std.proofs.Common.{ap₂, ◌∙◌, arith, pow_mono, ltb-true, ltb-false, lt-ltb, le-ltb}
use Rattle.std.proofs.Math.Bool.{true, false}
use mathlib.Core.List.{List, [], ◌∷◌, ◌++◌}
use Rattle.bits.specs.Choice.{pick}
use Rattle.bits.specs.ChoiceLaws.{pick_true}
use Rattle.topology.specs.Topology.{Inputs, inputs}
use Rattle.topologies.specs.Gather.{gather}
use Rattle.topologies.specs.GatherLaws.{gather_none, gather_short, gather_only}
use Rattle.topologies.specs.Topologies.{accepts, if_accepted, accepted_at}
use Rattle.topologies.specs.AcceptedLaws.{LawfulInputs, accepted_lawful, lawful_accepted}
use Rattle.topologies.specs.AcceptedLaws.LawfulInputs.{alone, legacy, sized}

-- one input
unfoldable pub single : ℕ → ℕ → ℕ → ℕ → ℕ → List Inputs
single s nc lps mt t = inputs s nc lps mt t ∷ []

-- v processors said by lps, with mt = 1: t = 0, and t = 1 where it is below v
unfoldable pub counted : ℕ → ℕ → ℕ → List Inputs
counted s nc v = single s nc v 1 0 ++ pick (ltb 1 v) (single s nc v 1 1) []

pub counted_two : (s nc v : ℕ) → 1 < v → counted s nc v ≡ single s nc v 1 0 ++ single s nc v 1 1
unfolding counted
counted_two s nc v h = rw (lt-ltb 1 v h)

pub counted_one : (s nc v : ℕ) → v ≤ 1 → counted s nc v ≡ single s nc v 1 0
unfolding counted single
counted_one s nc v h = rw (le-ltb 1 v h)

-- ---- by what is lawful

module _ (s nc lps mt t : ℕ) (h : s < 8) where
  taken : LawfulInputs s nc lps mt t → if_accepted (inputs s nc lps mt t) ≡ single s nc lps mt t
  unfolding if_accepted single
  taken l = pick_true _ _ (lawful_accepted s nc lps mt t h l)

  left_out : (LawfulInputs s nc lps mt t → ⊥) → if_accepted (inputs s nc lps mt t) ≡ []
  unfolding if_accepted
  left_out n = go (accepts (inputs s nc lps mt t)) refl
    where
      go : (b : Bool) → accepts (inputs s nc lps mt t) ≡ b → pick b (inputs s nc lps mt t ∷ []) [] ≡ []
      go true e = absurd (n (accepted_lawful s nc lps mt t h e))
      go false e = refl

abbrev over_threads : ℕ → ℕ → ℕ → ℕ → List Inputs
over_threads s nc lps mt = gather 256 (λ t. if_accepted (inputs s nc lps mt t))

-- where with lps = v and mt = 1 exactly the t below 2 and v are lawful
threads_law : (s nc v : ℕ) → s < 8 → 0 < v
    → ((t : ℕ) → LawfulInputs s nc v 1 t → (t < 2) × (t < v)) → ((t : ℕ) → t < 2 → t < v → LawfulInputs s nc v 1 t)
    → over_threads s nc v 1 ≡ counted s nc v
unfolding gather counted
threads_law s nc v h l only each =
    gather_short 2 256 _ (omega arith) (λ t u w. left_out s nc v 1 t h (λ p. omega (arith, (only t p).0)))
    ∙ ap₂ ◌++◌ (taken s nc v 1 0 h (each 0 (omega arith) l)) (second (ltb 1 v) refl)
  where
    second : (b : Bool) → ltb 1 v ≡ b → if_accepted (inputs s nc v 1 1) ≡ pick b (single s nc v 1 1) []
    second true e = taken s nc v 1 1 h (each 1 (omega arith) (ltb-true 1 v e))
    second false e = left_out s nc v 1 1 h (λ p. omega (arith, (only 1 p).1, ltb-false 1 v e))

-- and nothing else is
counted_law : (s nc v : ℕ) → s < 8 → 0 < v → v < 256
    → ((lps mt t : ℕ) → mt < 2 → LawfulInputs s nc lps mt t → (lps ≡ v) × (mt ≡ 1) × (t < 2) × (t < v))
    → ((t : ℕ) → t < 2 → t < v → LawfulInputs s nc v 1 t)
    → accepted_at s nc ≡ counted s nc v
unfolding accepted_at gather
counted_law s nc v h l u only each =
    gather_only v 256 _ u
    (λ lps n. gather_none 2 _ (λ mt a. gather_none 256 _ (λ t b. left_out s nc lps mt t h (λ p. n (only lps mt t a p).0))))
    ∙ ap₂ ◌++◌
    (gather_none 256 _ (λ t b. left_out s nc v 0 t h (λ p. omega (arith, (only v 0 t (omega arith) p).1))))
    (threads_law s nc v h l (λ t p. ((only v 1 t (omega arith) p).2, (only v 1 t (omega arith) p).3)) each)

none_law : (s nc : ℕ) → s < 8 → ((lps mt t : ℕ) → lps < 256 → LawfulInputs s nc lps mt t → ⊥) → accepted_at s nc ≡ []
unfolding accepted_at
none_law s nc h n =
    gather_none 256 _ (λ lps u. gather_none 2 _ (λ mt v. gather_none 256 _ (λ t w. left_out s nc lps mt t h (n lps mt t u))))

-- ---- s = 0 and nc = 0: lps 0 or 1 and mt = 0, or lps 1 and mt = 1; there is no second thread

alone_only : (lps mt t : ℕ) → LawfulInputs 0 0 lps mt t → (lps < 2) × (t ≡ 0) × (lps ≡ 0 → mt ≡ 0)
alone_only lps mt t (alone a b c d e) = (omega arith, e, λ _. b)
alone_only lps mt t (legacy a b c d e) = (omega arith, omega arith, λ z. absurd (omega arith))
alone_only lps mt t (sized a b c d e) = absurd (omega arith)

pub at_zero : accepted_at 0 0 ≡ (single 0 0 0 0 0 ++ single 0 0 1 0 0) ++ counted 0 0 1
unfolding accepted_at gather single
at_zero =
    gather_short 2 256 _ (omega arith)
    (λ lps u v.
    gather_none 2 _ (λ mt w. gather_none 256 _ (λ t x. left_out 0 0 lps mt t (omega arith) (λ p. omega (arith, (alone_only lps mt t p).0)))))
    ∙ ap₂ ◌++◌
    (ap₂ ◌++◌ (one 0 0 ∙ taken 0 0 0 0 0 (omega arith) (alone refl refl refl (omega arith) refl))
    (one 0 1 ∙ left_out 0 0 0 1 0 (omega arith) (λ p. omega (arith, (alone_only 0 1 0 p).2 refl))))
    (ap₂ ◌++◌ (one 1 0 ∙ taken 0 0 1 0 0 (omega arith) (alone refl refl refl (omega arith) refl))
    (threads_law 0 0 1 (omega arith) (omega arith) (λ t p. (omega (arith, (alone_only 1 1 t p).1), omega (arith, (alone_only 1 1 t p).1)))
    (λ t a b. legacy refl (λ z. omega arith) refl a b)))
  where
    one : (lps mt : ℕ) → over_threads 0 0 lps mt ≡ if_accepted (inputs 0 0 lps mt 0)
    one lps mt = gather_only 0 256 _ (omega arith) (λ t n. left_out 0 0 lps mt t (omega arith) (λ p. n (alone_only lps mt t p).1))

pub zero_as : (nc : ℕ) → nc ≡ 0 → accepted_at 0 nc ≡ (single 0 0 0 0 0 ++ single 0 0 1 0 0) ++ counted 0 0 1
zero_as nc e = rw e at_zero

-- ---- s = 0 and a further nc: lps is nc + 1, which for nc = 255 is none of eight bits

legacy_only : (nc lps mt t : ℕ) → 0 < nc → mt < 2 → LawfulInputs 0 nc lps mt t → (lps ≡ nc + 1) × (mt ≡ 1) × (t < 2) × (t < nc + 1)
legacy_only nc lps mt t h u (alone a b c d e) = absurd (omega arith)
legacy_only nc lps mt t h u (legacy a b c d e) = (c, omega (arith, b), d, omega arith)
legacy_only nc lps mt t h u (sized a b c d e) = absurd (omega arith)

pub at_legacy : (nc : ℕ) → (nc ≡ 0 → ⊥) → nc < 255 → accepted_at 0 nc ≡ counted 0 nc (nc + 1)
at_legacy nc n h =
    counted_law 0 nc (nc + 1) (omega arith) (omega arith) (omega arith) (λ lps mt t u p. legacy_only nc lps mt t (omega (arith, n)) u p)
    (λ t a b. legacy refl (λ z. omega arith) refl a b)

pub at_last : (nc : ℕ) → 255 ≤ nc → accepted_at 0 nc ≡ []
at_last nc h = none_law 0 nc (omega arith) none
  where
    none : (lps mt t : ℕ) → lps < 256 → LawfulInputs 0 nc lps mt t → ⊥
    none lps mt t l (alone a b c d e) = omega arith
    none lps mt t l (legacy a b c d e) = omega arith
    none lps mt t l (sized a b c d e) = omega arith

-- ---- s from 1 on: lps is v, which is 2^s

sized_only : (s nc lps mt t : ℕ) → 0 < s → LawfulInputs s nc lps mt t → (lps ≡ 2 ^ s) × (mt ≡ 1) × (t < 2) × (nc < 2 ^ s)
sized_only s nc lps mt t h (alone a b c d e) = absurd (omega arith)
sized_only s nc lps mt t h (legacy a b c d e) = absurd (omega arith)
sized_only s nc lps mt t h (sized a b c d e) = (c, d, e, b)

module _ (s nc v : ℕ) (power : v ≡ 2 ^ s) (n : s ≡ 0 → ⊥) (h : s < 8) where
  pub at_sized : nc < v → accepted_at s nc ≡ counted s nc v
  at_sized l =
      let two : 2 ≤ v = omega (arith, power, pow_mono {i = 1} {j = s} (omega (arith, n))) in
      counted_law s nc v h (omega arith) (omega (arith, power, pow_mono {i = s} {j = 7} (omega arith)))
      (λ lps mt t u p. let o = sized_only s nc lps mt t (omega (arith, n)) p in (omega (arith, power, o.0), o.1, o.2, omega (arith, two, o.2)))
      (λ t a b. sized (omega (arith, n)) (omega (arith, power)) power refl a)

  pub at_beyond : v ≤ nc → accepted_at s nc ≡ []
  at_beyond l = none_law s nc h (λ lps mt t u p. omega (arith, power, (sized_only s nc lps mt t (omega (arith, n)) p).3))
