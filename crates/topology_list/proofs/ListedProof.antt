-- The list has what P14 asks, no other list has it, and its counts.
use Rattle.std.specs.Prelude.{◌≡◌, Bool, eqb, ltb, length}
use Rattle.std.proofs.Math.Path.{refl, ap}
use Rattle.std.proofs.Common.{◌∙◌, inl, inr, eq-or-lt_of_le, arith}
use Rattle.std.proofs.Math.Bool.{true, false}
use mathlib.Core.List.{List, [], ◌∷◌, ◌++◌}
use Prim.Native.Nat.{ℕ, zero, suc, ◌+◌, ◌*◌, ◌^◌, ◌≤◌, ◌<◌}
use Rattle.bits.specs.Choice.{pick}
use Rattle.bits.specs.Lists.{keep_if, sum_to}
use Rattle.bits.specs.ListsLaws.{sum_ext}
use Rattle.topology.specs.Topology.{Inputs, inputs}
use Rattle.topologies.specs.Gather.{gather}
use Rattle.topologies.specs.GatherLaws.{gather_length}
use Rattle.topologies.specs.Topologies.{accepts, if_accepted, accepted_at, accepted_of, accepted_inputs}
use Rattle.topologies.specs.CountLaws.{many, count_of_lem, count_all}
use Rattle.topology_list.specs.Listed.{In, FieldsFit, ListsAccepted, Determined, Counted}
use Rattle.topology_list.specs.RankLaws.{inputs_rank, InputsRise, rising_unique}
use Rattle.topology_list.proofs.RankLaws.{ascending_rises, rising_ascends}
use Rattle.topology_list.specs.ListedProof.{Ranked, keep_gather, keep_same, lists_each, next, none, one_ranked, ranked_above, ranked_as, ranked_end, ranked_from, ranked_in}

ranked_append : {b a c : ℕ} {is js : List Inputs} → Ranked b a is → Ranked c b js → Ranked c a (is ++ js)
ranked_append (none h) q = ranked_from h q
ranked_append (next f e h r) q = next f e h (ranked_append r q)

-- digit by digit: n lists, each within its own w numbers
ranked_gather : (a w n : ℕ) (f : ℕ → List Inputs) → ((k : ℕ) → k < n → Ranked (a + w * suc k) (a + w * k) (f k)) → Ranked (a + w * n) a (gather n f)
unfolding gather
ranked_gather a w zero f h = none {a = a} (omega arith)
ranked_gather a w (suc n) f h = ranked_append (ranked_gather a w n f (λ k l. h k (omega arith))) (h n (omega arith))

-- those of one s
size_ranked : (s : ℕ) → s < 8 → Ranked (2 ^ 25 * s + 2 ^ 17 * 256) (2 ^ 25 * s) (accepted_of s)
unfolding accepted_of accepted_at inputs_rank
size_ranked s a =
    ranked_gather (2 ^ 25 * s) (2 ^ 17) 256 _ (λ nc b.
    ranked_as (omega arith) (omega arith) (ranked_gather (2 ^ 25 * s + 2 ^ 17 * nc) (2 ^ 9) 256 _ (λ lps c.
    ranked_as (omega arith) (omega arith) (ranked_gather (2 ^ 25 * s + 2 ^ 17 * nc + 2 ^ 9 * lps) (2 ^ 8) 2 _ (λ mt d.
    ranked_as (omega arith) (omega arith) (ranked_gather (2 ^ 25 * s + 2 ^ 17 * nc + 2 ^ 9 * lps + 2 ^ 8 * mt) 1 256 _ (λ t e.
    ranked_as (omega arith) (omega arith) (one_ranked (inputs s nc lps mt t) (record { s = omega arith; nc = b; lps = c; mt = d; t = e })))))))))

all_ranked : Ranked (2 ^ 28) 0 accepted_inputs
unfolding accepted_inputs
all_ranked = ranked_gather 0 (2 ^ 25) 8 _ (λ s a. ranked_as (omega arith) (omega arith) (size_ranked s a))

ranked_below : {a b : ℕ} (is : List Inputs) → Ranked b a is → (i : Inputs) → In i is → inputs_rank i < b
ranked_below [] r i p = absurd p
ranked_below (j ∷ js) (next f e h r) i (inl q) = rw q (ranked_end r)
ranked_below {a = a} {b = b} (j ∷ js) (next f e h r) i (inr q) = ranked_below {a = suc (inputs_rank j)} {b = b} js r i q

ranked_rises : {a b : ℕ} (is : List Inputs) → Ranked b a is → InputsRise is
ranked_rises [] r = tt
ranked_rises {a = a} {b = b} (j ∷ js) (next f e h r) = (λ x p. ranked_above {a = suc (inputs_rank j)} {b = b} js r x p, ranked_rises {a = suc (inputs_rank j)} {b = b} js r)

lists_accepted : ListsAccepted accepted_inputs
lists_accepted = record {
  each = lists_each;
  no_other = ranked_in accepted_inputs all_ranked;
  ascends = rising_ascends accepted_inputs (λ i p. (ranked_in accepted_inputs all_ranked i p).0) (ranked_rises accepted_inputs all_ranked);
}

pub determined : Determined
determined = record {
  has = lists_accepted;
  only = λ l h.
      rising_unique l accepted_inputs (ascending_rises l (λ i p. (h.no_other i p).0) h.ascends) (ranked_rises accepted_inputs all_ranked)
      (λ i p. lists_each i (h.no_other i p).0 (h.no_other i p).1)
      (λ i p. let o = ranked_in accepted_inputs all_ranked i p in h.each i o.0 o.1);
}

-- s of an input of one s
size_of : (k : ℕ) → k < 8 → (i : Inputs) → In i (accepted_of k) → i.s ≡ k
unfolding inputs_rank
size_of k l i p =
    let low = ranked_above (accepted_of k) (size_ranked k l) i p in
    let high = ranked_below (accepted_of k) (size_ranked k l) i p in
    let f = (ranked_in (accepted_of k) (size_ranked k l) i p).0 in
    omega (arith, low, high, f.nc, f.lps, f.mt, f.t)

count_by : (test : ℕ → Bool) → length (keep_if (λ i. test i.s) accepted_inputs) ≡ sum_to (λ s. pick (test s) (sum_to (many s) 256) 0) 8
unfolding accepted_inputs
count_by test =
    ap length (keep_gather (λ i. test i.s) 8 accepted_of)
    ∙ gather_length 8 (λ k. keep_if (λ i. test i.s) (accepted_of k))
    ∙ sum_ext _ _ 8
    (λ k l.
    keep_same (λ i. test i.s) (test k) (accepted_of k) (λ i p. ap test (size_of k l i p)) ∙ ap (λ (n : ℕ). pick (test k) n 0) (count_of_lem k l))

pub counted : Counted accepted_inputs
unfolding sum_to
counted = record {
  all = count_all;
  zero = count_by (λ s. eqb s 0);
  above = count_by (λ s. ltb 0 s);
}
