-- Checks 6 to 8: the verdict on the topology is three verdicts in order, 7, 6 and 8, and each decides its condition.
use Rattle.std.specs.Prelude.{◌≡◌, Bool, not, ◌&&◌, ◌||◌, ℕ, ◌+◌, ◌^◌, ◌≤◌, ◌<◌, Err, Ok}
use Rattle.std.proofs.Math.Path.{refl}
use Rattle.std.proofs.Math.Bool.{true, false}
use Rattle.std.proofs.Math.Logic.{inl, inr}
use Rattle.std.proofs.Common.{arith, eqb-true, ltb-true, ltb-false, leb-true, leb-false}
use Rattle.std.proofs.Math.Dec.{eqb, ltb, leb}
use Rattle.std.proofs.lemmas.Bool.{eqb-false}
use Rattle.bits.specs.Choice.{pick}
use Rattle.bits.specs.BitsLaws.{bit_lt}
use Rattle.topology.specs.declared.TopologyError.TheVariants.{Hyperthreading, ProcessorCount, ThreadsPerUnit}
use Rattle.topology.specs.Topology.{Inputs, topology_of, threads_in}
use Rattle.table.specs.declared.Refusal.TheVariants.{TopologyInconsistent}
use Rattle.table.specs.Refusal.{and_then}
use Rattle.table.specs.Rows.{Rows}
use Rattle.checks.specs.TopologyInputs.{inputs_of}
use Rattle.checks.specs.Checks.{refuse_unless, topology_refusal, topology_verdict}
use Rattle.refusals.specs.Conditions.{ProcessorCountFault, HyperthreadingFault, ThreadsFault, processors_said}
use Rattle.refusals.specs.Conditions.ProcessorCountFault.{legacy, too_many, not_all}
use Rattle.refusals.specs.Conditions.HyperthreadingFault.{many_cores, many_processors, unsaid}
use Rattle.refusals.specs.Settles.{Settles, never, holds}
use Rattle.table.specs.Verdict.{Verdict}

-- ---- the three verdicts, with the tests of `topology_of`

unfoldable pub processor_count_verdict : Inputs → Verdict
processor_count_verdict i =
    refuse_unless
    (pick (eqb i.s 0)
    (pick (eqb i.mt 0) true (eqb i.lps (i.nc + 1)))
    (pick (ltb i.s 8) (leb (i.nc + 1) (2 ^ i.s) && eqb i.lps (2 ^ i.s)) true))
    (TopologyInconsistent (ProcessorCount i.s))

unfoldable pub hyperthreading_verdict : Inputs → Verdict
hyperthreading_verdict i =
    refuse_unless
    (pick (eqb i.s 0)
    (pick (eqb i.mt 0) (eqb i.nc 0 && leb i.lps 1) true)
    (pick (ltb i.s 8) (eqb i.mt 1) true))
    (TopologyInconsistent (Hyperthreading i.s))

unfoldable pub threads_verdict : ℕ → ℕ → Verdict
threads_verdict v t = refuse_unless (not (ltb 1 t || leb v t)) (TopologyInconsistent ThreadsPerUnit)

threads_verdict_lem : (v t : ℕ) → topology_refusal (threads_in v t) ≡ threads_verdict v t
unfolding threads_in threads_verdict
threads_verdict_lem v t = go (ltb 1 t || leb v t)
  where
    go : (b : Bool)
        → topology_refusal (pick b (Err ThreadsPerUnit) (Ok v)) ≡ refuse_unless (not b) (TopologyInconsistent ThreadsPerUnit)
    go true = refl
    go false = refl

-- `topology_of` with its tests as variables, and x, y and z for v in the three ways it is had
module _ (s t x y z : ℕ) where
  tests_in_order : (none single few lone same all said : Bool)
      → topology_refusal
      (pick none
      (pick single
      (pick lone (threads_in x t) (Err (Hyperthreading s)))
      (pick same (threads_in y t) (Err (ProcessorCount s))))
      (pick few
      (pick all (pick said (threads_in z t) (Err (Hyperthreading s))) (Err (ProcessorCount s)))
      (threads_in z t)))
      ≡ and_then (refuse_unless (pick none (pick single true same) (pick few all true)) (TopologyInconsistent (ProcessorCount s)))
      (and_then (refuse_unless (pick none (pick single lone true) (pick few said true)) (TopologyInconsistent (Hyperthreading s)))
      (threads_verdict (pick none (pick single x y) z) t))
  tests_in_order true true few true same all said = threads_verdict_lem x t
  tests_in_order true true few false same all said = refl
  tests_in_order true false few lone true all said = threads_verdict_lem y t
  tests_in_order true false few lone false all said = refl
  tests_in_order false single true lone same true true = threads_verdict_lem z t
  tests_in_order false single true lone same true false = refl
  tests_in_order false single true lone same false said = refl
  tests_in_order false single false lone same all said = threads_verdict_lem z t

pub topology_in_order : (m : Rows)
    → topology_verdict m
    ≡ and_then (processor_count_verdict (inputs_of m))
    (and_then (hyperthreading_verdict (inputs_of m)) (threads_verdict (processors_said (inputs_of m)) (inputs_of m).t))
unfolding topology_verdict topology_of processor_count_verdict hyperthreading_verdict
topology_in_order m =
    let i : Inputs = inputs_of m in
    tests_in_order i.s i.t 1 i.lps (2 ^ i.s) (eqb i.s 0) (eqb i.mt 0) (ltb i.s 8)
    (eqb i.nc 0 && leb i.lps 1)
    (eqb i.lps (i.nc + 1))
    (leb (i.nc + 1) (2 ^ i.s) && eqb i.lps (2 ^ i.s))
    (eqb i.mt 1)

-- ---- each decides its condition

ruleset tests = (arith, eqb-true, eqb-false, ltb-true, ltb-false, leb-true, leb-false)

-- where neither way finds anything wrong, the condition does not hold
module _ (i : Inputs) where
  no_processor_count_fault : (i.s ≡ 0 → i.mt ≡ 1 → i.lps ≡ i.nc + 1)
      → (1 ≤ i.s → i.s ≤ 7 → (i.nc + 1 ≤ 2 ^ i.s) × (i.lps ≡ 2 ^ i.s))
      → ProcessorCountFault i → ⊥
  no_processor_count_fault p q (legacy a b d) = d (p a b)
  no_processor_count_fault p q (too_many a b d) = omega (arith, (q a b).0)
  no_processor_count_fault p q (not_all a b d) = d (q a b).1

  no_hyperthreading_fault : (i.s ≡ 0 → i.mt ≡ 0 → (i.nc ≡ 0) × (i.lps ≤ 1)) → (1 ≤ i.s → i.s ≤ 7 → i.mt ≡ 1)
      → HyperthreadingFault i → ⊥
  no_hyperthreading_fault p q (many_cores a b d) = d (p a b).0
  no_hyperthreading_fault p q (many_processors a b d) = omega (arith, (p a b).1)
  no_hyperthreading_fault p q (unsaid a b d) = d (q a b)

-- mt is a bit
pub mt_lt : (m : Rows) → (inputs_of m).mt < 2
unfolding inputs_of
mt_lt m = bit_lt _ _

module _ (i : Inputs) where
  -- mt other than 0 is 1
  pub processor_count_decides : i.mt < 2
      → Settles (λ q. ProcessorCountFault i × (q ≡ TopologyInconsistent (ProcessorCount i.s))) (processor_count_verdict i)
  unfolding processor_count_verdict
  processor_count_decides binary =
      go (eqb i.s 0) (eqb i.mt 0) (eqb i.lps (i.nc + 1)) (ltb i.s 8) (leb (i.nc + 1) (2 ^ i.s)) (eqb i.lps (2 ^ i.s))
      refl refl refl refl refl refl
    where
      go : (none single same few fit all : Bool)
          → eqb i.s 0 ≡ none → eqb i.mt 0 ≡ single → eqb i.lps (i.nc + 1) ≡ same
          → ltb i.s 8 ≡ few → leb (i.nc + 1) (2 ^ i.s) ≡ fit → eqb i.lps (2 ^ i.s) ≡ all
          → Settles (λ q. ProcessorCountFault i × (q ≡ TopologyInconsistent (ProcessorCount i.s)))
          (refuse_unless (pick none (pick single true same) (pick few (fit && all) true)) (TopologyInconsistent (ProcessorCount i.s)))
      go true true same few fit all a b c d e f = never (no_processor_count_fault i (omega tests) (omega tests))
      go true false true few fit all a b c d e f = never (no_processor_count_fault i (omega tests) (omega tests))
      go true false false few fit all a b c d e f = holds (legacy (omega tests) (omega tests) (omega tests))
      go false single same true true true a b c d e f = never (no_processor_count_fault i (omega tests) (omega tests))
      go false single same true true false a b c d e f = holds (not_all (omega tests) (omega tests) (omega tests))
      go false single same true false all a b c d e f = holds (too_many (omega tests) (omega tests) (omega tests))
      go false single same false fit all a b c d e f = never (no_processor_count_fault i (omega tests) (omega tests))

  pub hyperthreading_decides :
      Settles (λ q. HyperthreadingFault i × (q ≡ TopologyInconsistent (Hyperthreading i.s))) (hyperthreading_verdict i)
  unfolding hyperthreading_verdict
  hyperthreading_decides =
      go (eqb i.s 0) (eqb i.mt 0) (eqb i.nc 0) (leb i.lps 1) (ltb i.s 8) (eqb i.mt 1) refl refl refl refl refl refl
    where
      go : (none single lone one few said : Bool)
          → eqb i.s 0 ≡ none → eqb i.mt 0 ≡ single → eqb i.nc 0 ≡ lone
          → leb i.lps 1 ≡ one → ltb i.s 8 ≡ few → eqb i.mt 1 ≡ said
          → Settles (λ q. HyperthreadingFault i × (q ≡ TopologyInconsistent (Hyperthreading i.s)))
          (refuse_unless (pick none (pick single (lone && one) true) (pick few said true)) (TopologyInconsistent (Hyperthreading i.s)))
      go true true true true few said a b c d e f = never (no_hyperthreading_fault i (omega tests) (omega tests))
      go true true true false few said a b c d e f = holds (many_processors (omega tests) (omega tests) (omega tests))
      go true true false one few said a b c d e f = holds (many_cores (omega tests) (omega tests) (omega tests))
      go true false lone one few said a b c d e f = never (no_hyperthreading_fault i (omega tests) (omega tests))
      go false single lone one true true a b c d e f = never (no_hyperthreading_fault i (omega tests) (omega tests))
      go false single lone one true false a b c d e f = holds (unsaid (omega tests) (omega tests) (omega tests))
      go false single lone one false said a b c d e f = never (no_hyperthreading_fault i (omega tests) (omega tests))

  pub threads_decide :
      Settles (λ q. ThreadsFault i × (q ≡ TopologyInconsistent ThreadsPerUnit)) (threads_verdict (processors_said i) i.t)
  unfolding threads_verdict
  threads_decide = go (ltb 1 i.t) (leb (processors_said i) i.t) refl refl
    where
      go : (many all : Bool) → ltb 1 i.t ≡ many → leb (processors_said i) i.t ≡ all
          → Settles (λ q. ThreadsFault i × (q ≡ TopologyInconsistent ThreadsPerUnit))
          (refuse_unless (not (many || all)) (TopologyInconsistent ThreadsPerUnit))
      go true all a b = holds (inl (omega tests))
      go false true a b = holds (inr (omega tests))
      go false false a b = never (elim [ inl f ↦ omega tests | inr f ↦ omega tests ])
