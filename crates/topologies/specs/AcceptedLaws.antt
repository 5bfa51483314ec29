-- Which inputs up to s = 7 are accepted, from the topology's own definition: three kinds.
use Rattle.std.specs.Prelude.{◌≡◌, Bool, ◌&&◌, ◌||◌, ℕ, ◌+◌, ◌^◌, ◌≤◌, ◌<◌, ltb, Err, Ok, Result}
use Rattle.std.proofs.Math.Path.{refl}
use Rattle.std.proofs.Common.{sym, ◌∙◌, arith}
use Rattle.std.proofs.Math.Bool.{true, false}
use Rattle.std.proofs.lemmas.Bool.{false≢true}
use Rattle.std.proofs.Math.Dec.{eqb, leb}
use Rattle.std.proofs.Math.Pow.{pow_mono}
use borrow.Author.Tests.{eqb-true, eqb-false, ltb-false, leb-true, leb-false, eq-eqb, ne_eqb, lt-ltb, le-leb, lt-leb, le-ltb}
use Rattle.bits.specs.Choice.{pick}
use Rattle.bits.specs.ChoiceLaws.{and_left, and_right}
use Rattle.topology.specs.declared.TopologyError.TheVariants.{Hyperthreading, ProcessorCount, ThreadsPerUnit}
use Rattle.topology.specs.Topology.{inputs, threads_in, topology_of}
use Rattle.topologies.specs.Topologies.{consistent, accepts}
use Rattle.topology.specs.declared.TopologyError.{TopologyError}

-- one processor, said by mt = 0; v said by lps; v = 2^s
pub data LawfulInputs (s nc lps mt t : ℕ) : Type 0 where
  alone : s ≡ 0 → mt ≡ 0 → nc ≡ 0 → lps ≤ 1 → t ≡ 0 → LawfulInputs s nc lps mt t
  legacy : s ≡ 0 → (mt ≡ 0 → ⊥) → lps ≡ nc + 1 → t < 2 → t < lps → LawfulInputs s nc lps mt t
  sized : 0 < s → nc < 2 ^ s → lps ≡ 2 ^ s → mt ≡ 1 → t < 2 → LawfulInputs s nc lps mt t

threads_fit : (v t : ℕ) → consistent (threads_in v t) ≡ true → (t < 2) × (t < v)
unfolding threads_in
threads_fit v t e = go (ltb 1 t) (leb v t) refl refl e
  where
    go : (a b : Bool) → ltb 1 t ≡ a → leb v t ≡ b → consistent (pick (a || b) (Err ThreadsPerUnit) (Ok v)) ≡ true
        → (t < 2) × (t < v)
    go true b p q f = absurd (false≢true f)
    go false true p q f = absurd (false≢true f)
    go false false p q f = (omega (arith, ltb-false 1 t p), omega (arith, leb-false v t q))

threads_taken : (v t : ℕ) → t < 2 → t < v → consistent (threads_in v t) ≡ true
unfolding threads_in
threads_taken v t l h = rw (le-ltb 1 t (omega arith), lt-leb v t h)

-- an accepted choice whose other side is refused
chosen : (b : Bool) (x y : Result ℕ TopologyError) → consistent y ≡ false → consistent (pick b x y) ≡ true → (b ≡ true) × (consistent x ≡ true)
chosen true x y e f = (refl, f)
chosen false x y e f = absurd (false≢true (sym e ∙ f))

module _ (s nc lps mt t : ℕ) where
  pub accepted_lawful : s < 8 → accepts (inputs s nc lps mt t) ≡ true → LawfulInputs s nc lps mt t
  unfolding accepts topology_of
  accepted_lawful h e = go (eqb s 0) (eqb mt 0) refl refl e
    where
      go : (a b : Bool) → eqb s 0 ≡ a → eqb mt 0 ≡ b
          → consistent
          (pick a
          (pick b
          (pick (eqb nc 0 && leb lps 1) (threads_in 1 t) (Err (Hyperthreading s)))
          (pick (eqb lps (nc + 1)) (threads_in lps t) (Err (ProcessorCount s))))
          (pick (ltb s 8)
          (pick (leb (nc + 1) (2 ^ s) && eqb lps (2 ^ s))
          (pick (eqb mt 1) (threads_in (2 ^ s) t) (Err (Hyperthreading s)))
          (Err (ProcessorCount s)))
          (threads_in (2 ^ s) t))) ≡ true
          → LawfulInputs s nc lps mt t
      go true true p q f =
          let c = chosen (eqb nc 0 && leb lps 1) _ _ refl f in
          alone (eqb-true s 0 p) (eqb-true mt 0 q) (eqb-true nc 0 (and_left _ _ c.0)) (leb-true lps 1 (and_right (eqb nc 0) _ c.0))
          (omega (arith, threads_fit 1 t c.1))
      go true false p q f =
          let c = chosen (eqb lps (nc + 1)) _ _ refl f in
          let d = threads_fit lps t c.1 in
          legacy (eqb-true s 0 p) (eqb-false mt 0 q) (eqb-true lps (nc + 1) c.0) d.0 d.1
      go false b p q f =
          let n : s ≡ 0 → ⊥ = eqb-false s 0 p in
          let c = chosen (leb (nc + 1) (2 ^ s) && eqb lps (2 ^ s)) _ _ refl (rw (lt-ltb s 8 h) at f) in
          let d = chosen (eqb mt 1) _ _ refl c.1 in
          sized (omega (arith, n)) (omega (arith, leb-true (nc + 1) (2 ^ s) (and_left _ _ c.0)))
          (eqb-true lps (2 ^ s) (and_right (leb (nc + 1) (2 ^ s)) _ c.0)) (eqb-true mt 1 d.0) (threads_fit (2 ^ s) t d.1).0

  pub lawful_accepted : s < 8 → LawfulInputs s nc lps mt t → accepts (inputs s nc lps mt t) ≡ true
  unfolding accepts topology_of
  lawful_accepted h (alone p q r u v) =
      rw (eq-eqb s 0 p, eq-eqb mt 0 q, eq-eqb nc 0 r, le-leb lps 1 u) (threads_taken 1 t (omega arith) (omega arith))
  lawful_accepted h (legacy p q r u v) = rw (eq-eqb s 0 p, ne_eqb mt 0 q, eq-eqb lps (nc + 1) r) (threads_taken lps t u v)
  lawful_accepted h (sized p q r u v) =
      rw (ne_eqb s 0 (λ x. omega arith), lt-ltb s 8 h, le-leb (nc + 1) (2 ^ s) (omega arith), eq-eqb lps (2 ^ s) r, eq-eqb mt 1 u)
      (threads_taken (2 ^ s) t v (omega (arith, pow_mono {i = 1} {j = s} p)))
