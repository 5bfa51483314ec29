-- The rows B.0 and B.1 of any accepted table are as Levels.antt says.
use Rattle.std.specs.Prelude.{◌≡◌, refl, Bool, true, false, ◌&&◌, ◌||◌, List, ℕ, ◌+◌, ◌^◌, ◌≤◌, ◌<◌, eqb, ltb, leb, Err, Ok, Result}
use Rattle.std.proofs.Common.{sym, ap, ◌∙◌, subst, arith, lit<, eqb-true, ltb-false, leb-false}
use Rattle.std.proofs.lemmas.Bool.{eqb-false}
use Rattle.bits.specs.Choice.{pick}
use Rattle.bits.specs.BitsLaws.{field_lt}
use Rattle.x86defs.specs.declared.CpuidResult.{CpuidResult}
use Rattle.x86defs.specs.Functions.{cpuid_result}
use Rattle.topology.specs.declared.TopologyError.{TopologyError}
use Rattle.topology.specs.declared.TopologyError.TheVariants.{Hyperthreading, ProcessorCount, ThreadsPerUnit}
use Rattle.topology.specs.Topology.{Inputs, threads_in, topology_of, processors, thread_level, core_level}
use Rattle.topology.specs.TopologyLaws.{LeastShift, shift_least, processors_fit}
use Rattle.masking.specs.Place
use Rattle.table.specs.declared.Choices.{Choices}
use Rattle.table.specs.declared.CpuidResults.{CpuidResults}
use Rattle.table.specs.Rows.{Row}
use Rattle.table.specs.Table.{row_in}
use Rattle.checks.specs.Checks.{topology_refusal, topology_verdict}
use Rattle.checks.specs.TopologyInputs.{inputs_of}
use Rattle.finish.specs.Finish.{settings}
use Rattle.build.specs.Build.{rows_for, answer}
use Rattle.rise.specs.RiseProof.{answer_row}
use Rattle.rise.specs.BuiltLaws.{accepted_passes, always_finished, result_at}
use Rattle.rise.specs.Levels.{CountOf, GivenBy, AcceptedLevels}
use Rattle.rise.specs.Levels.CountOf.{one, legacy, power}

-- ---- what a consistent topology says of its inputs

threads_give : (u t v : ℕ) → threads_in u t ≡ Ok v → (v ≡ u) × (t ≤ 1) × (t < u)
unfolding threads_in
threads_give u t v = go (ltb 1 t) (leb u t) refl refl
  where
    go : (a b : Bool) → ltb 1 t ≡ a → leb u t ≡ b → pick (a || b) (Err ThreadsPerUnit) (Ok u) ≡ Ok v
        → (v ≡ u) × (t ≤ 1) × (t < u)
    go true b e f q = let z : ◌≡◌ {A = ℕ} 0 1 = cc in absurd (omega arith)
    go false true e f q = let z : ◌≡◌ {A = ℕ} 0 1 = cc in absurd (omega arith)
    go false false e f q = (cc, omega (arith, ltb-false 1 t e), omega (arith, leb-false u t f))

pub topology_gives : (i : Inputs) (v : ℕ) → topology_of i ≡ Ok v → GivenBy i v
unfolding topology_of
topology_gives i v e =
    go (eqb i.s 0) (eqb i.mt 0) (eqb i.nc 0 && leb i.lps 1) (eqb i.lps (i.nc + 1)) (ltb i.s 8)
    (leb (i.nc + 1) (2 ^ i.s) && eqb i.lps (2 ^ i.s)) (eqb i.mt 1) refl refl refl e
  where
    refused : (r : TopologyError) → Err r ≡ Ok v → GivenBy i v
    refused r q = let z : ◌≡◌ {A = ℕ} 0 1 = cc in absurd (omega arith)

    given : (u : ℕ) → threads_in u i.t ≡ Ok v → (v ≡ u → CountOf i v) → GivenBy i v
    given u q c =
        let t = threads_give u i.t v q in
        let p : v ≡ u = t.0 in
        record { count = c p; threads = t.1; below = omega (arith, t.2) }

    go : (a m c d f g h : Bool) → eqb i.s 0 ≡ a → eqb i.mt 0 ≡ m → eqb i.lps (i.nc + 1) ≡ d
        → pick a
        (pick m (pick c (threads_in 1 i.t) (Err (Hyperthreading i.s)))
        (pick d (threads_in i.lps i.t) (Err (ProcessorCount i.s))))
        (pick f
        (pick g (pick h (threads_in (2 ^ i.s) i.t) (Err (Hyperthreading i.s))) (Err (ProcessorCount i.s)))
        (threads_in (2 ^ i.s) i.t))
        ≡ Ok v
        → GivenBy i v
    go true true true d f g h x y z q = given 1 q (λ p. one (eqb-true _ 0 x) (eqb-true _ 0 y) p)
    go true true false d f g h x y z q = refused (Hyperthreading i.s) q
    go true false c true f g h x y z q =
        given i.lps q (λ p. legacy (eqb-true _ 0 x) (eqb-false _ 0 y) p (p ∙ eqb-true _ _ z))
    go true false c false f g h x y z q = refused (ProcessorCount i.s) q
    go false m c d true true true x y z q = given (2 ^ i.s) q (λ p. power (eqb-false _ 0 x) p)
    go false m c d true true false x y z q = refused (Hyperthreading i.s) q
    go false m c d true false h x y z q = refused (ProcessorCount i.s) q
    go false m c d false g h x y z q = given (2 ^ i.s) q (λ p. power (eqb-false _ 0 x) p)

-- an accepted topology has its v
topology_accepted : (o : Result ℕ TopologyError) → topology_refusal o ≡ Ok tt → o ≡ Ok (processors o)
topology_accepted (Ok v) e = refl
topology_accepted (Err x) e = cc

-- ---- the statement

thread_row : (t : ℕ) → t ≤ 1 → thread_level t ≡ cpuid_result t (t + 1) 0x100 0
thread_row t h = go (eqb t 1) refl
  where
    go : (b : Bool) → eqb t 1 ≡ b → pick b (cpuid_result 1 2 0x100 0) (cpuid_result 0 1 0x100 0) ≡ cpuid_result t (t + 1) 0x100 0
    go true e = let p : t ≡ 1 = eqb-true t 1 e in rw p
    go false e = let p : t ≡ 0 = omega (arith, eqb-false t 1 e) in rw p

module _ (chosen : Choices) (s : List ℕ) (e : (answer chosen s).verdict ≡ Ok tt) where
  abbrev i : Inputs
  i = inputs_of (rows_for chosen s)

  abbrev v : ℕ
  v = processors (topology_of i)

  abbrev t : CpuidResults
  t = (answer chosen s).table

  has_processors : topology_of i ≡ Ok v
  unfolding topology_verdict
  has_processors = topology_accepted (topology_of i) (accepted_passes chosen s e).topology

  v_fits : v < 2 ^ 32
  unfolding inputs_of
  v_fits = processors_fit i (field_lt 16 8 _) (field_lt 12 4 _)

  threads_row : (row_in t Place.thread_level).result ≡ thread_level i.t
  unfolding settings
  threads_row = result_at chosen s e Place.thread_level (lit< tt) (always_finished chosen s e Place.thread_level (lit< tt) refl)

  cores_row : (row_in t Place.core_level).result ≡ core_level v
  unfolding settings
  cores_row = result_at chosen s e Place.core_level (lit< tt) (always_finished chosen s e Place.core_level (lit< tt) refl)

  given_by : GivenBy i v
  given_by = topology_gives i v has_processors

  pub accepted_levels : AcceptedLevels i t
  accepted_levels = record {
    v = v;
    processors = has_processors;
    given = given_by;
    fits = v_fits;
    threads_present =
        ap (λ (r : Row). r.present) (answer_row chosen s e Place.thread_level (lit< tt))
        ∙ always_finished chosen s e Place.thread_level (lit< tt) refl;
    threads = threads_row ∙ thread_row i.t given_by.threads;
    cores_present =
        ap (λ (r : Row). r.present) (answer_row chosen s e Place.core_level (lit< tt)) ∙ always_finished chosen s e Place.core_level (lit< tt) refl;
    shift =
        subst (LeastShift v) (sym (ap (λ (r : CpuidResult). r.eax) cores_row))
        (shift_least v (omega (arith, given_by.below)) (omega (arith, v_fits)));
    count = ap (λ (r : CpuidResult). r.ebx) cores_row;
    level = ap (λ (r : CpuidResult). r.ecx) cores_row;
    number = ap (λ (r : CpuidResult). r.edx) cores_row;
  }
