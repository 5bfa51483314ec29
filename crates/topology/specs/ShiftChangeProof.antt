-- The least shift differs from the place of the highest one bit exactly as ShiftChange.antt says.
use Rattle.std.specs.Prelude.{◌≡◌, refl, Bool, true, false, ◌&&◌, ◌||◌, [], ◌∷◌, ◌≢◌, ℕ, suc, ◌+◌, ◌*◌, ◌^◌, ◌≤◌, ◌<◌, eqb, ltb, leb, Err, Ok}
use Rattle.std.proofs.Common.{ap, ◌∙◌, subst, pow-suc, arith, pow_pos, pow_mono, eqb-true, ltb-true, ltb-false}
use Rattle.std.proofs.lemmas.Bool.{eqb-false}
use Rattle.bits.specs.Choice.{pick}
use Rattle.topology.specs.declared.TopologyError.{TopologyError}
use Rattle.topology.specs.declared.TopologyError.TheVariants.{Hyperthreading, ProcessorCount, ThreadsPerUnit}
use Rattle.topology.specs.Topology.{Inputs, threads_in, topology_of, least_power, shift_of}
use Rattle.topology.specs.TopologyLaws.{LeastShift, shift_least}
use Rattle.topology.specs.ShiftChange.{HighestBit, Legacy}

-- ---- the least shift is known by what holds of it

least_one : (v j k : ℕ) → LeastShift v j → LeastShift v k → j ≡ k
least_one v j k a b = go (ltb j k) (ltb k j) refl refl
  where
    go : (x y : Bool) → ltb j k ≡ x → ltb k j ≡ y → j ≡ k
    go true y e f = absurd (omega (arith, b.least j (ltb-true j k e), a.reaches))
    go false true e f = absurd (omega (arith, a.least k (ltb-true k j f), b.reaches))
    go false false e f = omega (arith, ltb-false j k e, ltb-false k j f)

double : (p : ℕ) → 2 ^ suc p ≡ 2 ^ p * 2
double p = pow-suc 2 p

-- below a power there are only lower ones
lower : (j p : ℕ) → j < p → 2 ^ j < 2 ^ p
lower j p l = let up : 2 ^ suc j ≤ 2 ^ p = pow_mono l in omega (arith, double j, pow_pos j)

pub shift_of_power : (v p : ℕ) → 0 < v → v ≤ 2 ^ 32 → v ≡ 2 ^ p → shift_of v ≡ p
shift_of_power v p z h e =
    least_one v (shift_of v) p (shift_least v z h) (record { reaches = omega arith; least = λ j l. omega (arith, lower j p l) })

pub shift_of_other : (v p : ℕ) → 0 < v → v ≤ 2 ^ 32 → HighestBit v p → v ≢ 2 ^ p → shift_of v ≡ suc p
shift_of_other v p z h b n =
    let over : 2 ^ p < v = omega (arith, b.low, n) in
    least_one v (shift_of v) (suc p) (shift_least v z h)
    (record {
      reaches = omega (arith, b.high);
      least = λ j l. let below : j ≤ p = omega arith in let up : 2 ^ j ≤ 2 ^ p = pow_mono below in omega arith;
    })

-- ---- where a v that is no power of two comes from

threads_said : (u t v : ℕ) → threads_in u t ≡ Ok v → v ≡ u
unfolding threads_in
threads_said u t v = go (ltb 1 t || leb u t)
  where
    go : (b : Bool) → pick b (Err ThreadsPerUnit) (Ok u) ≡ Ok v → v ≡ u
    go true e = let z : ◌≡◌ {A = ℕ} 0 1 = cc in absurd (omega arith)
    go false e = cc

power_place : (s p : ℕ) → HighestBit (2 ^ s) p → 2 ^ s ≡ 2 ^ p
power_place s p b = go (ltb s p) (ltb p s) refl refl
  where
    go : (x y : Bool) → ltb s p ≡ x → ltb p s ≡ y → 2 ^ s ≡ 2 ^ p
    go true y e f = absurd (omega (arith, lower s p (ltb-true s p e), b.low))
    go false true e f =
        let over : p < s = ltb-true p s f in
        let up : 2 ^ suc p ≤ 2 ^ s = pow_mono over in
        absurd (omega (arith, b.high))
    go false false e f =
        let q : s ≡ p = omega (arith, ltb-false s p e, ltb-false p s f) in
        ap (λ (n : ℕ). 2 ^ n) q

pub no_power : (i : Inputs) (v p : ℕ) → topology_of i ≡ Ok v → HighestBit v p → v ≢ 2 ^ p → Legacy i v
unfolding topology_of
no_power i v p e b n =
    go (eqb i.s 0) (eqb i.mt 0) (eqb i.nc 0 && leb i.lps 1) (eqb i.lps (i.nc + 1)) (ltb i.s 8)
    (leb (i.nc + 1) (2 ^ i.s) && eqb i.lps (2 ^ i.s)) (eqb i.mt 1) refl refl e
  where
    never : v ≡ 2 ^ i.s → Legacy i v
    never q = absurd (n (q ∙ power_place i.s p (subst (λ (x : ℕ). HighestBit x p) q b)))

    one : v ≡ 1 → Legacy i v
    one q = absurd (n (q ∙ power_place 0 p (subst (λ (x : ℕ). HighestBit x p) q b)))

    refused : {A : Type 0} {r : TopologyError} → Err r ≡ Ok v → A
    refused q = let z : ◌≡◌ {A = ℕ} 0 1 = cc in absurd (omega arith)

    go : (a m c d f g h : Bool) → eqb i.s 0 ≡ a → eqb i.mt 0 ≡ m
        → pick a (pick m (pick c (threads_in 1 i.t) (Err (Hyperthreading i.s))) (pick d (threads_in i.lps i.t) (Err (ProcessorCount i.s))))
        (pick f (pick g (pick h (threads_in (2 ^ i.s) i.t) (Err (Hyperthreading i.s))) (Err (ProcessorCount i.s))) (threads_in (2 ^ i.s) i.t))
        ≡ Ok v
        → Legacy i v
    go true true true d f g h x y q = one (threads_said 1 i.t v q)
    go true true false d f g h x y q = refused q
    go true false c true f g h x y q = record { size = eqb-true _ 0 x; threads = eqb-false _ 0 y; count = threads_said i.lps i.t v q }
    go true false c false f g h x y q = refused q
    go false m c d true true true x y q = never (threads_said (2 ^ i.s) i.t v q)
    go false m c d true true false x y q = refused q
    go false m c d true false h x y q = refused q
    go false m c d false g h x y q = never (threads_said (2 ^ i.s) i.t v q)

pub three_and_128 : shift_of 3 ∷ shift_of 128 ∷ [] ≡ 2 ∷ 7 ∷ []
unfolding shift_of least_power
three_and_128 = refl
