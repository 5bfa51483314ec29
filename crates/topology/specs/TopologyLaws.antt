-- Laws of the topology: one for each return of the code, the shift by leading zeros, and a power of two by a shift.
use Rattle.std.specs.Prelude.{◌≡◌, refl, Bool, true, false, ◌&&◌, ◌||◌, ◌≢◌, ℕ, zero, suc, ◌+◌, ◌-◌, ◌*◌, ◌%◌, ◌^◌, ◌≤◌, ◌<◌, eqb, ltb, leb, Err, Ok, Result}
use Rattle.std.proofs.Common.{sym, ◌∙◌, subst, inl, inr, eq-or-lt_of_le, one-mul, pow-suc, arith, lit<, pow_mono, shl_exact}
use Rattle.std.specs.Int.Count.{count_leading_zeros}
use Rattle.std.proofs.lemmas.Nat.{leading_length}
use Rattle.bits.specs.Choice.{pick}
use borrow.Author.Tests.{eq-eqb, ne_eqb, lt-ltb, le-ltb, le-leb, lt-leb}
use Rattle.topology.specs.declared.TopologyError.TheVariants.{Hyperthreading, ProcessorCount, ThreadsPerUnit}
use Rattle.topology.specs.Topology.{Inputs, inputs, threads_in, topology_of, processors, least_power, shift_of}
use Rattle.topology.specs.declared.TopologyError.{TopologyError}

-- ---- the last check

module _ (v t : ℕ) where
  pub threads_above_one : 1 < t → Err ThreadsPerUnit ≡ threads_in v t
  unfolding threads_in
  threads_above_one h = rw (lt-ltb 1 t h)

  pub threads_too_many : t ≤ 1 → v ≤ t → Err ThreadsPerUnit ≡ threads_in v t
  unfolding threads_in
  threads_too_many h l = rw (le-ltb 1 t h, le-leb v t l)

  pub threads_fit : t ≤ 1 → t < v → Ok v ≡ threads_in v t
  unfolding threads_in
  threads_fit h l = rw (le-ltb 1 t h, lt-leb v t l)

-- ---- the checks before it: s = 0, the older fields; s = 1 to 7; s = 8 to 15

module _ (s nc lps mt t : ℕ) where
  module _ (zero_size : s ≡ 0) where
    pub one_agrees : {r : Result ℕ TopologyError} → mt ≡ 0 → (eqb nc 0 && leb lps 1) ≡ true → r ≡ threads_in 1 t → r ≡ topology_of (inputs s nc lps mt t)
    unfolding topology_of
    one_agrees m a e = e ∙ rw (eq-eqb s 0 zero_size, eq-eqb mt 0 m, a)

    pub one_differs : mt ≡ 0 → (eqb nc 0 && leb lps 1) ≡ false → Err (Hyperthreading s) ≡ topology_of (inputs s nc lps mt t)
    unfolding topology_of
    one_differs m a = rw (eq-eqb s 0 zero_size, eq-eqb mt 0 m, a)

    pub legacy_agrees : {r : Result ℕ TopologyError} → mt ≢ 0 → lps ≡ nc + 1 → r ≡ threads_in lps t → r ≡ topology_of (inputs s nc lps mt t)
    unfolding topology_of
    legacy_agrees m a e = e ∙ rw (eq-eqb s 0 zero_size, ne_eqb mt 0 m, eq-eqb lps (nc + 1) a)

    pub legacy_differs : mt ≢ 0 → lps ≢ nc + 1 → Err (ProcessorCount s) ≡ topology_of (inputs s nc lps mt t)
    unfolding topology_of
    legacy_differs m a = rw (eq-eqb s 0 zero_size, ne_eqb mt 0 m, ne_eqb lps (nc + 1) a)

  module _ {v : ℕ} (power : v ≡ 2 ^ s) (size : s ≢ 0) where
    pub counts_agree : {r : Result ℕ TopologyError} → s < 8 → (leb (nc + 1) v && eqb lps v) ≡ true → mt ≡ 1 → r ≡ threads_in v t
        → r ≡ topology_of (inputs s nc lps mt t)
    unfolding topology_of
    counts_agree h a m e = e ∙ rw (ne_eqb s 0 size, lt-ltb s 8 h, ← power, a, eq-eqb mt 1 m)

    pub threads_unsaid : s < 8 → (leb (nc + 1) v && eqb lps v) ≡ true → mt ≢ 1 → Err (Hyperthreading s) ≡ topology_of (inputs s nc lps mt t)
    unfolding topology_of
    threads_unsaid h a m = rw (ne_eqb s 0 size, lt-ltb s 8 h, ← power, a, ne_eqb mt 1 m)

    pub counts_differ : s < 8 → (leb (nc + 1) v && eqb lps v) ≡ false → Err (ProcessorCount s) ≡ topology_of (inputs s nc lps mt t)
    unfolding topology_of
    counts_differ h a = rw (ne_eqb s 0 size, lt-ltb s 8 h, ← power, a)

    pub size_decides : {r : Result ℕ TopologyError} → 8 ≤ s → r ≡ threads_in v t → r ≡ topology_of (inputs s nc lps mt t)
    unfolding topology_of
    size_decides h e = e ∙ rw (ne_eqb s 0 size, le-ltb s 8 h, ← power)

-- ---- the shift

-- p is the least number whose power of two is at least v
least_at : (v p : ℕ) → v ≤ 2 ^ p → ((j : ℕ) → j < p → 2 ^ j < v) → (n k : ℕ) → k ≤ p → p ≤ k + n → least_power v k n ≡ p
unfolding least_power
least_at v p reaches below zero k l h = omega arith
least_at v p reaches below (suc n) k l h =
    elim (eq-or-lt_of_le {n = k} {m = p} l) [
      | inl q ↦ let here : v ≤ 2 ^ k = rw q reaches in rw (le-leb v (2 ^ k) here) q
      | inr q ↦ rw (lt-leb v (2 ^ k) (below k q)) (least_at v p reaches below n (suc k) q (omega arith))
    ]

pub shift_of_zero : shift_of 0 ≡ 0
unfolding shift_of least_power
shift_of_zero = refl

-- the figures of v processors: the power of two of the shift is at least v, and of no lower number
pub record LeastShift (v k : ℕ) : Type 0 where
  pub reaches : v ≤ 2 ^ k
  pub least : (j : ℕ) → j < k → 2 ^ j < v

-- "leading zeros of the count less one"
by_zeros : (v : ℕ) → 0 < v → v ≤ 2 ^ 32 → (m : ℕ) × (count_leading_zeros 32 (v - 1) + m ≡ 32) × LeastShift v m
by_zeros v p h =
    let t = leading_length 32 (v - 1) (omega arith) in
    let m : ℕ = t.0 in
    (m, t.1, record { reaches = omega (arith, t.2); least = λ j l. below m j l t.3 })
  where
    below : (m j : ℕ) → j < m → 2 ^ m ≤ 2 * (v - 1) + 1 → 2 ^ j < v
    below m j l u =
        let up : 2 ^ suc j ≤ 2 ^ m = pow_mono l in
        let double : 2 ^ suc j ≡ 2 ^ j * 2 = pow-suc 2 j in
        omega arith

pub shift_least : (v : ℕ) → 0 < v → v ≤ 2 ^ 32 → LeastShift v (shift_of v)
unfolding shift_of
shift_least v p h =
    let t = by_zeros v p h in
    subst (LeastShift v) (sym (least_at v t.0 t.2.reaches t.2.least 32 0 (omega arith) (omega (arith, t.1)))) t.2

pub shift_by_zeros : (v : ℕ) → 0 < v → v < 2 ^ 32 → (count_leading_zeros 32 (v - 1) ≤ 32) × (32 - count_leading_zeros 32 (v - 1) ≡ shift_of v)
unfolding shift_of
shift_by_zeros v p h =
    let t = by_zeros v p (omega arith) in
    let e : 32 - count_leading_zeros 32 (v - 1) ≡ t.0 = omega (arith, t.1) in
    (omega (arith, t.1), e ∙ sym (least_at v t.0 t.2.reaches t.2.least 32 0 (omega arith) (omega (arith, t.1))))

pub one_shifted : (s : ℕ) → s < 32 → 1 * 2 ^ s % 2 ^ 32 ≡ 2 ^ s
one_shifted s h = shl_exact 1 s 32 (lit< tt) (omega arith) ∙ one-mul (2 ^ s)

-- ---- how large the figures of leaf Bh are

threads_processors : (v t : ℕ) → v < 2 ^ 32 → processors (threads_in v t) < 2 ^ 32
unfolding threads_in
threads_processors v t h = go (ltb 1 t || leb v t)
  where
    go : (b : Bool) → processors (pick b (Err ThreadsPerUnit) (Ok v)) < 2 ^ 32
    go true = lit< tt
    go false = h

-- 1, lps or 2^s
pub processors_fit : (i : Inputs) → i.lps < 256 → i.s < 16 → processors (topology_of i) < 2 ^ 32
unfolding topology_of
processors_fit i l s =
    go (eqb i.s 0) (eqb i.mt 0) (eqb i.nc 0 && leb i.lps 1) (eqb i.lps (i.nc + 1)) (ltb i.s 8)
    (leb (i.nc + 1) (2 ^ i.s) && eqb i.lps (2 ^ i.s)) (eqb i.mt 1)
  where
    power : 2 ^ i.s < 2 ^ 32
    power = let h : i.s ≤ 15 = omega arith in let p : 2 ^ i.s ≤ 2 ^ 15 = pow_mono h in omega arith

    go : (a b c d e f g : Bool)
        → processors
        (pick a (pick b (pick c (threads_in 1 i.t) (Err (Hyperthreading i.s))) (pick d (threads_in i.lps i.t) (Err (ProcessorCount i.s))))
        (pick e (pick f (pick g (threads_in (2 ^ i.s) i.t) (Err (Hyperthreading i.s))) (Err (ProcessorCount i.s))) (threads_in (2 ^ i.s) i.t)))
        < 2 ^ 32
    go true true true d e f g = threads_processors 1 i.t (lit< tt)
    go true true false d e f g = lit< tt
    go true false c true e f g = threads_processors i.lps i.t (omega arith)
    go true false c false e f g = lit< tt
    go false b c d true true true = threads_processors (2 ^ i.s) i.t power
    go false b c d true true false = lit< tt
    go false b c d true false g = lit< tt
    go false b c d false f g = threads_processors (2 ^ i.s) i.t power

least_below : (v n k : ℕ) → least_power v k n ≤ k + n
unfolding least_power
least_below v zero k = omega arith
least_below v (suc n) k = go (leb v (2 ^ k)) (least_below v n (suc k))
  where
    go : (b : Bool) → least_power v (suc k) n ≤ suc k + n → pick b k (least_power v (suc k) n) ≤ k + suc n
    go true h = omega arith
    go false h = omega arith

pub shift_fits : (v : ℕ) → shift_of v < 2 ^ 32
unfolding shift_of
shift_fits v = omega (arith, least_below v 32 0)
