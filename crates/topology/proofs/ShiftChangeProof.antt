-- The least shift differs from the place of the highest one bit exactly as ShiftChange.antt says.
use Rattle.std.specs.Prelude.{◌≡◌, refl, Bool, true, false, ◌≢◌, ℕ, ◌^◌, ◌≤◌, ◌<◌, eqb, Ok}
use Rattle.std.proofs.Common.{ap, arith, pow_pos, eqb-true}
use Rattle.std.proofs.lemmas.Bool.{eqb-false}
use Rattle.topology.specs.Topology.{Inputs, topology_of, processors}
use Rattle.topology.specs.TopologyLaws.{processors_fit}
use Rattle.topology.specs.ShiftChange.{HighestBit, ShiftChange, Legacy}
use Rattle.topology.specs.ShiftChange.ShiftChange.{same, more}
use Rattle.topology.specs.ShiftChangeProof.{no_power, shift_of_other, shift_of_power}

-- ---- the statement

pub shift_changes : (i : Inputs) (v p : ℕ) → i.lps < 256 → i.s < 16 → topology_of i ≡ Ok v → HighestBit v p → ShiftChange i v p
shift_changes i v p l s e b = go (eqb v (2 ^ p)) refl
  where
    some : 0 < v
    some = omega (arith, b.low, pow_pos p)

    fits : v ≤ 2 ^ 32
    fits = omega (arith, processors_fit i l s, ap processors e)

    go : (x : Bool) → eqb v (2 ^ p) ≡ x → ShiftChange i v p
    go true f = same (eqb-true _ _ f) (shift_of_power v p some fits (eqb-true _ _ f))
    go false f =
        let n : v ≢ 2 ^ p = eqb-false _ _ f in
        let q : Legacy i v = no_power i v p e b n in
        more q.size q.threads q.count n (shift_of_other v p some fits b n)
