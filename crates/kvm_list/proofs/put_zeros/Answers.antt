-- `kvm_list::put_zeros` meets its contract: the stretch is filled with zeros.
use Rattle.std.proofs.Common.{◌≡◌, refl, ◌-◌, ◌≤◌, length, replicate, ℕ, ◌+◌, List, take, drop, append_assoc, arith, length-drop}
use Rattle.std.proofs.lemmas.List.{drop-drop, length-take-le, length-replicate}
use Rattle.std.proofs.lemmas.List.Edits.{sets, sets-eq}
use borrow.Rule.Slice.PartMut.{put_mid}
use Rattle.kvm_list.proofs.put_zeros.Goals as goal

-- what is stored in a stretch as long as itself
mid_sets : (a k : ℕ) (xs ys : List ℕ) → length ys ≡ k → a + k ≤ length xs → put_mid a k xs ys ≡ sets xs a ys
mid_sets a k xs ys e h = rw (sets-eq ys xs a (omega (arith, e)), drop-drop, append_assoc, e) refl

pub returns : goal.returns
returns c =
    let a = c.args in
    let n : ℕ = a.end - a.from in
    let whole : length (take n (drop a.from a.out.now)) ≡ n = length-take-le n (drop a.from a.out.now) (omega (arith, length-drop a.from a.out.now)) in
    rw (c.fill.ensures.after (λ y e. e), whole) (mid_sets a.from n a.out.now (replicate n 0) (length-replicate n 0) (omega arith))
