-- The bits of editions: more of them where more editions are asked for, and all of them bits of a 32-bit register.
use Rattle.std.specs.Prelude.{◌≡◌, Bool, true, ℕ, suc, ◌-◌}
use Rattle.std.proofs.Common.{sym, ap, ◌∙◌, arith}
use Rattle.bits.specs.Search.{every}
use Rattle.bits.specs.SearchLaws.{every_at}
use Rattle.table.specs.Edition.{editions, known_edition}
use Rattle.table.specs.EditionLaws.{known_bounds}

-- a test that each edition passes, by computation
pub each_edition : (test : ℕ → Bool) → every (λ k. test (suc k)) editions ≡ true → (n : ℕ) → known_edition n ≡ true → test n ≡ true
each_edition test e n k =
    let (low, high) = known_bounds n k in
    let q : suc (n - 1) ≡ n = omega arith in
    sym (ap test q) ∙ every_at (λ j. test (suc j)) editions e (n - 1) (omega arith)
