-- A lookup in a pool's table, as the exported function gives it.
use Rattle.std.specs.Prelude.{◌≡◌, Bool, List, ℕ, Option}
use Rattle.std.proofs.Common.{sym, ap, ◌∙◌}
use Rattle.table.specs.declared.CpuidResults.{CpuidResults}
use Rattle.memory.specs.Held.{held_in, mask_held, mask_held_lem}
use Rattle.pool.specs.declared.Pooled.{Pooled}
use Rattle.pool.specs.declared.PoolVerdict.{PoolVerdict}
use Rattle.pool.specs.PoolIn.{PoolIn}
use Rattle.answers.specs.PoolAnswers.{pooled_given, pooled_numbers}
use Rattle.answers.specs.declared.SnpCpuidFound.{SnpCpuidFound}
use Rattle.answers.specs.Answers.{found_at}

-- the row of the pool's table, with its origin
abbrev pub pooled_found : Pooled → ℕ → Option ℕ → Bool → SnpCpuidFound
pooled_found p leaf subleaf enforce = found_at p.table p.origins leaf subleaf enforce

-- the memory w, o holds the pool's table, and where its rows came from
abbrev pub PooledIn : Pooled → List ℕ → List ℕ → Type 0
PooledIn p w o = PoolIn p (record { verdict = p.verdict; server = p.server }) w o

-- the numbers of a pool whose table stands in memory
pub pooled_in : {p : Pooled} {v : PoolVerdict} {w o : List ℕ} {rows mask : ℕ} → PoolIn p v w o → ((x : List ℕ) → rows ≡ (held_in x o).row_count)
    → mask ≡ mask_held w → pooled_given v.verdict v.server rows mask ≡ pooled_numbers p
pooled_in {p} {v} {w} {o} k e f =
    let n = e w ∙ ap (λ (t : CpuidResults). t.row_count) k.table in
    let m = f ∙ sym (mask_held_lem w o) ∙ ap (λ (t : CpuidResults). t.max_extended_state) k.table in
    λ i. pooled_given (k.verdict i) (k.server i) (n i) (m i)
