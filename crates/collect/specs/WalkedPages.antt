-- What one walk over any bytes gives: whether they are lawful pages; where they are, the masked first entries and where each stands; else no rows.
use Rattle.std.specs.Prelude.{◌≡◌, Bool, List, ℕ, Err, Ok}
use Rattle.table.specs.declared.Refusal.{Refusal}
use Rattle.collect.specs.FirstEntries.{rows_of}
use Rattle.collect.specs.FirstEntryOrigin.{found_origins}
use Rattle.memory.specs.Memory.{layout, Cleared}
use Rattle.collect.specs.Lawful.{lawful_verdict}
use Rattle.table.specs.Verdict.{Verdict}

pub record WalkedPages (avic : Bool) (s : List ℕ) (r : Verdict) (w o : List ℕ) : Type 0 where
  pub verdict : r ≡ lawful_verdict s
  pub rows : r ≡ Ok tt → w ≡ layout (λ i. (rows_of avic s i).result)
  pub stands : r ≡ Ok tt → o ≡ found_origins s
  pub refused : (x : Refusal) → r ≡ Err x → Cleared w o

pub refused_walk : (avic : Bool) (s : List ℕ) {w o : List ℕ} {x : Refusal} → Err x ≡ lawful_verdict s → Cleared w o → WalkedPages avic s (Err x) w o
refused_walk avic s e z = record { verdict = e; rows = λ a. cc; stands = λ a. cc; refused = λ _ _. z }
