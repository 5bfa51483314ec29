-- Laws of lent memory: where it holds the masked first entries and where each stands, `finish_rows` leaves the answer of the pages.
use Rattle.std.specs.Prelude.{◌≡◌, refl, true, false, List, [], ℕ, Err, Ok}
use Rattle.std.proofs.Math.Path.{subst}
use Rattle.std.proofs.Common.{ap₂, ◌∙◌}
use Rattle.table.specs.declared.Choices.{Choices}
use Rattle.table.specs.declared.Refusal.{Refusal}
use Rattle.table.specs.declared.Refusal.TheVariants.{UnknownEdition}
use Rattle.table.specs.Edition.{known_edition}
use Rattle.memory.specs.Memory.{rows_in, Cleared}
use Rattle.collect.proofs.FirstEntryOriginLaws.{found_rows}
use Rattle.collect.specs.WalkedPages.{WalkedPages}
use Rattle.rows.specs.AnsweredLaws.{cleared, cleared_whole}
use Rattle.build.specs.declared.Built.{Built}
use Rattle.build.specs.Built.{not_built}
use Rattle.build.specs.Build.{edition_verdict, rows_for, EntriesIn, FrontIn, InMemory}
use Rattle.table.specs.Verdict.{Verdict}

-- a refusal is in memory without rows
pub refused_in_memory : {r : Refusal} {b : Built} {w o : List ℕ} → not_built r ≡ b → Cleared w o → InMemory b (Err r) w o
refused_in_memory {r} {b} {w} {o} e d =
    let n : InMemory (not_built r) (Err r) w o = record {
      verdict = refl;
      registers = (cleared [] d.0 d.1).registers;
      origins = d.1;
      table = cleared_whole d.0 d.1;
    } in
    subst (λ (k : Built). InMemory k (Err r) w o) e n

-- pages and choices into memory without rows, by whether the edition is known
module _ (c : Choices) (s w o : List ℕ) where
  pub front_unknown : known_edition c.edition ≡ false → Cleared w o → FrontIn c s (Err UnknownEdition) w o
  unfolding edition_verdict
  front_unknown k z = record { verdict = rw k; registers = λ a. cc; stands = λ a. cc; refused = λ _ _. z }

  pub front_walked : known_edition c.edition ≡ true → {v : Verdict} → WalkedPages c.secure_avic s v w o → FrontIn c s v w o
  unfolding edition_verdict
  front_walked k d = record { verdict = rw k d.verdict; registers = d.rows; stands = d.stands; refused = d.refused }

-- the masked first entries in memory are rows of the definition
pub rows_held : {u : Verdict} (c : Choices) (s w o : List ℕ) {v : Verdict} → EntriesIn u c s v w o → v ≡ Ok tt → rows_in w o ≡ rows_for c s
rows_held c s w o k z = ap₂ rows_in (k.registers z) (k.stands z) ∙ found_rows c.secure_avic s
