-- The proof of demand 1's statements: the verdict is that of the first check that fails (StagesSettled.antt).
use Rattle.std.specs.Prelude.{◌≡◌, refl, false, List, ℕ, Err}
use Rattle.std.proofs.Common.{ap, ◌∙◌}
use Rattle.bits.specs.ChoiceLaws.{never_both, impossible}
use Rattle.table.specs.declared.Choices.{Choices}
use Rattle.table.specs.declared.Refusal.{Refusal}
use Rattle.table.specs.declared.Refusal.TheVariants.{BufferTooShort}
use Rattle.table.specs.Refusal.{details}
use Rattle.build.specs.Build.{answer}
use Rattle.buffer.specs.WritesExactlyProof.{front_exactly}
use Rattle.image.specs.Write.{write}
use Rattle.refusals.specs.Exactly.{FirstFault, BuildsExactly, WritesExactly, image_of}
use Rattle.refusals.specs.StagesSettled.{check_count, rank_lt}
use Rattle.refusals.proofs.StagesSettled.{first_fault_unique, Judged, answer_judged}
use Rattle.refusals.proofs.StagesSettled.Judged.{accepted, refused}
use Rattle.refusals.specs.ExactlyProof.{building_number, fault_number, refused_empty}

pub builds_exactly : (chosen : Choices) (s : List ℕ) → BuildsExactly chosen s
builds_exactly chosen s = go (answer_judged chosen s)
  where
    go : Judged chosen s check_count (answer chosen s).verdict → BuildsExactly chosen s
    go (accepted e none) = record {
      accepted = (λ p c r. none c r (rank_lt c), λ n. e);
      refused = λ r. (λ p. impossible (cc), λ f. absurd (none f.check r (rank_lt f.check) f.fault));
      empty = refused_empty chosen s;
    }
    go (refused q e f) = record {
      accepted = (λ p. impossible (cc), λ none. absurd (none f.check q f.fault));
      refused = λ r. (λ p. let same : q ≡ r = cc in rw same at f, λ g. e ∙ ap Err (first_fault_unique chosen s q r f g));
      empty = refused_empty chosen s;
    }

-- so it never refuses with another
pub not_built_lem : (chosen : Choices) (s : List ℕ) (r : Refusal) → building_number (details r).number ≡ false → (answer chosen s).verdict ≡ Err r → ⊥
not_built_lem chosen s r n e =
    let f : FirstFault chosen s r = ((builds_exactly chosen s).refused r).0 e in
    never_both (fault_number chosen s f.check r f.fault) n

pub not_short : (chosen : Choices) (s : List ℕ) → (answer chosen s).verdict ≡ Err BufferTooShort → ⊥
not_short chosen s = not_built_lem chosen s BufferTooShort refl

pub writes_exactly : (chosen : Choices) (s buffer : List ℕ) → WritesExactly chosen s buffer
unfolding write
writes_exactly chosen s buffer = front_exactly (answer chosen s).verdict (image_of chosen s) buffer (write chosen s buffer) refl (not_short chosen s)
