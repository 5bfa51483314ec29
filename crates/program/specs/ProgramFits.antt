-- The program's output always fits the room that it lends: 1,024 bytes, where an image has 732 at the most.
use Rattle.std.specs.Prelude.{◌≡◌, refl, Bool, true, false, List, [], ◌∷◌, ◌++◌, ℕ, ◌≤◌, leb, length, drop, Err, Ok}
use Rattle.std.specs.Result.{result_unwrap_or}
use Rattle.std.proofs.Common.{ap, ◌∙◌, arith, lit≤, length-append, length-drop, le-leb}
use Rattle.bits.specs.Choice.{pick}
use Rattle.buffer.specs.Front.{AfterWrite, write_front}
use Rattle.build.specs.Build.{under_edition, answer}
use Rattle.image.specs.Image.{image}
use Rattle.counts.specs.Counts.{Counted}
use Rattle.counts.specs.CountsProof.{rows_counted}
use Rattle.counts.specs.Mask.{components_most}
use Rattle.program.specs.Output.{longest_input, output_for, output}
use Rattle.buffer.specs.Written.{Written}
use Rattle.table.specs.declared.Refusal.{Refusal}
use Rattle.table.specs.Verdict.{Verdict}

abbrev pub room : ℕ
room = 1024

pub output_fits : (s : List ℕ) → length (output s) ≤ room
unfolding output
output_fits s = go (leb (length s) longest_input) (answer (under_edition 1) s).verdict refl
  where
    go : (b : Bool) (v : Verdict) → (answer (under_edition 1) s).verdict ≡ v → length (pick b (output_for v (image (answer (under_edition 1) s).table)) (4 ∷ [])) ≤ room
    go true (Ok _) e = let c : Counted (under_edition 1) s = rows_counted (under_edition 1) s e in omega (arith, c.bytes, components_most c.mask)
    go true (Err r) e = lit≤ tt
    go false v e = lit≤ tt

-- so a write into that much room is never refused
pub output_written : (s buffer : List ℕ) → room ≤ length buffer
    → write_front (output s) buffer ≡ record { answer = Ok (length (output s)); buffer = output s ++ drop (length (output s)) buffer }
unfolding write_front
output_written s buffer h = rw (le-leb (length (output s)) (length buffer) (omega (arith, output_fits s)))

-- ---- what the write answered, in the code's terms

module _ (s buffer : List ℕ) (enough : room ≤ length buffer) {a : Written} (said : a ≡ (write_front (output s) buffer).answer) where
  bytes_said : a ≡ Ok (length (output s))
  bytes_said = said ∙ ap (λ (w : AfterWrite). w.answer) (output_written s buffer enough)

  pub put_count : {n : ℕ} → n ≡ result_unwrap_or a 0 → n ≡ length (output s)
  put_count e = e ∙ ap (λ (w : Written). result_unwrap_or w 0) bytes_said

  pub put_never : {r : Refusal} → a ≡ Err r → ⊥
  put_never e = let z : ◌≡◌ {A = ℕ} 0 1 = cc bytes_said in omega arith

pub put_bytes : (s buffer : List ℕ) {b : List ℕ} {n : ℕ} → room ≤ length buffer → b ≡ (write_front (output s) buffer).buffer → n ≡ length (output s)
    → b ≡ output s ++ drop n buffer
put_bytes s buffer enough e p = e ∙ ap (λ (w : AfterWrite). w.buffer) (output_written s buffer enough) ∙ rw p

pub put_room : (s buffer : List ℕ) {b : List ℕ} {n : ℕ} → length buffer ≡ room → b ≡ output s ++ drop n buffer → n ≡ length (output s) → length b ≡ room
put_room s buffer {b} {n} h e p =
    omega (arith, ap length e, length-append (output s) (drop n buffer), length-drop n buffer, output_fits s)
