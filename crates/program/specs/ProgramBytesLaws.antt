-- Which bytes the output is.
use Rattle.std.specs.Prelude.{◌≡◌, refl, List, [], ◌∷◌, ◌++◌, ℕ, ◌≤◌, ◌<◌, length, Err, None, Ok, Option, Some}
use Rattle.std.proofs.Math.Path.{ap}
use Rattle.std.proofs.Common.{◌∙◌, le-leb}
use Rattle.std.proofs.lemmas.Bool.{lt-leb}
use Rattle.table.specs.declared.Refusal.{Refusal}
use Rattle.table.specs.Refusal.{Details, details}
use Rattle.memory.specs.Held.{held_in}
use Rattle.build.specs.Build.{under_edition, answer, InMemory}
use Rattle.table.specs.declared.numbers.AnswerNumbers.{AnswerNumbers}
use Rattle.table.specs.Numbers.{detail_numbers, refusal_numbers}
use Rattle.buffer.specs.Front.{bytes_of}
use Rattle.image.specs.Image.{image}
use Rattle.program.specs.Output.{longest_input, subleaf_code, refusal_bytes, output}
use Rattle.program.specs.ProgramBytes.{code_of, number_bytes}
use Rattle.table.specs.Verdict.{Verdict}

-- ---- the output

pub output_too_long : (s : List ℕ) → longest_input < length s → (4 ∷ []) ≡ output s
unfolding output
output_too_long s h = rw (lt-leb (length s) longest_input h)

code_of_lem : (s : Option ℕ) (number leaf t : ℕ) → code_of (detail_numbers (record { number = number; leaf = leaf; subleaf = s; s = t })) ≡ subleaf_code s
code_of_lem None number leaf t = refl
code_of_lem (Some k) number leaf t = refl

number_bytes_lem : (d : Details) → number_bytes (detail_numbers d) ≡ refusal_bytes d
number_bytes_lem d = ap (λ (k : ℕ). 3 ∷ d.number ∷ bytes_of d.leaf ++ bytes_of k ++ (d.s ∷ [])) (code_of_lem d.subleaf d.number d.leaf d.s)

module _ (s : List ℕ) (short : length s ≤ longest_input) {d : Verdict} {w o : List ℕ} (built : InMemory (answer (under_edition 1) s) d w o) where
  pub output_refused : (r : Refusal) (n : AnswerNumbers) → d ≡ Err r → n ≡ refusal_numbers r → number_bytes n ≡ output s
  unfolding output
  output_refused r n e p = ap number_bytes p ∙ number_bytes_lem (details r) ∙ rw (le-leb (length s) longest_input short, ← built.verdict, e)

  pub output_accepted : d ≡ Ok tt → image (held_in w o) ≡ output s
  unfolding output
  output_accepted e = rw (le-leb (length s) longest_input short, ← built.verdict, ← built.table, e)
