-- Document 02, P13: "Among single flips of result bits in entries below their counts, ordered by page, entry, register (EAX, EBX, ECX, EDX) and bit
-- from 0, give the first that changes the table, the refusal or its details; origins don't count. The pages are not written. Answers: 20 no flip
-- changes anything, after 15; pages refused by 1, 2 or 17 give that number."
use Rattle.std.specs.Prelude.{Bool, List, [], ◌∷◌, ℕ, Err, Ok, Result}
use Rattle.bits.specs.Choice.{pick}
use Rattle.table.specs.declared.Choices.{Choices}
use Rattle.table.specs.declared.Refusal.TheVariants.{NothingDecides}
use Rattle.build.specs.Build.{front_verdict}
use Rattle.nearest.specs.declared.flips.Flip.{Flip}
use Rattle.nearest.specs.Flips.{flips}
use Rattle.nearest.specs.Changes.{changes}
use Rattle.table.specs.Verdict.{Verdict}
use Rattle.table.specs.declared.Refusal.{Refusal}

-- what the caller chooses, by its parts
abbrev pub chosen : Bool → ℕ → Choices
chosen avic n = record { secure_avic = avic; edition = n }

-- the first flip that passes a test; 20 where none does
unfoldable pub first_that : (Flip → Bool) → List Flip → Result Flip Refusal
first_that test [] = Err NothingDecides
first_that test (f ∷ fs) = pick (test f) (Ok f) (first_that test fs)

-- 15, then 1, 2 and 17 come first, which building gives in this order
abbrev pub unless_refused : Verdict → Result Flip Refusal → Result Flip Refusal
unless_refused (Ok _) x = x
unless_refused (Err r) x = Err r

unfoldable pub nearest : Choices → List ℕ → Result Flip Refusal
nearest c s = unless_refused (front_verdict c s) (first_that (changes c s) (flips s))
