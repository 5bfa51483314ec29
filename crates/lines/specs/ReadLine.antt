-- Document 02, P6: "A reader takes such a line back to the refusal, .. "no such line" .. from the reader for anything else". It takes the fields for
-- what they would be in a line, and accepts exactly where the writer writes these same bytes. No number names both a subleaf and s, so either stands
-- after the leaf.
use Rattle.std.specs.Prelude.{Bool, true, false, ◌&&◌, List, [], ◌∷◌, ℕ, eqb, None, Option, Some}
use Rattle.bits.specs.Choice.{pick}
use Rattle.lines.specs.Field.{field_from, after}
use Rattle.lines.specs.declared.bytes.LineDetails.{LineDetails}
use Rattle.lines.specs.declared.bytes.names.Named.{Named}
use Rattle.lines.specs.NumbersInUse.{names}
use Rattle.lines.specs.Line.{writable, line}

-- a detail that may be named, and what stands after it
abbrev pub field_if : Bool → ℕ → List ℕ → ℕ
field_if named base l = pick named (field_from base 0 l) 0

abbrev pub after_if : Bool → List ℕ → List ℕ
after_if named l = pick named (after l) l

abbrev pub subleaf_in : List ℕ → Option ℕ
subleaf_in [] = None
subleaf_in (b ∷ bs) = Some (field_from 10 0 (b ∷ bs))

abbrev pub subleaf_if : Bool → List ℕ → Option ℕ
subleaf_if named l = pick named (subleaf_in l) None

-- the details of a number, from the fields after it
abbrev pub guess_as : Named → ℕ → List ℕ → LineDetails
guess_as k n l =
    record {
      number = n;
      leaf = field_if k.leaf 16 l;
      subleaf = subleaf_if k.subleaf (after_if k.leaf l);
      s = field_if k.s 10 (after_if k.leaf l);
    }

unfoldable pub guess : List ℕ → LineDetails
guess l = guess_as (names (field_from 10 0 l)) (field_from 10 0 l) (after l)

-- whether two lists are the same
unfoldable pub same_bytes : List ℕ → List ℕ → Bool
same_bytes [] [] = true
same_bytes [] (b ∷ bs) = false
same_bytes (a ∷ l) [] = false
same_bytes (a ∷ l) (b ∷ bs) = eqb a b && same_bytes l bs

unfoldable pub read_line : List ℕ → Option LineDetails
read_line l = pick (writable (guess l) && same_bytes (line (guess l)) l) (Some (guess l)) None
