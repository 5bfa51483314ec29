-- Document 02, P6: "Write each refusal as one line of ASCII ending in a newline: the number in decimal, then, each after one space and only where
-- that number names it, the leaf in eight hexadecimal capitals, the subleaf and s in decimal. A subleaf of none is left out."
use Rattle.std.specs.Prelude.{Bool, true, false, ◌&&◌, ◌||◌, List, [], ◌∷◌, ◌++◌, ℕ, ◌^◌, ◌<◌, eqb, leb, None, Option, Some}
use Rattle.bits.specs.Choice.{pick}
use Rattle.table.specs.Numbers.{subleaf_or0}
use Rattle.lines.specs.declared.bytes.LineDetails.{LineDetails}
use Rattle.lines.specs.declared.bytes.names.Named.{Named}
use Rattle.lines.specs.Digits.{decimal, hex}
use Rattle.lines.specs.NumbersInUse.{names}

abbrev pub space : ℕ
space = 32

abbrev pub newline : ℕ
newline = 10

abbrev pub spaced : ℕ → List ℕ
spaced n = space ∷ decimal n

-- each detail with the space before it, where it is named
abbrev pub leaf_field : Bool → ℕ → List ℕ
leaf_field named leaf = pick named (space ∷ hex leaf) []

abbrev given : Option ℕ → List ℕ
given None = []
given (Some k) = spaced k

abbrev pub subleaf_field : Bool → Option ℕ → List ℕ
subleaf_field named subleaf = pick named (given subleaf) []

abbrev pub s_field : Bool → ℕ → List ℕ
s_field named s = pick named (spaced s) []

abbrev pub fields_as : Named → LineDetails → List ℕ
fields_as k d = leaf_field k.leaf d.leaf ++ (subleaf_field k.subleaf d.subleaf ++ s_field k.s d.s)

unfoldable pub fields : LineDetails → List ℕ
fields d = fields_as (names d.number) d

unfoldable pub line : LineDetails → List ℕ
line d = decimal d.number ++ (fields d ++ (newline ∷ []))

-- ---- which details have a line: not "a number not in use or a set detail that it doesn't name", and "any s of 8 bits"

abbrev pub is_none : Option ℕ → Bool
is_none None = true
is_none (Some k) = false

abbrev pub most_s : ℕ
most_s = 255

abbrev pub writable_as : Named → LineDetails → Bool
writable_as k d = ((k.used && (k.leaf || eqb d.leaf 0)) && (k.subleaf || is_none d.subleaf)) && leb d.s (pick k.s most_s 0)

unfoldable pub writable : LineDetails → Bool
writable d = writable_as (names d.number) d

-- "any leaf and subleaf of 32 bits"
pub record LineFits (d : LineDetails) : Type 0 where
  pub leaf : d.leaf < 2 ^ 32
  pub subleaf : subleaf_or0 d.subleaf < 2 ^ 32
