-- Tables in memory beside pages and images: what is compared, written and read there is what the definitions of pages and images say.
use Rattle.std.specs.Prelude.{◌≡◌, Bool, true, false, List, ℕ, ◌*◌, ◌^◌, ◌<◌, length, get_or, Ok}
use Rattle.bits.specs.Choice.{pick}
use Rattle.x86defs.specs.Functions.{cpuid_result}
use Rattle.masking.specs.Kept.{places}
use Rattle.table.specs.declared.Choices.{Choices}
use Rattle.table.specs.Rows.{vacant}
use Rattle.memory.specs.Memory.{row_of, is_there, rows_in}
use Rattle.memory.specs.Held.{held_in}
use Rattle.build.specs.Build.{answer, InMemory}
use Rattle.image.specs.Image.{image}
use Rattle.compare.specs.declared.Compared.TheVariants.{Rises as PagesRise}
use Rattle.compare.specs.Compare.{compared}
use Rattle.image_read.specs.ReadIn.{ReadIn}
use Rattle.compare.specs.declared.search.RowsCompared.TheVariants.{Rises, MaskLacks}
use Rattle.compare.specs.RowsCompared.{compared_tables}
use Rattle.table.specs.Verdict.{Verdict}

-- where the comparison of pages says yes and B is accepted, the comparison of the two memories says yes
abbrev pub CompareAgrees : Type 0
CompareAgrees = (chosen : Choices) (a b : List ℕ) → compared chosen a b ≡ PagesRise → (answer chosen b).verdict ≡ Ok tt
    → (x y : Verdict) (v o w q : List ℕ) → InMemory (answer chosen a) x v o → InMemory (answer chosen b) y w q
    → compared_tables (held_in v o) (held_in w q) ≡ Rises

-- the same of memories into which the two tables' images were read
abbrev pub ImagesAgree : Type 0
ImagesAgree = (chosen : Choices) (a b : List ℕ) → compared chosen a b ≡ PagesRise → (answer chosen b).verdict ≡ Ok tt
    → (x y : Bool) (v o w q : List ℕ) → ReadIn (image (answer chosen a).table) x v o → ReadIn (image (answer chosen b).table) y w q
    → compared_tables (held_in v o) (held_in w q) ≡ Rises

-- memory whose absent rows are zeros and whose registers fit 32 bits
pub record PlainIn (w o : List ℕ) : Type 0 where
  pub absent : (i : ℕ) → i < places → is_there (get_or o i 0) ≡ false → row_of w i ≡ cpuid_result 0 0 0 0
  pub fits : (k : ℕ) → get_or w k 0 < 2 ^ 32

-- its image, read into other memory
pub record Back (w o : List ℕ) (r : Bool) (v q : List ℕ) : Type 0 where
  pub read : r ≡ true
  pub rows : (i : ℕ) → i < places → rows_in v q i ≡ rows_in w o i
  pub table : held_in v q ≡ held_in w o
  pub registers : length w ≡ 4 * places → v ≡ w

abbrev pub ImageBack : Type 0
ImageBack = (w o : List ℕ) → PlainIn w o → (r : Bool) (v q : List ℕ) → ReadIn (image (held_in w o)) r v q → Back w o r v q

-- of any memory of 32-bit registers: an image has no bytes for a row that is not there, which comes back as zeros
pub record RowsBack (w o : List ℕ) (r : Bool) (v q : List ℕ) : Type 0 where
  pub read : r ≡ true
  pub rows : (i : ℕ) → i < places → rows_in v q i ≡ pick (is_there (get_or o i 0)) (rows_in w o i) vacant

abbrev pub AnyBack : Type 0
AnyBack = (w o : List ℕ) → ((k : ℕ) → get_or w k 0 < 2 ^ 32) → (r : Bool) (v q : List ℕ) → ReadIn (image (held_in w o)) r v q → RowsBack w o r v q

-- of an accepted page set's memory nothing else is asked
abbrev pub BuiltBack : Type 0
BuiltBack = (chosen : Choices) (s : List ℕ) → (answer chosen s).verdict ≡ Ok tt → (x : Verdict) (w o : List ℕ) → InMemory (answer chosen s) x w o
    → (r : Bool) (v q : List ℕ) → ReadIn (image (held_in w o)) r v q → Back w o r v q

-- where A's absent rows are zeros the masks are never what fails: the rows say it before
abbrev pub MaskFollows : Type 0
MaskFollows = (w o v q : List ℕ) → ((i : ℕ) → i < places → is_there (get_or o i 0) ≡ false → row_of w i ≡ cpuid_result 0 0 0 0)
    → compared_tables (held_in w o) (held_in v q) ≡ MaskLacks → ⊥
