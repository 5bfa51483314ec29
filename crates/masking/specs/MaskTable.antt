-- The code's constant table of kept leaves: for each row of `kept_leaves` its leaf, its four masks, and whether the leaf has subleaves.
use Rattle.std.specs.Prelude.{Bool, false, List, [], ◌∷◌, map, ℕ, suc, ◌-◌, ltb, get_or}
use Rattle.bits.specs.Choice.{pick}
use Rattle.x86defs.specs.Functions.{function, cpuid_result}
use Rattle.masking.specs.declared.masks.KeptLeaf.{KeptLeaf}
use Rattle.masking.specs.Masks.{Masks}
use Rattle.masking.specs.Kept.{Kept, kept_leaves, places_of, has_subleaf}

abbrev pub kept_leaf : Kept → KeptLeaf
kept_leaf r =
    record {
      leaf = r.leaf;
      eax = r.masks.eax;
      ebx = r.masks.ebx;
      ecx = r.masks.ecx;
      edx = r.masks.edx;
      subleaf = has_subleaf r.span;
    }

abbrev pub rows : ℕ
rows = 23

unfoldable pub table : Bool → List KeptLeaf
table avic = map kept_leaf (kept_leaves avic)

-- what `get_or` gives past the end of the table
abbrev pub no_row : KeptLeaf
no_row = record { leaf = function 0; eax = 0; ebx = 0; ecx = 0; edx = 0; subleaf = false }

abbrev pub row_at : Bool → ℕ → KeptLeaf
row_at avic j = get_or (table avic) j no_row

abbrev pub masks_of : KeptLeaf → Masks
masks_of m = cpuid_result m.eax m.ebx m.ecx m.edx

-- the number of the row that has place i, counted from 0
abbrev pub row_number_in : List Kept → ℕ → ℕ
row_number_in [] i = 0
row_number_in (r ∷ rs) i = pick (ltb i (places_of r.span)) 0 (suc (row_number_in rs (i - places_of r.span)))

unfoldable pub row_of_place : ℕ → ℕ
row_of_place i = row_number_in (kept_leaves false) i
