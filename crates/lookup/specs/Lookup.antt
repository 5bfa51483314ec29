-- Document 01, "Image and lookup": lookup answers as `leaf_result_ref`, enforcing or not. A leaf without subleaves is found where the
-- caller names no subleaf or does not enforce; a leaf with subleaves is found only under a subleaf that the table has.
use Rattle.std.specs.Prelude.{Bool, true, ◌||◌, List, ℕ, eqb, ltb, get_or, None, Option, Some}
use Rattle.bits.specs.Choice.{pick}
use Rattle.x86defs.specs.declared.CpuidFunction.{CpuidFunction}
use Rattle.x86defs.specs.Functions.{same_function, VendorAndMaxFunction, ExtendedMaxFunction, ExtendedFeatures, ExtendedTopologyEnumeration, ExtendedStateEnumeration, CacheTopologyDefinition}
use Rattle.masking.specs.Kept.{places, place_of}
use Rattle.masking.specs.Place
use Rattle.table.specs.declared.CpuidResults.{CpuidResults}
use Rattle.table.specs.Rows.{Row}
use Rattle.table.specs.Table.{row_in}
use Rattle.lookup.specs.declared.Span.{Span}
use Rattle.lookup.specs.declared.FoundRow.{FoundRow}
use Rattle.x86defs.specs.declared.CpuidResult.{CpuidResult}

-- the leaves that have subleaves
unfoldable pub with_subleaves : CpuidFunction → Bool
with_subleaves l =
    same_function l ExtendedFeatures
    || (same_function l ExtendedTopologyEnumeration || (same_function l ExtendedStateEnumeration || same_function l CacheTopologyDefinition))

-- the place of a leaf without subleaves, the two made here included; 88 where no table has it
unfoldable pub place_whole : CpuidFunction → ℕ
place_whole l =
    pick (same_function l VendorAndMaxFunction) Place.vendor_and_max_function
    (pick (same_function l ExtendedMaxFunction) Place.extended_max_function (place_of l 0))

-- the same, and 88 for a leaf with subleaves
unfoldable pub place_alone : CpuidFunction → ℕ
place_alone l = pick (with_subleaves l) places (place_whole l)

abbrev span : ℕ → ℕ → Span
span first count = record { first = first; count = count }

-- the places of a leaf with subleaves; none for any other
unfoldable pub span_of : CpuidFunction → Span
span_of l =
    pick (eqb l.0 0xD) (span (Place.extended_state 0) 64)
    (pick (eqb l.0 0x8000001D) (span (Place.cache_topology 0) 4)
    (pick (eqb l.0 0xB) (span Place.thread_level 2) (pick (eqb l.0 0x7) (span Place.extended_features 1) (span 0 0))))

abbrev pub row_result : Row → Option CpuidResult
row_result r = pick r.present (Some r.result) None

abbrev pub indexed_result : CpuidResults → CpuidFunction → Option ℕ → Option CpuidResult
indexed_result t l None = None
indexed_result t l (Some k) = row_result (row_in t (place_of l k))

abbrev pub whole_result : CpuidResults → CpuidFunction → Option ℕ → Bool → Option CpuidResult
whole_result t l None enforce = row_result (row_in t (place_whole l))
whole_result t l (Some k) enforce = pick enforce None (row_result (row_in t (place_whole l)))

unfoldable pub lookup : CpuidResults → CpuidFunction → Option ℕ → Bool → Option CpuidResult
lookup t l sub enforce = pick (with_subleaves l) (indexed_result t l sub) (whole_result t l sub enforce)

-- ---- where the row came from: document 02, P11

-- the place that is asked for; 88 where the question has no answer
unfoldable pub place_asked : CpuidFunction → Option ℕ → Bool → ℕ
place_asked l None enforce = pick (with_subleaves l) places (place_whole l)
place_asked l (Some k) enforce = pick (with_subleaves l) (place_of l k) (pick enforce places (place_whole l))

-- the same as code has it
abbrev pub at_place : ℕ → Option ℕ
at_place i = pick (ltb i places) (Some i) None

-- whether a place is one of the 88, where one is asked for
abbrev pub is_place : Option ℕ → Bool
is_place (Some i) = ltb i places
is_place None = true

-- the origin of the row that is found, by its number in a column of origins; 0 past the last place
abbrev pub lookup_origin : List ℕ → CpuidFunction → Option ℕ → Bool → ℕ
lookup_origin origins l sub enforce = get_or origins (place_asked l sub enforce) 0

-- what is found, with its origin
abbrev pub with_origin : Option CpuidResult → ℕ → Option FoundRow
with_origin (Some r) n = Some (record { row = r; origin = n })
with_origin None n = None

abbrev pub found : CpuidResults → List ℕ → CpuidFunction → Option ℕ → Bool → Option FoundRow
found t origins l sub enforce = with_origin (lookup t l sub enforce) (lookup_origin origins l sub enforce)
