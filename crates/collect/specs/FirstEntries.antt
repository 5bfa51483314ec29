-- From page bytes to the masked first entries of the 88 places. Document 01, "Corners of mod.rs": the first counted, kept entry of a
-- leaf and subleaf wins; a leaf without subleaves takes its first entry for any ECX_IN; D.0.EAX gets bits 0 and 1 set after masking.
use Rattle.std.specs.Prelude.{Bool, List, [], ◌∷◌, ℕ, eqb, ltb}
use Rattle.std.specs.Int.Bits.{bit_or}
use Rattle.bits.specs.Choice.{pick}
use Rattle.bits.specs.Bits.{mask_of}
use Rattle.x86defs.specs.declared.CpuidResult.{CpuidResult}
use Rattle.x86defs.specs.Functions.{cpuid_result}
use Rattle.x86defs.specs.ExtendedStateEnumerationSubleaf0Eax as Subleaf0Eax
use Rattle.pages.specs.Layout.{Entry}
use Rattle.pages.specs.Entries.{counted}
use Rattle.masking.specs.Masks.{all_ones, apply_mask}
use Rattle.masking.specs.Kept.{place_of, masks_at, places}
use Rattle.masking.specs.Place
use Rattle.table.specs.Rows.{Row, Rows, row, vacant}

-- where an entry goes; 88 where its leaf is filtered
abbrev pub place_of_entry : Entry → ℕ
place_of_entry e = place_of e.leaf e.subleaf

-- the first of the entries that goes to place i, as a row
unfoldable pub first_at : ℕ → List Entry → Row
first_at i [] = vacant
first_at i (e ∷ es) = pick (eqb (place_of_entry e) i) (row e.registers) (first_at i es)

-- an entry's registers as they stand, of which each is a word of 32 bits
abbrev pub words : CpuidResult → CpuidResult
words r = apply_mask all_ones r

abbrev pub word_row : Row → Row
word_row r = pick r.present (row (words r.result)) vacant

-- the first entries of a page set
unfoldable pub firsts_of : List ℕ → Rows
firsts_of s i = pick (ltb i places) (word_row (first_at i (counted s))) vacant

-- x87 and SSE state: XCR0 bits 0 and 1
unfoldable pub legacy_features : ℕ
legacy_features = mask_of Subleaf0Eax.position (Subleaf0Eax.ExtendedStateEnumerationSubleaf0Eax.x87 ∷ Subleaf0Eax.ExtendedStateEnumerationSubleaf0Eax.sse ∷ [])

abbrev pub set_legacy : ℕ → CpuidResult → CpuidResult
set_legacy i r = cpuid_result (pick (eqb i (Place.extended_state 0)) (bit_or r.eax legacy_features) r.eax) r.ebx r.ecx r.edx

-- an entry's registers at its place: masked, then the two bits of D.0.EAX set
abbrev pub masked_at : Bool → ℕ → CpuidResult → CpuidResult
masked_at avic i r = set_legacy i (apply_mask (masks_at avic i) r)

-- the row of a first entry, if there is one
abbrev pub mask_row : Bool → ℕ → Row → Row
mask_row avic i r = pick r.present (row (masked_at avic i r.result)) vacant

-- the masked first entries of a page set; there are 88 places
unfoldable pub rows_of : Bool → List ℕ → Rows
rows_of avic s i = pick (ltb i places) (mask_row avic i (first_at i (counted s))) vacant
