-- Document 02, P7: the caller names the edition of the AVX rule. "Answers: 15 an edition other than 1 or 2". Edition 1 is document 01's rule. A further
-- edition clears what the one before it clears, and the bits of its row in `further_editions`, the only list of editions.
use Rattle.std.specs.Prelude.{Bool, true, ◌&&◌, List, [], ◌∷◌, ℕ, suc, ◌+◌, ltb, leb, length}
use Rattle.std.specs.Int.Bits.{bit_or}
use Rattle.bits.specs.Choice.{pick}
use Rattle.bits.specs.Bits.{mask_of}
use Rattle.x86defs.specs.VersionAndFeaturesEcx as Version
use Rattle.x86defs.specs.ExtendedVersionAndFeaturesEcx as ExtendedEcx
use Rattle.table.specs.declared.edition.EditionBits.{EditionBits}

-- F16C of 1.ECX; XOP and FMA4 of 80000001h.ECX
abbrev pub f16c : ℕ
f16c = mask_of Version.position (Version.VersionAndFeaturesEcx.f16c ∷ [])

abbrev pub xop_and_fma4 : ℕ
xop_and_fma4 =
    mask_of ExtendedEcx.position (ExtendedEcx.ExtendedVersionAndFeaturesEcx.xop ∷ ExtendedEcx.ExtendedVersionAndFeaturesEcx.fma4 ∷ [])

abbrev bits : ℕ → ℕ → EditionBits
bits v x = record { version_ecx = v; extended_version_ecx = x }

-- Document 02, P7: "Edition 2 also clears 1.ECX bit 29 and 80000001h.ECX bits 11 (XOP) and 16 (FMA4) when XFEM lacks bit 2". Edition 2 and those after
-- it, a row each: the bits of 1.ECX and of 80000001h.ECX.
abbrev pub further_editions : List EditionBits
further_editions = bits f16c xop_and_fma4 ∷ []

-- how many editions there are; they are counted from 1
abbrev pub editions : ℕ
editions = 1 + length further_editions

unfoldable pub known_edition : ℕ → Bool
known_edition n = leb 1 n && leb n editions

-- bits with those of a row where its edition is asked for
abbrev pub joined : EditionBits → Bool → EditionBits → EditionBits
joined b asked r =
    pick asked (bits (bit_or b.version_ecx r.version_ecx) (bit_or b.extended_version_ecx r.extended_version_ecx)) b

-- b with the bits of each row whose edition is asked for; the first row's edition is k
unfoldable pub joined_from : (ℕ → Bool) → ℕ → EditionBits → List EditionBits → EditionBits
joined_from asked k b [] = b
joined_from asked k b (r ∷ rs) = joined_from asked (suc k) (joined b (asked k) r) rs

-- the bits that edition `to` clears and edition `from` leaves
abbrev pub after : ℕ → ℕ → ℕ → Bool
after from to k = ltb from k && leb k to

unfoldable pub bits_between : ℕ → ℕ → EditionBits
bits_between from to = joined_from (after from to) 2 (bits 0 0) further_editions

-- the bits that any edition clears and edition 1 leaves
unfoldable pub later_bits : EditionBits
later_bits = joined_from (λ k. true) 2 (bits 0 0) further_editions
