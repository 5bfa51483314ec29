-- A table's fingerprint: the SHA-256 of its image, by which a figure says under which table it was computed.
-- crates/fingerprint/specs/Fingerprint.antt; crates/sha256/specs/Sha256.antt and crates/sha256/specs/Block.antt have SHA-256, from FIPS 180-4.
-- `answer chosen s` is the answer of the definition (crates/build/specs/Build.antt) to the page bytes s under what the caller chooses.
use Rattle.std.specs.Prelude.{◌≡◌, List, [], ◌∷◌, ◌⊎◌, ℕ, ◌*◌, ◌^◌, ◌<◌, length}
use Rattle.std.proofs.Common.{ap}
use Rattle.table.specs.declared.Choices.{Choices}
use Rattle.table.specs.declared.CpuidResults.{CpuidResults}
use Rattle.memory.specs.Held.{held_in}
use Rattle.build.specs.Build.{answer, TableIn}
use Rattle.sha256.specs.Sha256.{big_endian, sha256}
use Rattle.sha256.specs.Facts as Facts
use Rattle.sha256.specs.Facts.{value_from}
use Rattle.fingerprint.specs.Fingerprint.{fingerprint}
use Rattle.page_sets.specs.PageSets.{server_a}
use Rattle.page_sets.specs.Evaluation.{first_edition}
use Rattle.images.specs.Fingerprints.{RowsFingerprint, FingerprintRows, FingerprintTable}
use Rattle.images.specs.FingerprintsProof as Fingerprints
use Rattle.images.proofs.FingerprintsProof as FingerprintsLaws
use Rattle.images.specs.FingerprintA as A
use Rattle.images.proofs.FingerprintA as ALaws

-- tables with equal rows have one fingerprint, whatever their memory holds besides. crates/images/specs/Fingerprints.antt
pub equal_rows_one_fingerprint : RowsFingerprint
equal_rows_one_fingerprint = Fingerprints.rows_fingerprint

-- two accepted page sets with one fingerprint have equal rows and equal combined masks, or their two images are a collision of SHA-256
pub fingerprint_tells_table : FingerprintTable
fingerprint_tells_table = FingerprintsLaws.fingerprint_table

-- the same of the rows of any two tables that are built, pooled, carried or read: absent rows are zeros, registers fit 32 bits
pub fingerprint_tells_rows : FingerprintRows
fingerprint_tells_rows = FingerprintsLaws.fingerprint_rows

-- the fingerprint of a kept table is the one from pages, also where these are refused: then it is that of a table without rows
pub kept_fingerprint : (chosen : Choices) (s w o : List ℕ) → TableIn (answer chosen s) w o → fingerprint (held_in w o) ≡ fingerprint (answer chosen s).table
kept_fingerprint chosen s w o k = ap fingerprint k.table

-- ---- SHA-256. crates/sha256/specs/Facts.antt

-- a digest has 32 bytes; the length's field holds the length in bits of every message that the standard admits
pub digest_length : (m : List ℕ) → length (sha256 m) ≡ 32
digest_length = Facts.digest_length

pub length_field : (n : ℕ) → n < 2 ^ 61 → value_from 0 (big_endian 8 (8 * n)) ≡ 8 * n
length_field = Facts.field_value

-- Examples: the standard's digest of "abc", and server A's fingerprint from its page bytes
pub abc : sha256 (0x61 ∷ 0x62 ∷ 0x63 ∷ []) ≡ 0xba ∷ 0x78 ∷ 0x16 ∷ 0xbf ∷ 0x8f ∷ 0x01 ∷ 0xcf ∷ 0xea ∷ 0x41 ∷ 0x41 ∷ 0x40 ∷ 0xde ∷ 0x5d ∷ 0xae ∷ 0x22 ∷
    0x23 ∷ 0xb0 ∷ 0x03 ∷ 0x61 ∷ 0xa3 ∷ 0x96 ∷ 0x17 ∷ 0x7a ∷ 0x9c ∷ 0xb4 ∷ 0x10 ∷ 0xff ∷ 0x61 ∷ 0xf2 ∷ 0x00 ∷ 0x15 ∷ 0xad ∷ []
abc = Facts.abc

pub a_fingerprint : fingerprint (answer first_edition server_a).table ≡ A.digest_a
a_fingerprint = ALaws.fingerprint_a
