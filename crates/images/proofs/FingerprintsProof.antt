-- The proofs: images tell tables (crates/images), and lists of bytes are equal or not.
use Rattle.std.specs.Prelude.{◌≡◌, refl, Bool, true, false, List, [], ◌∷◌, ◌⊎◌, ℕ, zero, suc, eqb, length, get_or, drop}
use Rattle.std.proofs.Common.{ap, ap₂, inl, inr, arith, eqb-true}
use Rattle.std.proofs.lemmas.Bool.{eqb-false}
use Rattle.build.specs.Build.{answer}
use Rattle.image.specs.Image.{image}
use Rattle.sha256.specs.Sha256.{sha256}
use Rattle.fingerprint.specs.Fingerprint.{fingerprint}
use Rattle.images.specs.ImageTableLaws.{rows_told, same_image}
use Rattle.images.specs.ImagesProof.{equal_images}
use Rattle.images.specs.Fingerprints.{Collision, RowsFingerprint, FingerprintRows, FingerprintTable}
use Rattle.images.specs.FingerprintsProof.{one_digest}

pub fingerprint_rows : FingerprintRows
unfolding fingerprint
fingerprint_rows t u p q e = elim (one_digest (image t) (image u) e) [
  | inl same ↦ inl (rows_told t u p q same)
  | inr collision ↦ inr collision
]

pub fingerprint_table : FingerprintTable
unfolding fingerprint
fingerprint_table chosen chosen' s s' a b e = elim (one_digest (image (answer chosen s).table) (image (answer chosen' s').table) e) [
  | inl same ↦ inl ((equal_images chosen chosen' s s' a b).0 same)
  | inr collision ↦ inr collision
]
