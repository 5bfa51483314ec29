-- What a fingerprint tells: equal tables have one fingerprint, and tables with one fingerprint are equal, or their images are a collision of SHA-256.
use Rattle.std.specs.Prelude.{◌≡◌, List, ◌⊎◌, ℕ, ◌<◌, Ok}
use Rattle.masking.specs.Kept.{places}
use Rattle.table.specs.declared.Choices.{Choices}
use Rattle.table.specs.declared.CpuidResults.{CpuidResults}
use Rattle.table.specs.Table.{row_in}
use Rattle.build.specs.Build.{answer}
use Rattle.image.specs.Image.{image}
use Rattle.sha256.specs.Sha256.{sha256}
use Rattle.fingerprint.specs.Fingerprint.{fingerprint}
use Rattle.images.specs.Images.{SameTable}
use Rattle.images.specs.ImageTableLaws.{Plain}

-- two messages that differ and have one digest
pub record Collision (m n : List ℕ) : Type 0 where
  pub apart : m ≡ n → ⊥
  pub digest : sha256 m ≡ sha256 n

-- of tables of any content: equal rows give one fingerprint
abbrev pub RowsFingerprint : Type 0
RowsFingerprint = (t u : CpuidResults) → ((i : ℕ) → i < places → row_in t i ≡ row_in u i) → fingerprint t ≡ fingerprint u

-- of tables whose absent rows are zeros and whose registers fit 32 bits: one fingerprint means equal rows, or a collision
abbrev pub FingerprintRows : Type 0
FingerprintRows = (t u : CpuidResults) → Plain t → Plain u → fingerprint t ≡ fingerprint u
    → ((i : ℕ) → i < places → row_in t i ≡ row_in u i) ⊎ Collision (image t) (image u)

-- of two accepted page sets, each under a choice of its own: rows and combined mask
abbrev pub FingerprintTable : Type 0
FingerprintTable = (chosen chosen' : Choices) (s s' : List ℕ) → (answer chosen s).verdict ≡ Ok tt → (answer chosen' s').verdict ≡ Ok tt
    → fingerprint (answer chosen s).table ≡ fingerprint (answer chosen' s').table
    → SameTable (answer chosen s).table (answer chosen' s').table ⊎ Collision (image (answer chosen s).table) (image (answer chosen' s').table)
