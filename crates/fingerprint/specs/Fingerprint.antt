-- The fingerprint of a table: the SHA-256 of its image, by which a figure can say under which table it was computed.
use Rattle.std.specs.Prelude.{List, ℕ}
use Rattle.table.specs.declared.CpuidResults.{CpuidResults}
use Rattle.image.specs.Image.{image}
use Rattle.sha256.specs.Sha256.{sha256}

unfoldable pub fingerprint : CpuidResults → List ℕ
fingerprint t = sha256 (image t)
