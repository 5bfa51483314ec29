-- Document 01, "Image and lookup": a program reads up to 65,536 bytes, secure AVIC off, and writes the image; on a refusal, byte 3, the
-- number (1 byte), leaf, subleaf (4 bytes each, little-endian, none FFFFFFFFh), s (1 byte); on longer input, byte 4.
-- "The program keeps edition 1" (document 02, P7).
use Rattle.std.specs.Prelude.{List, [], ◌∷◌, ◌++◌, ℕ, leb, length, Err, None, Ok, Option, Some}
use Rattle.bits.specs.Choice.{pick}
use Rattle.table.specs.Refusal.{Details, details}
use Rattle.build.specs.Build.{under_edition, answer}
use Rattle.buffer.specs.Front.{bytes_of}
use Rattle.image.specs.Image.{image}
use Rattle.table.specs.Verdict.{Verdict}

abbrev pub longest_input : ℕ
longest_input = 65536

abbrev pub subleaf_code : Option ℕ → ℕ
subleaf_code None = 0xFFFFFFFF
subleaf_code (Some k) = k

abbrev pub refusal_bytes : Details → List ℕ
refusal_bytes d = 3 ∷ d.number ∷ bytes_of d.leaf ++ bytes_of (subleaf_code d.subleaf) ++ (d.s ∷ [])

abbrev pub output_for : Verdict → List ℕ → List ℕ
output_for (Ok _) bytes = bytes
output_for (Err r) bytes = refusal_bytes (details r)

unfoldable pub output : List ℕ → List ℕ
output s = pick (leb (length s) longest_input) (output_for (answer (under_edition 1) s).verdict (image (answer (under_edition 1) s).table)) (4 ∷ [])
