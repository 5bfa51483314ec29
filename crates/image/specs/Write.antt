-- Document 01, "Image and lookup": writing starts from pages and gives building's refusals before 9, a lent buffer shorter than the
-- image. A successful write returns the length. Bytes beyond the image stay, and a refused write changes no lent byte.
use Rattle.std.specs.Prelude.{List, ℕ}
use Rattle.build.specs.Build.{answer}
use Rattle.buffer.specs.Front.{AfterWrite, write_verdict}
use Rattle.image.specs.Image.{image}
use Rattle.table.specs.declared.Choices.{Choices}

unfoldable pub write : Choices → List ℕ → List ℕ → AfterWrite
write chosen s buffer = write_verdict (answer chosen s).verdict (image (answer chosen s).table) buffer
