-- Each answer of the writer of lines holds under exactly its condition, and a line is writable exactly where its details can be named.
use Rattle.std.specs.Prelude.{refl, List, ℕ}
use Rattle.lines.specs.declared.bytes.LineDetails.{LineDetails}
use Rattle.lines.specs.WriteLine.{write_line}
use Rattle.lines.specs.LineExactly.{LineExactly}
use Rattle.lines.specs.LineExactlyProof.{exactly_at}

pub line_exactly : (d : LineDetails) (buffer : List ℕ) → LineExactly d buffer (write_line d buffer)
line_exactly d buffer = exactly_at d buffer (write_line d buffer) refl
