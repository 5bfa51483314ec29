-- What holds of every row of the table of numbers, by computation, and of every number beyond it.
use Rattle.std.specs.Prelude.{◌≡◌, ℕ, ◌+◌, ◌≤◌, length}
use Rattle.std.proofs.Math.ListN.{get_or-eq_default}
use Rattle.bits.specs.Choice.{pick}
use Rattle.lines.specs.declared.bytes.names.Named.{Named}
use Rattle.lines.specs.NumbersInUse.{not_in_use, rows, names}

pub beyond : (n : ℕ) → length rows ≤ n → names n ≡ not_in_use
unfolding names
beyond n h = get_or-eq_default rows not_in_use h

-- the most bytes that a number's details take: a space and eight digits, a space and ten, a space and ten
abbrev pub room : Named → ℕ
room k = pick k.leaf 9 0 + pick k.subleaf 11 0 + pick k.s 11 0
