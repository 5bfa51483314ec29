-- What building gives beside the answer to rows, the origins; and what it is for two answers to be the same.
use Rattle.std.specs.Prelude.{◌≡◌, replicate, Err}
use Rattle.masking.specs.Kept.{places}
use Rattle.table.specs.declared.Refusal.{Refusal}
use Rattle.table.specs.Table.{empty_table}
use Rattle.finish.specs.declared.RowsBuilt.{RowsBuilt}
use Rattle.build.specs.declared.Built.{Built}

-- a refused answer: an empty table, and no origins
abbrev pub not_built : Refusal → Built
not_built r = record { verdict = Err r; table = empty_table; origins = replicate places 0 }

-- Document 02, P11: "sameness with the Rust, in P2, in P8 and between servers A and B means everything but origins": the verdict, with its refusal
-- and details, and the table
abbrev pub without_origins : Built → RowsBuilt
without_origins b = record { verdict = b.verdict; table = b.table }

abbrev pub SameButOrigins : Built → Built → Type 0
SameButOrigins a b = without_origins a ≡ without_origins b
