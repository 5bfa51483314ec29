-- An entry as the code reads it.
use Rattle.std.specs.Prelude.{Bool}
use Rattle.pages.specs.declared.ParsedCpuidEntry.{ParsedCpuidEntry}
use Rattle.pages.specs.Layout.{Entry}
use Rattle.pages.specs.Entries.{counts_on}

-- what the code takes of an entry
abbrev pub parsed : Entry → ParsedCpuidEntry
parsed e = record { page = e.page; leaf = e.leaf; subleaf = e.subleaf; result = e.registers }

-- whether what was taken is of an entry that counts
abbrev pub counts_read : ParsedCpuidEntry → Bool
counts_read e = counts_on e.page e.leaf
