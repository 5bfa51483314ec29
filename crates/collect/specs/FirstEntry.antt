-- Where the first counted entry of a leaf and subleaf stands, of pages that are lawful: what P11's comparison names. An entry's place is that of its
-- leaf and subleaf; leaves that no table keeps have none.
use Rattle.std.specs.Prelude.{List, ℕ, ltb, Err, Ok}
use Rattle.bits.specs.Choice.{pick}
use Rattle.x86defs.specs.declared.CpuidFunction.{CpuidFunction}
use Rattle.pages.specs.Entries.{counted}
use Rattle.masking.specs.Kept.{places, place_of}
use Rattle.memory.specs.Origin.{Origin, origin_number}
use Rattle.memory.specs.Origin.Origin.{neither}
use Rattle.collect.specs.FirstEntryOrigin.{stands_at}
use Rattle.collect.specs.Lawful.{lawful_verdict}
use Rattle.collect.specs.declared.FirstEntry.{FirstEntry}
use Rattle.table.specs.Verdict.{Verdict}

unfoldable pub first_origin : List ℕ → ℕ → Origin
first_origin s place = pick (ltb place places) (stands_at place (counted s)) neither

abbrev pub origin_given : Verdict → Origin → Origin
origin_given (Ok _) o = o
origin_given (Err r) o = neither

-- 1, 2 and 17 as building gives them
unfoldable pub first_entry_of : List ℕ → CpuidFunction → ℕ → FirstEntry
first_entry_of s leaf subleaf = record {
  verdict = lawful_verdict s;
  origin = origin_number (origin_given (lawful_verdict s) (first_origin s (place_of leaf subleaf)));
}
