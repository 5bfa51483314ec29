-- One walk over the entries: before each turn the entries that are left give what all give, rows, numbers and the first that is not clean; and the
-- leaves whose bits are set are full.
use Rattle.std.specs.Prelude.{◌≡◌, true, false, List, ℕ, ◌*◌, ◌<◌, length}
use Rattle.bits.specs.Choice.{pick}
use Rattle.x86defs.specs.Functions.{cpuid_result}
use Rattle.pages.specs.declared.ParsedCpuidEntry.{ParsedCpuidEntry}
use Rattle.pages.specs.declared.CpuidPageIndex.{CpuidPageIndex}
use Rattle.pages.specs.Layout.{pages_in}
use Rattle.pages.specs.Entries.{entries}
use Rattle.pages.specs.Parsed.{parsed}
use Rattle.pages.specs.Walk.{incremented, rest}
use Rattle.pages.specs.WalkLaws.{Valid}
use Rattle.pages.specs.Reserved.{first_nonzero, reserved_of}
use Rattle.pages.specs.Read.{entry_here, clean_here}
use Rattle.masking.specs.Kept.{places}
use Rattle.memory.specs.Origin.{origin_number}
use Rattle.memory.specs.Origin.Origin.{entry}
use Rattle.memory.specs.Memory.{is_there}
use Rattle.collect.specs.Collect.{Stored, stored_in, to_store}
use Rattle.collect.specs.CollectLaws.{stored}
use Rattle.collect.specs.Full.{FullLeaves}

-- a place has its row already, or gets it of the entries that are left; without a row it is all zeros
pub record Placed (s : List ℕ) (i : CpuidPageIndex) (j : ℕ) (x : Stored) : Type 0 where
  pub none : is_there x.origin ≡ false → x ≡ stored (cpuid_result 0 0 0 0) 0
  pub left : pick (is_there x.origin) x (to_store j (rest s i)) ≡ to_store j (entries s)

pub record Walking (s : List ℕ) (w o : List ℕ) (n : ℕ) (i : CpuidPageIndex) : Type 0 where
  pub full : FullLeaves o n
  pub registers : length w ≡ 4 * places
  pub origins : length o ≡ places
  pub valid : Valid s i
  pub placed : (j : ℕ) → j < places → Placed s i j (stored_in w o j)
  pub answer : first_nonzero s (rest s i) ≡ reserved_of s

-- a turn at one that is, which the reader promises with it: e is the entry
pub record AtEntry (s w o : List ℕ) (n : ℕ) (i : CpuidPageIndex) (e : ParsedCpuidEntry) : Type 0 where
  pub walking : Walking s w o n i
  pub inside : i.page_index < pages_in s
  pub entry : e ≡ parsed (entry_here s i)
  pub clean : clean_here s i ≡ true

-- a turn of the code: the memory and the leaves that are known to be full, before and after an entry
pub record Added (n : ℕ) (e : ParsedCpuidEntry) (origin : ℕ) (w o : List ℕ) (m : ℕ) (v p : List ℕ) : Type 0 where
  pub turned : {s : List ℕ} {i : CpuidPageIndex} → AtEntry s w o n i e → origin ≡ origin_number (entry i.page_index i.function_index)
      → Walking s v p m (incremented s i)
