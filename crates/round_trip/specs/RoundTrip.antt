-- Document 02, P2: "exporting, importing and building again with the same secure-AVIC choice returns the same table and combined mask".
use Rattle.std.specs.Prelude.{◌≡◌, List, ℕ, ◌+◌, ◌*◌, ◌≤◌, length, take, Ok}
use Rattle.table.specs.declared.Choices.{Choices}
use Rattle.build.specs.Built.{SameButOrigins}
use Rattle.build.specs.Build.{answer}
use Rattle.buffer.specs.WritesExactly.{FrontExactly}
use Rattle.kvm_import.specs.Import.{read_list}
use Rattle.kvm_export.specs.Export.{list_of, write_list}

-- how many bytes the list of an accepted page set has
abbrev pub list_length : Choices → List ℕ → ℕ
list_length chosen s = 8 + 40 * (answer chosen s).table.row_count

-- the bytes that writing leaves at the front of one lent buffer, and those that reading them leaves at the front of another
abbrev pub exported : Choices → List ℕ → List ℕ → List ℕ
exported chosen s buffer = take (list_length chosen s) (write_list chosen s buffer).buffer

abbrev pub imported : Choices → List ℕ → List ℕ → List ℕ → List ℕ
imported chosen s buffer pages = take 8192 (read_list (exported chosen s buffer) pages).buffer

-- both succeed, and what is built of the pages is the same except for origins, which are those of the pages last read: verdict, rows, count and
-- combined mask
pub record Returns (chosen : Choices) (s buffer pages : List ℕ) : Type 0 where
  pub written : (write_list chosen s buffer).answer ≡ Ok (list_length chosen s)
  pub read : (read_list (exported chosen s buffer) pages).answer ≡ Ok 8192
  pub same : SameButOrigins (answer chosen (imported chosen s buffer pages)) (answer chosen s)

abbrev pub RoundTrip : Type 0
RoundTrip = (chosen : Choices) (s : List ℕ) → (answer chosen s).verdict ≡ Ok tt → (buffer pages : List ℕ) → list_length chosen s ≤ length buffer
    → 8192 ≤ length pages
    → Returns chosen s buffer pages

-- writing: building's refusals first, then 9 exactly where the buffer is shorter than the list; an accepted table's list has 8 + 40 × rows bytes
pub record ListWritesExactly (chosen : Choices) (s buffer : List ℕ) : Type 0 where
  pub answers : FrontExactly (answer chosen s).verdict (list_of (answer chosen s).table) buffer (write_list chosen s buffer)
  pub size : (answer chosen s).verdict ≡ Ok tt → length (list_of (answer chosen s).table) ≡ list_length chosen s
