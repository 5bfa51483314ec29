-- Refusals as lines of ASCII.
-- `answer chosen s` is the answer of the definition (crates/build/specs/Build.antt) to the page bytes s under what the caller chooses.
use Rattle.std.specs.Prelude.{◌≡◌, ◌↔◌, true, List, [], ◌∷◌, ◌++◌, ℕ, ◌+◌, ◌≤◌, length, take, Err, None, Ok, Some}
use Rattle.table.specs.declared.Refusal.{Refusal}
use Rattle.table.specs.declared.Refusal.TheVariants.{BufferTooShort}
use Rattle.build.specs.Build.{answer}
use Rattle.table.specs.Refusal.{details}
use Rattle.lines.specs.declared.bytes.LineDetails.{LineDetails}
use Rattle.lines.specs.Line.{LineFits, most_s, writable, line}
use Rattle.lines.proofs.LineLaws.{at_most_22}
use Rattle.lines.specs.WriteLine.{leaves, write_line}
use Rattle.lines.specs.ReadLine.{read_line}
use Rattle.lines.proofs.LinePromises as Lines
use Rattle.lines.specs.LinePromises.{LineOf, line_details}
use Rattle.lines.specs.LineExactly.{LineExactly, Nameable}
use Rattle.lines.specs.LineExactlyProof.{writable_means}
use Rattle.lines.proofs.LineExactlyProof.{line_exactly}
use Rattle.lines.specs.NumbersNamed.{NamesExactly}
use Rattle.lines.proofs.NumbersNamedProof.{names_exactly}
use Rattle.lines.specs.NumbersInUse.{names}
use Rattle.refusals.specs.Lined.{BuildingLined, LinesTell}
use Rattle.refusals.proofs.LinedProof.{building_lined, lines_tell}
use Rattle.refusals.specs.RefusedLines as RefusedLines
use Rattle.lines.specs.ComputedLines as ComputedLines
use Rattle.lines.specs.ComputedLines.{told, longest}
use Rattle.page_sets.specs.Evaluation.{first_edition}

-- ---- P6: refusals as lines. crates/lines/specs/NumbersInUse.antt has what each number names, Line.antt beside it the line;
-- crates/lines/specs/WriteLine.antt and ReadLine.antt have the writer and the reader. `writable d`: the number is in use, names every detail that is
-- set, and s has 8 bits.

-- reading what was written gives it back: of every line, and of what the writer left at the front of any lent buffer
pub line_read_back : (d : LineDetails) → LineFits d → writable d ≡ true → read_line (line d) ≡ Some d
line_read_back = Lines.read_written

pub write_read_back : (d : LineDetails) (buffer left : List ℕ) (n : ℕ)
    → LineFits d → write_line d buffer ≡ leaves (Some (Ok n)) left → read_line (take n left) ≡ Some d
write_read_back = Lines.write_then_read

-- what is read is what would be written: the reader takes nothing else
pub only_lines_read : (l : List ℕ) (d : LineDetails) → read_line l ≡ Some d → LineOf l d
only_lines_read = Lines.only_written_read

-- different refusals, details included, give different lines
pub lines_differ : (d e : LineDetails) → LineFits d → LineFits e → writable d ≡ true → writable e ≡ true → line d ≡ line e → d ≡ e
lines_differ = Lines.lines_differ

pub no_line_begins_another : (d e : LineDetails) (t : List ℕ) → line d ++ t ≡ line e → t ≡ []
no_line_begins_another = Lines.no_line_begins_another

pub line_at_most_22 : (d : LineDetails) → length (line d) ≤ 22
line_at_most_22 = at_most_22

-- every refusal that the table's functions give has a line
pub every_refusal_has_a_line : (r : Refusal) → (details r).s ≤ most_s → writable (line_details (details r)) ≡ true
every_refusal_has_a_line = Lines.every_refusal

-- each refusal that building gives, of page bytes, is written and read back to itself: nothing more is asked. crates/refusals/specs/Lined.antt;
-- without "bytes" it is false (NotBytes.antt beside it). The sets of `line_of_7` and `line_of_8` below meet it.
pub every_refusal_of_building_is_read_back : BuildingLined
every_refusal_of_building_is_read_back = building_lined

-- two page sets whose refusals have one line are refused by one refusal, details included. The two sets of
-- `threads_with_an_entry`, both refused by 8, meet it.
pub lines_tell_refusals : LinesTell
lines_tell_refusals = lines_tell

-- "no such line", then 9, then the line, each if and only if its condition holds; every lent byte. crates/lines/specs/LineExactly.antt, with examples
-- in ComputedLines.antt beside it
pub each_line_write_exactly : (d : LineDetails) (buffer : List ℕ) → LineExactly d buffer (write_line d buffer)
each_line_write_exactly = line_exactly

-- in words: the number is in use and names every detail that is set, and s has 8 bits
pub which_have_a_line : (d : LineDetails) → (writable d ≡ true) ↔ Nameable (names d.number) d
which_have_a_line = writable_means

-- a number is in use exactly where a refusal has it, and names a leaf, a subleaf or s exactly where some refusal with that number sets one.
-- crates/lines/specs/NumbersNamed.antt
pub each_number_names_exactly : (n : ℕ) → NamesExactly n
each_number_names_exactly = names_exactly

-- the longest line meets what they ask: 3 FFFFFFFF 4294967295
pub longest_fits : LineFits longest
longest_fits = ComputedLines.longest_fits

pub longest_writable : writable longest ≡ true
longest_writable = ComputedLines.longest_writable

pub longest_length : length (line longest) ≡ 22
longest_length = ComputedLines.longest_length

-- lines in ASCII: 3 0000000D 12, then 3 8000001F, then 6 0, each with its newline
pub missing_d12_line : line (told 3 0xD (Some 12) 0) ≡ 51 ∷ 32 ∷ 48 ∷ 48 ∷ 48 ∷ 48 ∷ 48 ∷ 48 ∷ 48 ∷ 68 ∷ 32 ∷ 49 ∷ 50 ∷ 10 ∷ []
missing_d12_line = ComputedLines.missing_d12

pub missing_8000001f_line : line (told 3 0x8000001F None 0) ≡ 51 ∷ 32 ∷ 56 ∷ 48 ∷ 48 ∷ 48 ∷ 48 ∷ 48 ∷ 49 ∷ 70 ∷ 10 ∷ []
missing_8000001f_line = ComputedLines.missing_8000001f

pub s_of_0_line : line (told 6 0 None 0) ≡ 54 ∷ 32 ∷ 48 ∷ 10 ∷ []
s_of_0_line = ComputedLines.s_of_0

-- lines of refused page sets: 7 1, which names s, and 8, which does not. crates/refusals/specs/RefusedLines.antt
pub line_of_7 : RefusedLines.line_of (answer first_edition RefusedLines.size_one).verdict ≡ 55 ∷ 32 ∷ 49 ∷ 10 ∷ []
line_of_7 = RefusedLines.line_of_7

pub line_of_8 : RefusedLines.line_of (answer first_edition RefusedLines.two_threads).verdict ≡ 56 ∷ 10 ∷ []
line_of_8 = RefusedLines.line_of_8

-- no line: 01 and a newline
pub leading_zero_no_line : read_line (48 ∷ 49 ∷ 10 ∷ []) ≡ None
leading_zero_no_line = ComputedLines.leading_zero

-- without room for the line: 9; "no such line" comes before it, for a leaf that 1 does not name
pub one_short : write_line (told 1 0 None 0) (7 ∷ []) ≡ leaves (Some (Err BufferTooShort)) (7 ∷ [])
one_short = ComputedLines.one_short

pub one_with_leaf : write_line (told 1 0xD None 0) (7 ∷ []) ≡ leaves None (7 ∷ [])
one_with_leaf = ComputedLines.one_with_leaf

-- and for an s that 8 does not name
pub eight_with_s : write_line (told 8 0 None 3) (9 ∷ 9 ∷ 9 ∷ 9 ∷ []) ≡ leaves None (9 ∷ 9 ∷ 9 ∷ 9 ∷ [])
eight_with_s = ComputedLines.eight_with_s
