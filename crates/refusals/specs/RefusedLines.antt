-- Examples: three refused page sets, each with the bytes of its line. Reading such a line gives the refusal back.
use Rattle.std.specs.Prelude.{◌≡◌, refl, true, List, [], ◌∷◌, ℕ, Err, Ok, Some}
use Rattle.std.proofs.Common.{ap}
use Rattle.bits.specs.Lists.{sum_to}
use Rattle.lines.specs.Digits.{digits, width}
use Rattle.x86defs.specs.Functions.{ExtendedStateEnumeration}
use Rattle.pages.specs.Bytes.{are_bytes}
use Rattle.topology.specs.declared.TopologyError.TheVariants.{ProcessorCount, ThreadsPerUnit}
use Rattle.table.specs.declared.Refusal.TheVariants.{MissingRequiredResult, TopologyInconsistent}
use Rattle.build.specs.Build.{answer}
use Rattle.page_sets.specs.PageSets.{entry, with_first, server_without_d12}
use Rattle.page_sets.specs.PassLaws.{verdict_passed}
use Rattle.page_sets.specs.Evaluation.{first_edition, passed}
use Rattle.lines.specs.NumbersInUse.{rows, names}
use Rattle.lines.specs.Line.{fields, line}
use Rattle.refusals.specs.Lined.{told_of}
use Rattle.table.specs.Verdict.{Verdict}

-- the line of a verdict that refuses
abbrev pub line_of : Verdict → List ℕ
line_of (Ok _) = []
line_of (Err r) = line (told_of r)

-- s = 1, and one processor: 7
unfoldable pub size_one : List ℕ
size_one = with_first (entry 0x80000008 0 0x3030 0x111ED21F 0x1000 0x10007)

-- t = 1, and one processor: 8
unfoldable pub two_threads : List ℕ
two_threads = with_first (entry 0x8000001E 0 0 0x100 0 0)

without_refused : (answer first_edition server_without_d12).verdict ≡ Err (MissingRequiredResult ExtendedStateEnumeration (Some 12))
unfolding passed server_without_d12
without_refused = verdict_passed first_edition server_without_d12

size_refused : (answer first_edition size_one).verdict ≡ Err (TopologyInconsistent (ProcessorCount 1))
unfolding passed size_one
size_refused = verdict_passed first_edition size_one

pub threads_refused : (answer first_edition two_threads).verdict ≡ Err (TopologyInconsistent ThreadsPerUnit)
unfolding passed two_threads
threads_refused = verdict_passed first_edition two_threads

-- 3 0000000D 12
pub line_of_3 : line_of (answer first_edition server_without_d12).verdict ≡ 51 ∷ 32 ∷ 48 ∷ 48 ∷ 48 ∷ 48 ∷ 48 ∷ 48 ∷ 48 ∷ 68 ∷ 32 ∷ 49 ∷ 50 ∷ 10 ∷ []
unfolding line fields names rows digits width sum_to
line_of_3 = ap line_of without_refused

-- 7 1: s is named
pub line_of_7 : line_of (answer first_edition size_one).verdict ≡ 55 ∷ 32 ∷ 49 ∷ 10 ∷ []
unfolding line fields names rows digits width sum_to
line_of_7 = ap line_of size_refused

-- 8: nothing is named
pub line_of_8 : line_of (answer first_edition two_threads).verdict ≡ 56 ∷ 10 ∷ []
unfolding line fields names rows digits width sum_to
line_of_8 = ap line_of threads_refused

-- what `BuildingLined` asks of the last one, its bytes, is computed
pub threads_bytes : are_bytes two_threads ≡ true
unfolding two_threads are_bytes
threads_bytes = refl
