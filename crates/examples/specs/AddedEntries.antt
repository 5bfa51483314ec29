-- Examples: page sets with entries added, byte by byte. Two stay accepted, one stays refused by 8; the last turns from refused by 3 to accepted.
use Rattle.std.specs.Prelude.{◌≡◌, List, ◌++◌, ℕ, take, drop, Err, Some}
use Rattle.std.proofs.Common.{ap, lit≤}
use Rattle.x86defs.specs.Functions.{ExtendedStateEnumeration}
use Rattle.topology.specs.declared.TopologyError.TheVariants.{ThreadsPerUnit}
use Rattle.table.specs.declared.Refusal.TheVariants.{MissingRequiredResult, TopologyInconsistent}
use Rattle.build.specs.Build.{answer}
use Rattle.rise.specs.Added.{Added}
use Rattle.rise.proofs.AddedProof.{added_same}
use Rattle.rise.specs.AddedDecide.{figures_of, figures_wanted}
use Rattle.rise.proofs.AddedDecide.{added_by_figures}
use Rattle.page_sets.specs.PageSets.{entry, page, first_page, server_a}
use Rattle.page_sets.specs.Pass.{passed_lawful}
use Rattle.page_sets.specs.PassLaws.{lawful_passed, verdict_passed}
use Rattle.page_sets.specs.Evaluation.{first_edition, passed}
use Rattle.examples.specs.Computed.{server_a_accepted}
use Rattle.table.specs.Verdict.{Verdict}

-- server A's page 0, and its D.0 and D.1, then D.2
abbrev page0 : List ℕ
page0 = first_page 0x3ED83203 0x219C07A9 0x3F

abbrev states : List ℕ
states = entry 0xD 0 0x7 0x340 0x340 0 ++ entry 0xD 1 0x7 0x340 0 0

abbrev avx : List ℕ
avx = entry 0xD 2 0x100 0x240 0 0

-- the figures of a page set whose bytes are read in one pass
figures_passed : (s u : List ℕ) → figures_of s u ≡ (passed_lawful u, (figures_of s u).1, (figures_of s u).2)
figures_passed s u = ap (λ (v : Verdict). (v, (figures_of s u).1, (figures_of s u).2)) (lawful_passed u)

-- ---- entries added on the last page

-- a second D.2, too large; D.9, whose bit is in neither mask; a leaf that is not kept
unfoldable pub with_entries : List ℕ
with_entries = page0 ++ page 6 (states ++ avx ++ entry 0xD 2 0xFFFFFFFF 1 0 0 ++ entry 0xD 9 0x8 0x980 0 0 ++ entry 0x80000021 0 0x4D 0 0 0)

entries_figures : figures_of server_a with_entries ≡ figures_wanted server_a
unfolding passed server_a with_entries
entries_figures = figures_passed server_a with_entries

pub entries_added : Added server_a with_entries
entries_added = added_by_figures server_a with_entries entries_figures

pub entries_same : answer first_edition with_entries ≡ answer first_edition server_a
entries_same = added_same first_edition server_a with_entries entries_added (rw server_a_accepted tt)

-- ---- a page added at the end

-- another leaf 1, and D.11, which does not count on page 2
unfoldable pub with_page : List ℕ
with_page = server_a ++ page 2 (entry 1 0 0xFFFFFFFF 0xFFFFFFFF 0xFFFFFFFF 0xFFFFFFFF ++ entry 0xD 11 0x10 0 1 0)

page_figures : figures_of server_a with_page ≡ figures_wanted server_a
unfolding passed server_a with_page
page_figures = figures_passed server_a with_page

pub page_added : Added server_a with_page
page_added = added_by_figures server_a with_page page_figures

pub page_same : answer first_edition with_page ≡ answer first_edition server_a
page_same = added_same first_edition server_a with_page page_added (rw server_a_accepted tt)

-- ---- refused by 8

-- two threads in each unit of one processor: 8000001Eh.EBX has t = 1, before server A's entries
abbrev threaded : List ℕ
threaded = page 23 (entry 0x8000001E 0 0 0x100 0 0 ++ take 1056 (drop 16 page0))

unfoldable pub two_threads : List ℕ
two_threads = threaded ++ page 3 (states ++ avx)

-- the same, with the right t too late
unfoldable pub one_thread_later : List ℕ
one_thread_later = threaded ++ page 4 (states ++ avx ++ entry 0x8000001E 0 0 0 0 0)

pub threads_refused : (answer first_edition two_threads).verdict ≡ Err (TopologyInconsistent ThreadsPerUnit)
unfolding passed two_threads
threads_refused = verdict_passed first_edition two_threads

threads_figures : figures_of two_threads one_thread_later ≡ figures_wanted two_threads
unfolding passed two_threads one_thread_later
threads_figures = figures_passed two_threads one_thread_later

pub threads_added : Added two_threads one_thread_later
threads_added = added_by_figures two_threads one_thread_later threads_figures

pub threads_same_lem : answer first_edition one_thread_later ≡ answer first_edition two_threads
threads_same_lem = added_same first_edition two_threads one_thread_later threads_added (rw threads_refused (lit≤ tt, lit≤ tt))

-- ---- refused by 3, which is not covered

-- server A without the D.2 that its mask needs
unfoldable pub without_d2 : List ℕ
without_d2 = page0 ++ page 2 states

pub without_refused : (answer first_edition without_d2).verdict ≡ Err (MissingRequiredResult ExtendedStateEnumeration (Some 2))
unfolding passed without_d2
without_refused = verdict_passed first_edition without_d2

without_figures : figures_of without_d2 server_a ≡ figures_wanted without_d2
unfolding passed without_d2 server_a
without_figures = figures_passed without_d2 server_a

-- server A is this with an entry added, and is accepted (`server_a_accepted`)
pub without_added : Added without_d2 server_a
without_added = added_by_figures without_d2 server_a without_figures
