-- The rise from server A to server B, and what added entries change.
-- `answer chosen s` is the answer of the definition (crates/build/specs/Build.antt) to the page bytes s under what the caller chooses.
use Rattle.std.specs.Prelude.{◌≡◌, ◌↔◌, List, ◌++◌, ℕ, ◌+◌, Err, Ok, Some}
use Rattle.x86defs.specs.Functions.{cpuid_result, ExtendedStateEnumeration}
use Rattle.x86defs.specs.declared.CpuidResult.{CpuidResult}
use Rattle.table.specs.declared.Choices.{Choices}
use Rattle.table.specs.declared.Refusal.TheVariants.{MissingRequiredResult, TopologyInconsistent}
use Rattle.table.specs.declared.CpuidResults.{CpuidResults}
use Rattle.table.specs.Table.{row_in}
use Rattle.pages.specs.Entries.{entries}
use Rattle.build.specs.Built.{SameButOrigins}
use Rattle.build.specs.Build.{answer}
use Rattle.rise.specs.Rise.{RiseHypothesis, HypothesisByTheLetter, RiseConclusion, TableRises}
use Rattle.rise.proofs.RiseProof.{demand_3, demand_3_by_the_letter}
use Rattle.rise.specs.SameProof.{rises_itself}
use Rattle.rise.proofs.SameProof.{same_figures}
use Rattle.rise.specs.Preorder as Preorder
use Rattle.rise.specs.PreorderProof as PreorderProof
use Rattle.rise.proofs.PreorderProof as PreorderProofLaws
use Rattle.rise.proofs.AroundProof as AroundProof
use Rattle.rise.specs.Preorder.{SameRows}
use Rattle.theorems.specs.Exported.{ExportsRise}
use Rattle.theorems.specs.ExportedProof.{exports_rise}
use Rattle.topology.specs.declared.TopologyError.TheVariants.{ThreadsPerUnit}
use Rattle.pages.specs.Layout.{Entry}
use Rattle.rise.specs.Added.{Added, Covered}
use Rattle.rise.proofs.BeginningLaws.{entries_begin}
use Rattle.rise.proofs.AddedProof.{added_same, added_rises}
use Rattle.examples.specs.AddedEntries as Spare
use Rattle.page_sets.specs.Evaluation.{first_edition}
use Rattle.page_sets.specs.PageSets.{server_a, server_b, server_w}
use Rattle.examples.specs.Computed as Computed
use Rattle.examples.specs.Chain as Chain

-- ---- Demand 3. crates/rise/specs/Rise.antt has the hypothesis, the three outcomes and what B's table then has.

-- B is refused exactly by 3 or 5, or accepted, and then its table rises from A's
pub rise : (chosen : Choices) (a b : List ℕ) → RiseHypothesis chosen a b → RiseConclusion chosen a b
rise = demand_3

-- the hypothesis by the letter: first counted entries, compared as masked
pub rise_by_the_letter : (chosen : Choices) (a b : List ℕ) → HypothesisByTheLetter chosen a b → RiseConclusion chosen a b
rise_by_the_letter = demand_3_by_the_letter

-- the same of what the exported functions return. crates/theorems/specs/Exported.antt
pub rise_of_exports : (chosen : Choices) (a b : List ℕ) → RiseHypothesis chosen a b → ExportsRise chosen a b
rise_of_exports = exports_rise

-- two servers that rise to each other have the same answer except for origins: the same table, so the same image and lookups.
-- crates/rise/specs/Same.antt; `SameButOrigins` is in crates/build/specs/Built.antt
pub same_figures_both_ways : (chosen : Choices) (a b : List ℕ) → RiseHypothesis chosen a b → RiseHypothesis chosen b a
    → SameButOrigins (answer chosen a) (answer chosen b)
same_figures_both_ways = same_figures

-- and each accepted server rises to itself
pub each_rises_to_itself : (chosen : Choices) (a : List ℕ) → (answer chosen a).verdict ≡ Ok tt → RiseHypothesis chosen a a
each_rises_to_itself = rises_itself

-- and the moves compose: from A to B and from B to C is from A to C. So the hypothesis is a preorder of the accepted servers, and those that rise to
-- each other have one table. crates/rise/specs/Preorder.antt. Servers W, A and B below meet both hypotheses.
pub moves_compose : (chosen : Choices) (a b c : List ℕ) → RiseHypothesis chosen a b → RiseHypothesis chosen b c → RiseHypothesis chosen a c
moves_compose = PreorderProofLaws.rises_compose

-- round a ring of three servers every answer is the same except for origins. Server A with entries added, A, and A with a page added are such a ring
-- (P9).
pub around_a_ring : (chosen : Choices) (a b c : List ℕ) → RiseHypothesis chosen a b → RiseHypothesis chosen b c → RiseHypothesis chosen c a
    → SameButOrigins (answer chosen a) (answer chosen b) × SameButOrigins (answer chosen b) (answer chosen c)
around_a_ring = AroundProof.around_the_same

-- of tables the same: each rises to itself, rises compose, and two rise to each other exactly where they have the same rows and mask
pub tables_rise_to_themselves : (t : CpuidResults) → TableRises t t
tables_rise_to_themselves = PreorderProof.table_rises_itself

pub table_rises_compose : (t u v : CpuidResults) → TableRises t u → TableRises u v → TableRises t v
table_rises_compose = PreorderProof.table_rises_compose

pub both_ways_the_same_rows : (t u : CpuidResults) → (TableRises t u × TableRises u t) ↔ SameRows t u
both_ways_the_same_rows t u = (λ p. PreorderProof.both_ways_same t u p.0 p.1, AroundProof.same_both_ways t u)

-- "the same table" would be too much: of rows that are not there nothing is asked, so two tables without a row rise to each other whatever they hold
-- there. Tables that building gives have zeros there, and are equal (`same_figures_both_ways`).
pub absent_rows_are_free : (r s : CpuidResult) → TableRises (Preorder.without_rows r) (Preorder.without_rows s)
absent_rows_are_free = PreorderProof.without_rows_rise

pub absent_rows_may_differ : row_in (Preorder.without_rows (cpuid_result 0 0 0 0)) 0 ≡ row_in (Preorder.without_rows (cpuid_result 1 0 0 0)) 0 → ⊥
absent_rows_may_differ = PreorderProof.and_differ

-- Examples: servers W, A and B, with combined masks 3, 7 and 18E7h (`b_richer`), and the move from W to B. crates/examples/specs/Chain.antt
pub w_to_a : RiseHypothesis first_edition server_w server_a
w_to_a = Chain.w_to_a

pub w_mask : (answer first_edition server_w).table.max_extended_state ≡ 0x3
w_mask = Chain.w_mask

pub w_to_b : RiseHypothesis first_edition server_w server_b
w_to_b = moves_compose first_edition server_w server_a server_b Chain.w_to_a Computed.server_b_rises

-- ---- P9: added entries change no answer. crates/rise/specs/Added.antt has what it is to add entries, and which verdicts are covered.

-- of a page set that is accepted or refused by 4 to 8: the verdict with its details, every row and the combined mask
pub added_entries_change_nothing : (chosen : Choices) (s u : List ℕ) → Added s u → Covered (answer chosen s).verdict → answer chosen u ≡ answer chosen s
added_entries_change_nothing = added_same

-- the entries before are a beginning of the entries after, each with its page and position
pub added_entries_follow : (s u : List ℕ) → Added s u → (more : List Entry) × (entries u ≡ entries s ++ more)
added_entries_follow s u added = ((entries_begin s u added).more, (entries_begin s u added).whole)

-- an accepted server and the same one with entries added rise to each other
pub added_entries_rise_both_ways : (chosen : Choices) (s u : List ℕ) → Added s u → (answer chosen s).verdict ≡ Ok tt
    → RiseHypothesis chosen s u × RiseHypothesis chosen u s
added_entries_rise_both_ways = added_rises

-- Examples. crates/examples/specs/AddedEntries.antt: server A with three entries added on its last page, and with a page added
pub a_with_entries : Added server_a Spare.with_entries × (answer first_edition Spare.with_entries ≡ answer first_edition server_a)
a_with_entries = (Spare.entries_added, Spare.entries_same)

pub a_with_a_page : Added server_a Spare.with_page × (answer first_edition Spare.with_page ≡ answer first_edition server_a)
a_with_a_page = (Spare.page_added, Spare.page_same)

-- refused by 8, and the same with an entry added
pub threads_with_an_entry : ((answer first_edition Spare.two_threads).verdict ≡ Err (TopologyInconsistent ThreadsPerUnit))
    × Added Spare.two_threads Spare.one_thread_later × (answer first_edition Spare.one_thread_later ≡ answer first_edition Spare.two_threads)
threads_with_an_entry = (Spare.threads_refused, Spare.threads_added, Spare.threads_same_lem)

-- 3 is not covered: server A without D.2 is refused, and server A is this with an entry added
pub missing_leaf_arrives : ((answer first_edition Spare.without_d2).verdict ≡ Err (MissingRequiredResult ExtendedStateEnumeration (Some 2)))
    × Added Spare.without_d2 server_a × ((answer first_edition server_a).verdict ≡ Ok tt)
missing_leaf_arrives = (Spare.without_refused, Spare.without_added, Computed.server_a_accepted)
