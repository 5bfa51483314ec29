-- `masking::extended_run_at` meets its contract: that each run is lawful, and has its places' rows of masks, is computed.
use borrow.Author.Rules.{rules}
use Rattle.masking.specs.Kept.{slot, kept_leaves}
use Rattle.masking.specs.Runs.{lawful_run, rows_tied}
use Rattle.masking.specs.MaskTable.{row_of_place}
use Rattle.masking.proofs.extended_run_at.Goals as goal

pub returns-then-place-lt-EXTENDED_SVM_VERSION_AND_FEATURES : goal.returns-then-place-lt-EXTENDED_SVM_VERSION_AND_FEATURES
unfolding lawful_run slot kept_leaves row_of_place rows_tied
returns-then-place-lt-EXTENDED_SVM_VERSION_AND_FEATURES c = search rules

pub returns-then-place-lt-EXTENDED_TLB1GB_IDENTIFIERS : goal.returns-then-place-lt-EXTENDED_TLB1GB_IDENTIFIERS
unfolding lawful_run slot kept_leaves row_of_place rows_tied
returns-then-place-lt-EXTENDED_TLB1GB_IDENTIFIERS c = search rules

pub returns-then-place-lt-CACHE_TOPOLOGY_0 : goal.returns-then-place-lt-CACHE_TOPOLOGY_0
unfolding lawful_run slot kept_leaves row_of_place rows_tied
returns-then-place-lt-CACHE_TOPOLOGY_0 c = search rules

pub returns-then-place-lt-PROCESSOR_TOPOLOGY_DEFINITION : goal.returns-then-place-lt-PROCESSOR_TOPOLOGY_DEFINITION
unfolding lawful_run slot kept_leaves row_of_place rows_tied
returns-then-place-lt-PROCESSOR_TOPOLOGY_DEFINITION c = search rules

pub returns-else-place-lt-PROCESSOR_TOPOLOGY_DEFINITION : goal.returns-else-place-lt-PROCESSOR_TOPOLOGY_DEFINITION
unfolding lawful_run slot kept_leaves row_of_place rows_tied
returns-else-place-lt-PROCESSOR_TOPOLOGY_DEFINITION c = search rules
