-- `masking::basic_run_at` meets its contract: that each run is lawful, and has its places' rows of masks, is computed.
use borrow.Author.Rules.{rules}
use Rattle.masking.specs.Kept.{slot, kept_leaves}
use Rattle.masking.specs.Runs.{lawful_run, rows_tied}
use Rattle.masking.specs.MaskTable.{row_of_place}
use Rattle.masking.proofs.basic_run_at.Goals as goal

-- leaves 0 and 1
pub returns-then-place-lt-MONITOR_MWAIT : goal.returns-then-place-lt-MONITOR_MWAIT
unfolding lawful_run slot kept_leaves row_of_place rows_tied
returns-then-place-lt-MONITOR_MWAIT c = search rules

-- leaf Bh
pub returns-then-place-lt-EXTENDED_STATE_0 : goal.returns-then-place-lt-EXTENDED_STATE_0
unfolding lawful_run slot kept_leaves row_of_place rows_tied
returns-then-place-lt-EXTENDED_STATE_0 c = search rules

pub returns-then-place-lt-EXTENDED_FEATURES : goal.returns-then-place-lt-EXTENDED_FEATURES
unfolding lawful_run slot kept_leaves row_of_place rows_tied
returns-then-place-lt-EXTENDED_FEATURES c = search rules

pub returns-then-place-lt-THREAD_LEVEL : goal.returns-then-place-lt-THREAD_LEVEL
unfolding lawful_run slot kept_leaves row_of_place rows_tied
returns-then-place-lt-THREAD_LEVEL c = search rules

pub returns-else-place-lt-EXTENDED_STATE_0 : goal.returns-else-place-lt-EXTENDED_STATE_0
unfolding lawful_run slot kept_leaves row_of_place rows_tied
returns-else-place-lt-EXTENDED_STATE_0 c = search rules
