-- The proofs of the statements of Counts.
use Rattle.std.specs.Prelude.{◌≡◌, ℕ, ◌<◌}
use Rattle.std.proofs.Common.{arith}
use Rattle.masking.specs.Kept.{places}
use Rattle.table.specs.Rows.{Rows}
use Rattle.checks.specs.ExtendedState.{combined_mask}
use Rattle.finish.specs.Finish.{finished}
use Rattle.table.specs.Table.{table_of}
use Rattle.build.specs.Build.{rows_for, answer}
use Rattle.counts.specs.Counts.{RowsCounted, SinglePageRefused}
use Rattle.image.specs.RowsPresent.{stands, row_stands}
use Rattle.image.specs.AcceptedLaws.{rows_pass, accepted_table}
use Rattle.counts.specs.Sizes.{rows_count, bytes_count}
use Rattle.counts.specs.Mask.{mask_within, components_most}
use Rattle.counts.specs.SinglePage.{single_refused}

pub rows_counted : RowsCounted
unfolding answer
rows_counted chosen s e = record {
  rows = rw table (rows_count (finished chosen.edition m) (combined_mask m) standing);
  most = rw table (omega (arith, rows_count (finished chosen.edition m) (combined_mask m) standing, components_most (mask_within chosen.secure_avic s)));
  bytes = rw table (bytes_count (finished chosen.edition m) (combined_mask m) standing);
  mask = rw table (mask_within chosen.secure_avic s);
}
  where
    m : Rows
    m = rows_for chosen s

    table : (answer chosen s).table ≡ table_of (finished chosen.edition m) (combined_mask m)
    table = accepted_table chosen s e

    standing : (i : ℕ) → i < places → (finished chosen.edition m i).present ≡ stands (combined_mask m) i
    standing = row_stands chosen.edition m (rows_pass chosen s e)

pub single_page_refused : SinglePageRefused
single_page_refused chosen s n e = single_refused chosen.secure_avic s n (rows_pass chosen s e)
