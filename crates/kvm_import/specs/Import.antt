-- Document 02, P2: "Read such a list into two pages .. Lent bytes beyond .. the two pages stay. Reading gives: 10 length under 8 or not
-- 8 + 40 × count, then 12 a flag other than 0 or 1 or a nonzero padding word, the head's zero word included, then 11 more than 64 rows for one
-- page, then 9 fewer than 8,192 lent bytes."
use Rattle.std.specs.Prelude.{List, ℕ, Err, Ok}
use Rattle.bits.specs.Choice.{pick}
use Rattle.table.specs.declared.Refusal.TheVariants.{ListLength, ListRows, ListFields}
use Rattle.buffer.specs.Front.{AfterWrite, write_verdict}
use Rattle.kvm_list.specs.Format.{rows_listed}
use Rattle.kvm_import.specs.ListChecks.{bad_list_length, fields_lawful, rows_fit}
use Rattle.kvm_import.specs.ListPages.{pages_of}
use Rattle.table.specs.Verdict.{Verdict}

-- 10, then 12, then 11
unfoldable pub list_verdict : List ℕ → Verdict
list_verdict l =
    pick (bad_list_length l) (Err ListLength)
    (pick (fields_lawful l) (pick (rows_fit (rows_listed l)) (Ok tt) (Err ListRows)) (Err ListFields))

-- 9 comes last: two pages are 8,192 bytes
unfoldable pub read_list : List ℕ → List ℕ → AfterWrite
read_list l buffer = write_verdict (list_verdict l) (pages_of (rows_listed l)) buffer
