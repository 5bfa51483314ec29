-- Lawful pages: document 01's refusals 1 and 2, then document 02's 17. s is the list of the page bytes.
use Rattle.std.specs.Prelude.{not, List, ℕ, Err, Ok, Result}
use Rattle.pages.specs.Layout.{bad_length, counts_fit}
use Rattle.pages.specs.Reserved.{reserved_of}
use Rattle.table.specs.declared.Refusal.TheVariants.{PagesLength, PageCount, ReservedBytes}
use Rattle.table.specs.Refusal.{and_then}
use Rattle.checks.specs.Checks.{refuse_unless}
use Rattle.table.specs.Verdict.{Verdict}
use Rattle.x86defs.specs.declared.CpuidFunction.{CpuidFunction}

-- 1, then 2
unfoldable pub length_verdict : List ℕ → Verdict
length_verdict s = refuse_unless (not (bad_length s)) PagesLength

unfoldable pub counts_verdict : List ℕ → Verdict
counts_verdict s = refuse_unless (counts_fit s) PageCount

-- document 02, P10: "17 a nonzero reserved byte in an entry below its page's count, naming leaf EAX_IN with no subleaf, first in page and entry
-- order, after 2 and before 3"
abbrev pub clean_verdict : Result Unit CpuidFunction → Verdict
clean_verdict (Ok _) = Ok tt
clean_verdict (Err leaf) = Err (ReservedBytes leaf)

unfoldable pub reserved_verdict : List ℕ → Verdict
reserved_verdict s = clean_verdict (reserved_of s)

-- "Length and counts are lawful where neither 1 nor 2 applies"; and P10: "the pages .. of servers A and B must be clean"
unfoldable pub lawful_verdict : List ℕ → Verdict
lawful_verdict s = and_then (length_verdict s) (and_then (counts_verdict s) (reserved_verdict s))
