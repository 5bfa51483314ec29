-- Examples: page sets with a nonzero reserved byte (document 02, P10), by computation.
use Rattle.std.specs.Prelude.{◌≡◌, true, List, [], ◌∷◌, ◌++◌, ℕ, replicate, Err, Ok}
use Rattle.std.proofs.Common.{sym}
use Rattle.x86defs.specs.Functions.{function}
use Rattle.pages.specs.Reserved.{all_clean}
use Rattle.table.specs.declared.Refusal.TheVariants.{PageCount, ReservedBytes}
use Rattle.table.specs.Edition.{known_edition}
use Rattle.collect.specs.Lawful.{lawful_verdict}
use Rattle.build.specs.Build.{edition_verdict, answer}
use Rattle.build.proofs.BuildLaws.{front_refused}
use Rattle.collect.proofs.LawfulLaws.{lawful_clean}
use Rattle.rise.specs.RiseProof.{accepted_lawful}
use Rattle.compare.specs.declared.Compared.TheVariants.{UnlawfulB}
use Rattle.compare.specs.Compare.{compared}
use Rattle.compare.proofs.CompareLaws.{unlawful_b}
use Rattle.page_sets.specs.PassLaws.{lawful_passed, verdict_passed}
use Rattle.page_sets.specs.Evaluation.{first_edition, passed}
use Rattle.page_sets.specs.PageSets.{word, page, required_entries, state_entries, server_a}
use Rattle.examples.specs.Computed.{server_a_accepted}

-- an entry of zeros but for its leaf and the last of its reserved bytes
abbrev unclean : ℕ → List ℕ
unclean leaf = word leaf ++ replicate 43 0 ++ (1 ∷ [])

-- server A with one such entry more on page 0, of a leaf that is filtered; it stands below the count where that is 23
unfoldable pub with_unclean : ℕ → List ℕ
with_unclean count = page count (required_entries 0x3ED83203 0x219C07A9 0x3F ++ unclean 0x40000000) ++ page 3 (state_entries 0x7 0x7 0)

unlawful : lawful_verdict (with_unclean 23) ≡ Err (ReservedBytes (function 0x40000000))
unfolding passed with_unclean
unlawful = lawful_passed (with_unclean 23)

pub filtered_refused : (answer first_edition (with_unclean 23)).verdict ≡ Err (ReservedBytes (function 0x40000000))
unfolding known_edition edition_verdict
filtered_refused = front_refused first_edition (with_unclean 23) unlawful

pub a_to_unclean : compared first_edition server_a (with_unclean 23) ≡ UnlawfulB (ReservedBytes (function 0x40000000))
a_to_unclean = sym (unlawful_b first_edition server_a (with_unclean 23) server_a_accepted unlawful)

-- "Bytes after the count and unused entries aren't tested"
pub unused_accepted : (answer first_edition (with_unclean 22)).verdict ≡ Ok tt
unfolding passed with_unclean
unused_accepted = verdict_passed first_edition (with_unclean 22)

-- before 3: no required leaf is there, and a Dh entry on page 0 does not count; the first of two is named
unfoldable pub two_unclean : List ℕ
two_unclean = page 2 (unclean 0xD ++ unclean 0x40000000)

pub two_refused : (answer first_edition two_unclean).verdict ≡ Err (ReservedBytes (function 0xD))
unfolding passed two_unclean
two_refused = verdict_passed first_edition two_unclean

-- after 2, of a later page
pub later_count_refused : (answer first_edition (two_unclean ++ page 65 [])).verdict ≡ Err PageCount
unfolding passed two_unclean
later_count_refused = verdict_passed first_edition (two_unclean ++ page 65 [])

-- server A is clean, so the reader gives its entries with zeros there
pub server_a_clean : all_clean server_a ≡ true
server_a_clean = lawful_clean server_a (accepted_lawful first_edition server_a server_a_accepted)
