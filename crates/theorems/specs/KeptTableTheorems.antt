-- The table that a caller keeps: what the functions over a kept table answer is what those from pages answer, where building accepted the pages.
-- `TableIn (answer chosen s) w o` says that the memory, registers w and origins o, is what building left of the pages s.
-- crates/build/specs/Build.antt. WithoutRows.antt has what they answer after a refusal.
use Rattle.std.specs.Prelude.{◌≡◌, refl, Bool, false, List, ℕ, Ok, Option}
use Rattle.std.proofs.Common.{sym, ap, ap₂, ◌∙◌}
use Rattle.x86defs.specs.declared.CpuidFunction.{CpuidFunction}
use Rattle.table.specs.declared.Choices.{Choices}
use Rattle.table.specs.declared.CpuidResults.{CpuidResults}
use Rattle.table.specs.Table.{row_in}
use Rattle.memory.specs.Memory.{layout}
use Rattle.memory.specs.Held.{held_in}
use Rattle.build.specs.Build.{under_edition, answer, TableIn}
use Rattle.buffer.specs.Front.{write_front, write_verdict}
use Rattle.image.specs.Image.{image}
use Rattle.image.specs.Write.{write}
use Rattle.kvm_export.specs.Export.{list_of, write_list}
use Rattle.guest_state.specs.InUse.{read_rows, in_use}
use Rattle.lookup.specs.Lookup.{found}
use Rattle.guest.specs.declared.Processor.{Processor}
use Rattle.guest.specs.Guest.{guest_answer}
use Rattle.guest.specs.Seen.{table_with, guest_found_in}
use Rattle.guest.specs.FindLaws as FindLaws
use Rattle.guest.specs.GuestPages.{guest_pages}
use Rattle.guest.proofs.FromMemory.{guest_from_memory}
use Rattle.pool.specs.declared.Pooled.{Pooled}
use Rattle.pool.specs.Pool.{pooled}
use Rattle.rise.specs.Rise.{TableRises}
use Rattle.rise.specs.Preorder.{SameRows}
use Rattle.compare.specs.declared.search.RowsCompared.TheVariants.{Rises}
use Rattle.compare.specs.RowsCompared.{compared_tables}
use Rattle.compare.specs.TablesMean.{DecidesTables}
use Rattle.compare.proofs.TablesDecideProof.{decides}
use Rattle.images.specs.TablesMoved.{CompareAgrees, ImagesAgree, BuiltBack, AnyBack, MaskFollows}
use Rattle.images.specs.TablesMovedProof as Moved
use Rattle.images.proofs.TablesMovedProof as MovedLaws
use Rattle.images.proofs.AnyMemory as AnyMemory
use Rattle.images.specs.MaskFollows as Masks
use Rattle.images.specs.TableOrderProof as Order
use Rattle.images.specs.BuiltIn as BuiltIn
use Rattle.images.specs.SecondInMemory.{SecondInMemory}
use Rattle.images.proofs.SecondInMemory.{second_in_memory}
use Rattle.answers.specs.Answers.{found_at}
use Rattle.snp_cpuid.specs.Exports.{found_in}
use Rattle.snp_cpuid.specs.PoolExports.{pooled_found, PooledIn}
use Rattle.page_sets.specs.PageSets.{server_a, server_b}
use Rattle.theorems.specs.BuildingTheorems.{a_accepted, b_accepted, b_rises}
use Rattle.theorems.specs.RiseTheorems.{rise}
use Rattle.table.specs.Verdict.{Verdict}

-- what is found in a kept table is what the lookup from pages finds, its origin too
pub kept_find : (chosen : Choices) (s w o : List ℕ) → TableIn (answer chosen s) w o → (leaf : ℕ) (subleaf : Option ℕ) (enforce : Bool)
    → found_at (held_in w o) o leaf subleaf enforce ≡ found_in (answer chosen s) leaf subleaf enforce
kept_find chosen s w o k leaf subleaf enforce =
    ap₂ (λ (t : CpuidResults) (p : List ℕ). found_at t p leaf subleaf enforce) k.table k.origins

-- the same of what a processor's guest reads, 13 and 14 too. crates/guest/proofs/FromMemory.antt
pub kept_guest_find : (chosen : Choices) (s w o : List ℕ) → TableIn (answer chosen s) w o → (answer chosen s).verdict ≡ Ok tt
    → (v : Processor) (leaf : CpuidFunction) (subleaf : Option ℕ) (enforce : Bool)
    → guest_found_in (guest_answer (held_in w o) v) o leaf subleaf enforce ≡ guest_found_in (guest_pages chosen s v) (answer chosen s).origins leaf subleaf enforce
kept_guest_find chosen s w o k e v leaf subleaf enforce = guest_from_memory chosen s v leaf subleaf enforce k e

-- with the size that the state's check gave, which a caller keeps while XCR0 and XSS stay, the guest reads the same; of memory of any content.
-- crates/guest/specs/FindLaws.antt
pub kept_size : (w o : List ℕ) (v : Processor) (n : ℕ) → in_use (read_rows false w o) v.xcr0 v.xss ≡ Ok n
    → (leaf : CpuidFunction) (subleaf : Option ℕ) (enforce : Bool)
    → Ok (found (table_with (held_in w o) v n) o leaf subleaf enforce) ≡ guest_found_in (guest_answer (held_in w o) v) o leaf subleaf enforce
kept_size w o v n e leaf subleaf enforce = FindLaws.kept_found w o v refl leaf subleaf enforce e

-- the image and the list of a kept table are those from pages
pub kept_image : (chosen : Choices) (s w o : List ℕ) → TableIn (answer chosen s) w o → (answer chosen s).verdict ≡ Ok tt → (buffer : List ℕ)
    → write_front (image (held_in w o)) buffer ≡ write chosen s buffer
unfolding write
kept_image chosen s w o k e buffer =
    ap (λ (t : CpuidResults). write_front (image t) buffer) k.table
    ∙ ap (λ (v : Verdict). write_verdict v (image (answer chosen s).table) buffer) (sym e)

pub kept_list : (chosen : Choices) (s w o : List ℕ) → TableIn (answer chosen s) w o → (answer chosen s).verdict ≡ Ok tt → (buffer : List ℕ)
    → write_front (list_of (held_in w o)) buffer ≡ write_list chosen s buffer
unfolding write_list
kept_list chosen s w o k e buffer =
    ap (λ (t : CpuidResults). write_front (list_of t) buffer) k.table
    ∙ ap (λ (v : Verdict). write_verdict v (list_of (answer chosen s).table) buffer) (sym e)

-- what is found in a pool's kept table is what the pool's lookup finds
pub kept_pool_find : (chosen : Choices) (pages lengths w o : List ℕ) → PooledIn (pooled chosen pages lengths) w o
    → (leaf : ℕ) (subleaf : Option ℕ) (enforce : Bool)
    → found_at (held_in w o) o leaf subleaf enforce ≡ pooled_found (pooled chosen pages lengths) leaf subleaf enforce
kept_pool_find chosen pages lengths w o k leaf subleaf enforce =
    ap₂ (λ (t : CpuidResults) (p : List ℕ). found_at t p leaf subleaf enforce) k.table k.origins

-- a table built under edition 1 and carried is the one that edition 2 builds of the pages, every word and origin.
-- crates/images/specs/SecondInMemory.antt
pub kept_carried : SecondInMemory
kept_carried = second_in_memory

-- a kept table's image, read back, is the same table except for origins; of any memory the rows that are there come back, and nothing else.
-- crates/images/specs/TablesMoved.antt
pub kept_read_back : BuiltBack
kept_read_back = MovedLaws.built_reads

pub any_read_back : AnyBack
any_read_back = AnyMemory.any_back

-- comparing two tables decides `TableRises`, for tables of any content: yes if and only if it holds, else the first thing that fails.
-- crates/compare/specs/TablesMean.antt
pub tables_decided : (a b : CpuidResults) → DecidesTables a b (compared_tables a b)
tables_decided = decides

-- it orders tables: each is at least itself, moves compose, and both ways means the same rows
pub tables_compare_to_themselves : (t : CpuidResults) → compared_tables t t ≡ Rises
tables_compare_to_themselves = Order.compared_itself

pub tables_compose : (t u v : CpuidResults) → compared_tables t u ≡ Rises → compared_tables u v ≡ Rises → compared_tables t v ≡ Rises
tables_compose = Order.compared_compose

pub tables_both_ways : (t u : CpuidResults) → compared_tables t u ≡ Rises → compared_tables u t ≡ Rises → SameRows t u
tables_both_ways = Order.compared_both

-- where the comparison of pages says yes and B is accepted, the comparison of the two kept tables says yes; also of tables read from images
pub tables_agree_with_pages : CompareAgrees
tables_agree_with_pages = Moved.compare_agrees

pub images_agree_with_pages : ImagesAgree
images_agree_with_pages = MovedLaws.images_agree

-- of a first table whose absent rows are zeros, as of any that was built or read, the masks are never what fails
pub masks_follow : MaskFollows
masks_follow = Masks.mask_follows

-- Examples: every accepted page set has its table in memory (crates/images/specs/BuiltIn.antt), server A's for one; it is at least itself, and
-- server B's is at least it
pub accepted_kept : (chosen : Choices) (s : List ℕ) → (answer chosen s).verdict ≡ Ok tt
    → TableIn (answer chosen s) (layout (λ i. (row_in (answer chosen s).table i).result)) (answer chosen s).origins
accepted_kept = BuiltIn.built_in

pub a_kept : TableIn (answer (under_edition 1) server_a) (layout (λ i. (row_in (answer (under_edition 1) server_a).table i).result))
    (answer (under_edition 1) server_a).origins
a_kept = accepted_kept (under_edition 1) server_a a_accepted

pub a_found_whole : (leaf : ℕ) (subleaf : Option ℕ) (enforce : Bool)
    → found_at (held_in (layout (λ i. (row_in (answer (under_edition 1) server_a).table i).result)) (answer (under_edition 1) server_a).origins)
    (answer (under_edition 1) server_a).origins leaf subleaf enforce
    ≡ found_in (answer (under_edition 1) server_a) leaf subleaf enforce
a_found_whole = kept_find (under_edition 1) server_a _ _ a_kept

pub b_is_at_least_a : compared_tables (answer (under_edition 1) server_a).table (answer (under_edition 1) server_b).table ≡ Rises
b_is_at_least_a = (tables_decided _ _).complete ((rise (under_edition 1) server_a server_b b_rises).table b_accepted)
