-- Where each row came from.
-- `answer chosen s` is the answer of the definition (crates/build/specs/Build.antt) to the page bytes s under what the caller chooses.
use Rattle.std.specs.Prelude.{◌≡◌, List, ℕ, ◌<◌, replicate, Err, Ok}
use Rattle.table.specs.declared.Choices.{Choices}
use Rattle.table.specs.declared.Refusal.{Refusal}
use Rattle.pages.specs.Entries.{counted}
use Rattle.masking.specs.Kept.{places}
use Rattle.masking.specs.Place
use Rattle.build.specs.Build.{answer, origin_at}
use Rattle.theorems.specs.Exported.{FoundOrigins}
use Rattle.theorems.specs.ExportedProof.{found_origins_lem}
use Rattle.theorems.specs.GuestExported.{GuestOrigins}
use Rattle.theorems.specs.GuestExportedProof.{guest_origins}
use Rattle.theorems.specs.PoolExported.{PoolOrigins}
use Rattle.theorems.specs.PoolExportedProof.{pool_origins}
use Rattle.memory.specs.Origin.Origin.{made_here, entry}
use Rattle.collect.specs.FirstEntryOrigin.{stands_at}
use Rattle.rise.specs.Located.{ComesFrom, Origins}
use Rattle.rise.specs.LocatedProof.{refused_has_none}
use Rattle.rise.proofs.LocatedProof.{rows_come_from, rows_have_origins}
use Rattle.examples.specs.Origins as Origin
use Rattle.page_sets.specs.Evaluation.{first_edition}

-- ---- P11, where a row came from

-- crates/memory/specs/Origin.antt has the three cases and their numbers, crates/build/specs/Build.antt `origin_at`, the origin of a row of the table
-- that an answer holds, crates/rise/specs/Located.antt these statements. Sameness in demand 3 and P2 is
-- `SameButOrigins`; P9's answers are the same with origins, and those of P7's two editions have the same origins, so that carrying (P8) leaves them.

-- a row with an origin on a page: the entry there is the first counted one of its leaf and subleaf, and masking and finishing it gives the row
pub each_row_comes_from_its_entry : (chosen : Choices) (s : List ℕ) → (answer chosen s).verdict ≡ Ok tt → (i p q : ℕ) → i < places
    → origin_at chosen s i ≡ entry p q → ComesFrom chosen s i p q
each_row_comes_from_its_entry = rows_come_from

-- 0, 80000000h, B.0 and B.1 are made here, a row that is not there has no origin, every other has an entry; and the numbers that an answer holds say
-- it
pub each_row_has_its_origin : (chosen : Choices) (s : List ℕ) → (answer chosen s).verdict ≡ Ok tt → (i : ℕ) → i < places → Origins chosen s i
each_row_has_its_origin = rows_have_origins

-- a refused table has none
pub refused_has_no_origins : (chosen : Choices) (s : List ℕ) (r : Refusal) → (answer chosen s).verdict ≡ Err r
    → (answer chosen s).origins ≡ replicate places 0
refused_has_no_origins = refused_has_none

-- the same of what the exported lookup returns. crates/theorems/specs/Exported.antt
pub exports_tell_origins : FoundOrigins
exports_tell_origins = found_origins_lem

-- with a row that is found, the guest's lookup tells the paravisor's row's origin, and the pool's the first server's row's.
-- crates/theorems/specs/GuestExported.antt, PoolExported.antt. What they tell is `origin_at`, with figures below.
pub guest_exports_tell_origins : GuestOrigins
guest_exports_tell_origins = guest_origins

pub pool_exports_tell_origins : PoolOrigins
pool_exports_tell_origins = pool_origins

-- Examples: of two entries for leaf 1 the first is told; of two for D.0 that of page 1, counted from that page's beginning; B.0 is made here although
-- it has an entry. crates/examples/specs/Origins.antt
pub leaf_1_of_the_first : origin_at first_edition Origin.repeated Place.version_and_features ≡ entry 0 1
leaf_1_of_the_first = Origin.first_leaf_1

pub d0_of_page_1 : origin_at first_edition Origin.repeated (Place.extended_state 0) ≡ entry 1 0
d0_of_page_1 = Origin.d0_on_page_1

pub b0_made_here : (stands_at Place.thread_level (counted Origin.repeated) ≡ entry 0 4) × (origin_at first_edition Origin.repeated Place.thread_level ≡ made_here)
b0_made_here = Origin.b0_made_here
