-- A guest's life: what a check inside it tells of its table, where its save areas lie, and what stays along moves and carries.
-- `answer chosen s` is the answer of the definition (crates/build/specs/Build.antt) to the page bytes s under what the caller chooses, `guest_pages
-- chosen s v` what processor v's guest is given of it (crates/guest/specs/GuestPages.antt).
use Rattle.std.specs.Prelude.{◌≡◌, [], ◌∷◌}
use Rattle.table.specs.declared.CpuidResults.{CpuidResults}
use Rattle.build.specs.Build.{answer}
use Rattle.carry.specs.Carry.{carry}
use Rattle.guest.specs.Guest.{guest_answer}
use Rattle.guest.specs.GuestPages.{guest_pages}
use Rattle.rise.specs.Rise.{TableRises}
use Rattle.page_sets.specs.PageSets.{server_a, server_b, server_w}
use Rattle.page_sets.specs.Evaluation.{first_edition}
use Rattle.images.specs.CarriedRows.{own_ymm}
use Rattle.guest_life.specs.ViewsTell.{TablesAgree, SameView, ViewsTell, AgreeGives}
use Rattle.guest_life.proofs.ViewsTellProof as Views
use Rattle.guest_life.specs.CarriedOrder.{latest}
use Rattle.guest_life.specs.SaveAreas.{StandardForm, CompactedForm, SaveAreas, AreasStay}
use Rattle.guest_life.proofs.SaveAreasProof as Areas
use Rattle.guest_life.specs.Life.{Life, LifeOutcome, lost_bit, LifeShows, KeptLifeShows, LifeComesBack, EndsSeeTheSame, LivesSeeTheSame}
use Rattle.guest_life.specs.LifeProof as Lives
use Rattle.guest_life.proofs.LifeProof as LivesLaws
use Rattle.guest_life.proofs.LifeRises as LivesRise
use Rattle.examples.specs.WithoutYmm.{without_ymm}
use Rattle.examples.specs.WithoutYmmMoved.{running}
use Rattle.examples.specs.Views.{view_a}
use Rattle.examples.specs.Lives as Examples
use Rattle.examples.specs.Lives.{server_a_elsewhere, view_b, view_w, numbers}

-- ---- what a view tells. crates/guest_life/specs/ViewsTell.antt

-- one processor's views of two accepted page sets' tables are equal row for row if and only if the tables agree in all but 1.EBX bits 24 to 31, 1.ECX
-- bit 27, D.0.EBX and D.1.EBX; and tables that agree so give the same states
pub views_tell_tables : ViewsTell
views_tell_tables = Views.views_tell_tables

pub agreeing_tables_give : AgreeGives
agreeing_tables_give = Views.agree_gives

-- ---- save areas. crates/guest_life/specs/SaveAreas.antt

-- every enabled component lies within D.0.EBX bytes, and these within D.0.ECX; in the compacted form components stand apart, in order, within D.1.EBX
pub save_areas_suffice : SaveAreas
save_areas_suffice = Areas.save_areas

-- on a server that A rises to, each component and both sizes are A's
pub save_areas_stay : AreasStay
save_areas_stay = Areas.areas_stay

-- ---- moves and carries. crates/guest_life/specs/Life.antt

-- along any life a table rises from what carrying the first one gives
pub life_rises : {t w : CpuidResults} → Life t w → TableRises (latest t) w
life_rises = LivesRise.life_rises

-- whatever was found at an exit is found, feature bits still shown but for carry's three, both sizes and every other register equal, as demand 3
-- compares
pub life_shows : LifeShows
life_shows = LivesLaws.life_shows

-- the same of the table that a caller keeps
pub kept_life_shows : KeptLifeShows
kept_life_shows = LivesLaws.kept_life_shows

-- a life that comes back: the tables on its way differ from the first in no more than the three bits
pub life_comes_back : LifeComesBack
life_comes_back = LivesLaws.life_comes_back

-- tables with the rows of one table show the same, and so do two lives that come back to one
pub ends_see_the_same : EndsSeeTheSame
ends_see_the_same = LivesLaws.ends_see_the_same

pub lives_see_the_same : LivesSeeTheSame
lives_see_the_same = LivesLaws.lives_see_the_same

-- Examples. crates/examples/specs/Lives.antt: server A with the entry of leaf 1 as another processor gives it, which A's guest cannot tell from A
pub elsewhere_differs : numbers (answer first_edition server_a_elsewhere).table ≡ 0x7F010000 ∷ 0xB6D83203 ∷ []
elsewhere_differs = Examples.elsewhere_numbers

pub a_has : numbers (answer first_edition server_a).table ≡ 0x10000 ∷ 0xBED83203 ∷ []
a_has = Examples.a_numbers

pub elsewhere_seen : SameView (guest_pages first_edition server_a view_a).table (guest_pages first_edition server_a_elsewhere view_a).table
elsewhere_seen = Examples.views_alike

pub elsewhere_agrees : TablesAgree (answer first_edition server_a).table (answer first_edition server_a_elsewhere).table
elsewhere_agrees = Examples.alike_agree

-- server B's guest with all of its state
pub areas_of_b : StandardForm (guest_pages first_edition server_b view_b).table 0xE7
areas_of_b = Examples.b_standard

pub compacted_areas_of_b : CompactedForm (guest_pages first_edition server_b view_b).table 0x18E7
compacted_areas_of_b = Examples.b_compacted

-- a guest of server W that moves to A and to B, and is carried there; and one that loses F16C, XOP and FMA4
pub a_long_life : LifeOutcome (lost_bit (own_ymm (answer first_edition server_w).table)) (guest_pages first_edition server_w view_w).table
    (guest_answer (carry (answer first_edition server_b).table 1 2 0x3 0).table view_w)
a_long_life = Examples.long_life_shows

pub a_losing_life : LifeOutcome (lost_bit (own_ymm running)) (guest_pages first_edition without_ymm view_w).table
    (guest_answer (carry running 1 2 3 0).table view_w)
a_losing_life = Examples.losing_life_shows
