-- The whole rise of a guest's answer, as GuestRisen.antt says it.
use Rattle.std.specs.Prelude.{ℕ}
use Rattle.table.specs.declared.Refusal.TheVariants.{CompactSizeTooLarge}
use Rattle.build.specs.Build.{rows_for, answer}
use Rattle.refusals.specs.Conditions.{Lacking, AreaFault}
use Rattle.rise.specs.Rise.{Outcome}
use Rattle.rise.specs.Rise.Outcome.{missing as three, overflow as five, accepted as neither}
use Rattle.rise.proofs.RiseProof.{demand_3}
use Rattle.guest.specs.GuestPages.{guest_pages}
use Rattle.guest.proofs.GuestPagesLaws.{building_first, refused_guest}
use Rattle.guest_rise.specs.GuestRise.{GuestOutcome}
use Rattle.guest_rise.specs.GuestRise.GuestOutcome.{given as gives, too_large as fourteen}
use Rattle.guest_rise.proofs.GuestRiseProof.{guest_rise}
use Rattle.guest_rise.specs.GuestRisen.{GuestRisen, GuestRiseAll}
use Rattle.guest_rise.specs.GuestRisen.GuestRisen.{missing, overflow, too_large, given}

pub guest_rises_all : GuestRiseAll
guest_rises_all chosen a b v rises isGiven = go (demand_3 chosen a b rises).outcome
  where
    on_table_lem : ((k : ℕ) → Lacking (rows_for chosen b) k → ⊥) → (AreaFault (rows_for chosen b) → ⊥)
        → GuestOutcome (guest_pages chosen a v).table (guest_pages chosen b v)
        → GuestRisen (rows_for chosen b) (guest_pages chosen a v).table (guest_pages chosen b v)
    on_table_lem n f (gives e t) = given n f e t
    on_table_lem n f (fourteen c e) = too_large n f c (refused_guest chosen b v CompactSizeTooLarge e)

    go : Outcome (rows_for chosen b) (answer chosen b).verdict → GuestRisen (rows_for chosen b) (guest_pages chosen a v).table (guest_pages chosen b v)
    go (three k f e) = missing k f (building_first chosen b v _ e)
    go (five n f e) = overflow n f (building_first chosen b v _ e)
    go (neither n f e) = on_table_lem n f (guest_rise chosen a b v rises e isGiven)
