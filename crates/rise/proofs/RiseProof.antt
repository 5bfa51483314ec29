-- Demand 3 over page bytes: the rise of masked first entries, carried to the answers.
use Rattle.std.specs.Prelude.{refl}
use Rattle.table.specs.Edition.{known_edition}
use Rattle.finish.specs.FeatureLaws.{clears_same, second_to_first}
use Rattle.build.specs.Build.{edition_verdict}
use Rattle.rise.specs.Rise.{Demand3, Demand3ByTheLetter, SecondToFirst}
use Rattle.rise.specs.RiseProof.{accepted_edition, letter_rises, risen}

pub demand_3 : Demand3
demand_3 chosen a b rises = risen chosen chosen.edition (accepted_edition chosen a rises.accepted) (clears_same refl) a b rises

pub second_to_first_rises : SecondToFirst
unfolding edition_verdict known_edition
second_to_first_rises chosen a b e rises = risen chosen 1 refl (rw e second_to_first) a b rises

pub demand_3_by_the_letter : Demand3ByTheLetter
demand_3_by_the_letter chosen a b rises = demand_3 chosen a b (letter_rises chosen a b rises)
