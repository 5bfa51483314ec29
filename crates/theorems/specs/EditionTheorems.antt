-- The two editions of the AVX rule, and a running table taken from one to the other.
-- `answer chosen s` is the answer of the definition (crates/build/specs/Build.antt) to the page bytes s under what the caller chooses.
use Rattle.std.specs.Prelude.{◌≡◌, List, [], ◌∷◌, ℕ, ◌+◌, ◌^◌, Err, Ok}
use Rattle.table.specs.declared.Choices.{Choices}
use Rattle.table.specs.declared.Refusal.TheVariants.{UnknownEdition, EditionBack, StateBeyondTable}
use Rattle.table.specs.declared.CpuidResults.{CpuidResults}
use Rattle.table.specs.Table.{empty_table}
use Rattle.build.specs.Build.{answer, under_edition}
use Rattle.rise.specs.Rise.{RiseTo, TableRises, SecondToFirst}
use Rattle.rise.proofs.RiseProof.{second_to_first_rises}
use Rattle.examples.specs.SeenExamples.{figures}
use Rattle.finish.specs.Finish.{ymm_clears}
use Rattle.finish.specs.FinishLaws.{figures as clears, ymm_figures, ymm_figures_2}
use Rattle.rise.specs.Second.{SecondEdition, FirstEdition}
use Rattle.rise.proofs.SecondProof as Editions
use Rattle.examples.specs.WithoutYmm as WithoutYmm
use Rattle.carry.specs.Carry.{carry}
use Rattle.carry.specs.AbsentRows as AbsentRows
use Rattle.images.specs.Carried.{CarryKeeps, CarriesInPlace}
use Rattle.images.specs.CarriedLaws.{carry_keeps, carries_in_place}
use Rattle.images.specs.CarriedRows as CarriedRows
use Rattle.images.specs.CarriedRowsProof as CarriedRowsProof
use Rattle.images.proofs.CarriedRowsProof as CarriedRowsProofLaws
use Rattle.images.specs.ReadBack.{ImageReadsBack, BuiltReadsBack, OnlyImagesRead}
use Rattle.images.specs.ReadBackProof as ReadBack
use Rattle.images.proofs.ReadBackProof as ReadBackLaws
use Rattle.images.specs.Moves.{MovesToSecond}
use Rattle.images.proofs.MovesProof.{moves_to_second}
use Rattle.images.specs.CarryExactly.{CarryExactly}
use Rattle.images.specs.CarryExactlyProof.{carry_exactly}
use Rattle.examples.specs.WithoutYmmMoved as Moved
use Rattle.page_sets.specs.Evaluation.{first_edition}

-- ---- P7, edition 2 of the AVX rule. crates/finish/specs/Finish.antt has the clears of each edition, crates/rise/specs/Second.antt the
-- statements. All that is said above and below of `chosen` is said for any edition, the same for A and B, in one argument.

-- the bits cleared where XFEM lacks bit 2, of 1.ECX, 7.0.EBX, 7.0.ECX and 80000001h.ECX, in edition 1 and in edition 2
pub edition_1_clears : clears (ymm_clears 1) ≡ 0x10001000 ∷ 0x20 ∷ 0x700 ∷ 0 ∷ []
edition_1_clears = ymm_figures

pub edition_2_clears : clears (ymm_clears 2) ≡ (0x10001000 + 2 ^ 29) ∷ 0x20 ∷ 0x700 ∷ (2 ^ 11 + 2 ^ 16) ∷ []
edition_2_clears = ymm_figures_2

-- edition 1 is document 01's rule: 80000001h.ECX stays as masked
pub edition_1_leaves_80000001h : FirstEdition
edition_1_leaves_80000001h = Editions.first_edition_lem

-- edition 2 refuses what edition 1 refuses, and its table is edition 1's with exactly the three bits cleared where XFEM lacks bit 2
pub edition_2_clears_three_bits : (chosen : Choices) (s : List ℕ) → SecondEdition chosen s
edition_2_clears_three_bits = Editions.second_edition

-- from edition 2 to edition 1 is a rise, from any A to any B that demand 3's hypothesis allows
pub rise_from_2_to_1 : SecondToFirst
rise_from_2_to_1 = second_to_first_rises

-- Examples: a server without YMM state whose entries have the three bits, its 1.ECX and 80000001h.ECX under each edition, the rise from 2 to
-- 1, and none from 1 to 2. crates/examples/specs/WithoutYmm.antt
pub without_ymm_accepted : (answer (under_edition 2) WithoutYmm.without_ymm).verdict ≡ Ok tt
without_ymm_accepted = WithoutYmm.second_accepted

pub without_ymm_1 : WithoutYmm.figures first_edition ≡ 0xAED82203 ∷ 0x4109F3 ∷ []
without_ymm_1 = WithoutYmm.first_figures

pub without_ymm_2 : WithoutYmm.figures (under_edition 2) ≡ 0x8ED82203 ∷ 0x4001F3 ∷ []
without_ymm_2 = WithoutYmm.second_figures

pub without_ymm_2_to_1 : RiseTo (under_edition 2) first_edition WithoutYmm.without_ymm WithoutYmm.without_ymm
without_ymm_2_to_1 = WithoutYmm.from_second

pub no_rise_from_1_to_2 : TableRises (answer first_edition WithoutYmm.without_ymm).table (answer (under_edition 2) WithoutYmm.without_ymm).table → ⊥
no_rise_from_1_to_2 = WithoutYmm.not_from_first

pub no_such_edition : (answer (under_edition 3) []).verdict ≡ Err UnknownEdition
no_such_edition = WithoutYmm.unknown_refused

-- ---- P8, moving a live guest to edition 2. crates/carry/specs/Carry.antt has the table that is carried and the answers,
-- crates/carry/specs/CarryImage.antt the same of a table handed over as its image, in place.

-- 15, 16, 13, 14 and the carried table, of any table: each if and only if its condition holds and no earlier one does
pub each_carry_exactly : (t : CpuidResults) (from to xcr0 xss : ℕ) → CarryExactly t from to xcr0 xss
each_carry_exactly = carry_exactly

-- a table that building made under edition 1 becomes what edition 2 makes of the same pages, whole, also as an image; both save sizes stay.
-- crates/images/specs/Moves.antt
pub moves_to_edition_2 : MovesToSecond
moves_to_edition_2 = moves_to_second

-- of any table: every other row, which rows are there, the count, the mask and both save sizes stay; within one edition the whole table.
-- crates/images/specs/Carried.antt
pub carrying_changes_nothing_else : CarryKeeps
carrying_changes_nothing_else = carry_keeps

-- of any table from 1 to 2: rows 1 and 80000001h lose exactly the three bits where its own D.0.EAX lacks bit 2, absent rows reading as zeros, and
-- every other row is as it was. crates/images/specs/CarriedRows.antt; `without_ymm_moved` below meets it
pub carrying_clears_exactly : CarriedRows.CarriesRows
carrying_clears_exactly = CarriedRowsProofLaws.carries_rows

-- in place, within one edition: no lent byte changes, whatever is answered. Any slice of bytes meets it; of a list with a larger element it is false
-- (crates/examples/specs/NoByteExamples.antt)
pub carried_in_place_within : CarriedRows.StaysWithin
carried_in_place_within = CarriedRowsProof.stays_within

-- lent bytes that are an image become the carried table's, as many as before
pub carried_in_place : CarriesInPlace
carried_in_place = carries_in_place

-- an image is read back as the table that it was written of, and nothing else is taken for one. crates/images/specs/ReadBack.antt
pub images_read_back : ImageReadsBack
images_read_back = ReadBackLaws.image_reads_back

pub built_images_read_back : BuiltReadsBack
built_images_read_back = ReadBackLaws.built_reads_back

pub only_images_are_read : OnlyImagesRead
only_images_are_read = ReadBackLaws.only_images_read

-- Examples: the server without YMM state moved, with its 1.ECX and 80000001h.ECX; a processor beyond it; 16 and 15.
-- crates/examples/specs/WithoutYmmMoved.antt
pub without_ymm_moved : (carry Moved.running 1 2 3 0).verdict ≡ Ok tt
without_ymm_moved = Moved.moved

pub without_ymm_moved_figures : Moved.figures (carry Moved.running 1 2 3 0).table ≡ 0x8ED82203 ∷ 0x4001F3 ∷ []
without_ymm_moved_figures = Moved.moved_figures

pub without_ymm_beyond : (carry Moved.running 1 2 7 0).verdict ≡ Err StateBeyondTable
without_ymm_beyond = Moved.beyond

pub no_way_back : (carry empty_table 2 1 0 0).verdict ≡ Err EditionBack
no_way_back = Moved.goes_back

pub no_such_edition_to_carry : (carry empty_table 3 1 0 0).verdict ≡ Err UnknownEdition
no_such_edition_to_carry = Moved.no_such

-- absent rows read as zeros: a table without a row and one with D.0 alone, whose other registers are all ones. 13; 13 for a bit of XSS; given.
-- crates/carry/specs/AbsentRows.antt
pub absent_rows_as_zeros : AbsentRows.verdicts ≡ Err StateBeyondTable ∷ Err StateBeyondTable ∷ (Ok tt) ∷ []
absent_rows_as_zeros = AbsentRows.absent_as_zeros
