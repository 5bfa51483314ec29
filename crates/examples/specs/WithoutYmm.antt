-- Examples: a server without YMM state (XFEM 3) whose entries have F16C, XOP and FMA4, under both editions, by computation.
use Rattle.std.specs.Prelude.{◌≡◌, refl, List, [], ◌∷◌, ◌++◌, ℕ, Err, Ok}
use Rattle.std.proofs.Common.{ap, subst₂, arith, lit<}
use Rattle.bits.specs.Bits.{bit, Within}
use Rattle.masking.specs.Place
use Rattle.table.specs.declared.Choices.{Choices}
use Rattle.table.specs.declared.CpuidResults.{CpuidResults}
use Rattle.table.specs.declared.Refusal.TheVariants.{UnknownEdition}
use Rattle.table.specs.Edition.{known_edition}
use Rattle.table.specs.Table.{row_in}
use Rattle.build.specs.Build.{edition_verdict, under_edition, verdict_of, answer}
use Rattle.rise.specs.Rise.{RiseTo, TableRises}
use Rattle.rise.proofs.RiseProof.{second_to_first_rises}
use Rattle.rise.specs.SameProof.{rises_itself}
use Rattle.page_sets.specs.PassLaws.{verdict_passed, table_passed}
use Rattle.page_sets.specs.Evaluation.{first_edition, passed}
use Rattle.page_sets.specs.PageSets.{entry, page, required_entries}

abbrev pub second : Choices
second = under_edition 2

-- its first entry of 80000001h has XOP and FMA4
unfoldable pub without_ymm : List ℕ
without_ymm =
    page 23 (entry 0x80000001 0 0xA00F11 0x40000000 0x410BF3 0x2FD3FBFF ++ required_entries 0x3ED83203 0x219C07A9 0x3F)
    ++ page 2 (entry 0xD 0 0x3 0x340 0x340 0 ++ entry 0xD 1 0x7 0x340 0 0)

pub first_accepted : (answer first_edition without_ymm).verdict ≡ Ok tt
unfolding passed without_ymm
first_accepted = verdict_passed first_edition without_ymm

pub second_accepted : (answer second without_ymm).verdict ≡ Ok tt
unfolding passed without_ymm
second_accepted = verdict_passed second without_ymm

-- 1.ECX and 80000001h.ECX
abbrev ecx_of : CpuidResults → List ℕ
ecx_of t = (row_in t Place.version_and_features).result.ecx ∷ (row_in t Place.extended_version_and_features).result.ecx ∷ []

abbrev pub figures : Choices → List ℕ
figures chosen = ecx_of (answer chosen without_ymm).table

pub first_figures : figures first_edition ≡ 0xAED82203 ∷ 0x4109F3 ∷ []
unfolding passed without_ymm
first_figures = ap ecx_of (table_passed first_edition without_ymm first_accepted)

pub second_figures : figures second ≡ 0x8ED82203 ∷ 0x4001F3 ∷ []
unfolding passed without_ymm
second_figures = ap ecx_of (table_passed second without_ymm second_accepted)

-- from edition 2 to edition 1 is a rise
pub from_second : RiseTo second first_edition without_ymm without_ymm
from_second = second_to_first_rises second without_ymm without_ymm refl (rises_itself second without_ymm second_accepted)

-- from edition 1 to edition 2 is none: F16C is gone
f16c_gone : Within 0xAED82203 0x8ED82203 → ⊥
unfolding bit
f16c_gone w = omega (arith, w.at 29)

pub not_from_first : TableRises (answer first_edition without_ymm).table (answer second without_ymm).table → ⊥
unfolding passed without_ymm
not_from_first t =
    let u = subst₂ TableRises (table_passed first_edition without_ymm first_accepted) (table_passed second without_ymm second_accepted) t in
    f16c_gone (u.registers Place.version_and_features (lit< tt) refl).ecx

-- there is no edition 3, also of no pages at all
pub unknown_refused : (answer (under_edition 3) []).verdict ≡ Err UnknownEdition
unfolding answer verdict_of edition_verdict known_edition
unknown_refused = refl
