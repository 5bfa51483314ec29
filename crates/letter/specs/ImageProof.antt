-- The image of an accepted page set, what a write of it leaves and the program's bytes are the paper's.
use Rattle.std.specs.Prelude.{◌≡◌, Bool, ℕ, eqb, leb, length, Err, None, Option, Some}
use Rattle.std.proofs.Math.Path.{refl, ap}
use Rattle.std.proofs.Common.{◌∙◌}
use mathlib.Core.List.{List, [], ◌∷◌, ◌++◌}
use Rattle.bits.specs.Choice.{pick}
use Rattle.bits.specs.Lists.{tabulate}
use Rattle.x86defs.specs.declared.CpuidResult.{CpuidResult}
use Rattle.masking.specs.Kept.{kept_leaves, slot, leaf_at}
use Rattle.table.specs.declared.Choices.{Choices}
use Rattle.table.specs.declared.CpuidResults.{CpuidResults}
use Rattle.table.specs.declared.Refusal.{Refusal}
use Rattle.table.specs.declared.Refusal.TheVariants.{PagesLength, PageCount, MissingRequiredResult, InvlpgbUnavailable, SaveAreaOverflow, TopologyInconsistent, BufferTooShort, ListLength, ListRows, ListFields, StateBeyondTable, CompactSizeTooLarge, UnknownEdition, EditionBack, ReservedBytes, PoolSets, PoolDiffers, NothingDecides}
use Rattle.topology.specs.declared.TopologyError.TheVariants.{Hyperthreading, ProcessorCount, ThreadsPerUnit}
use Rattle.table.specs.Refusal.{Details, details}
use Rattle.table.specs.Rows.{Rows}
use Rattle.table.specs.Table.{row_in}
use Rattle.table.specs.OrderLaws.{row_order_lem}
use Rattle.build.specs.Build.{answer}
use Rattle.buffer.specs.Front.{write_front, write_verdict}
use Rattle.image.specs.Image.{image_in, image}
use Rattle.image.specs.Write.{write}
use Rattle.program.specs.Output.{subleaf_code, output, output_for}
use Rattle.letter.specs.Paper.{Line, lines, table_with, entry_of, lines_of, combined_of, written, verdict, carried, wrote, little, subleaf_or, answer_bytes, program, programs}
use Rattle.letter.specs.Names.{sub_at}
use Rattle.table.specs.Verdict.{Verdict}

-- the rows of a table at the 88 places, each with its leaf and subleaf
abbrev pub told : Rows → List Line
told m = tabulate 88 (λ i. record { leaf = (leaf_at i).0; subleaf = sub_at i; row = m i })

pub image_told : (t : CpuidResults) → image t ≡ written (told (row_in t))
unfolding image image_in tabulate slot kept_leaves
image_told t = ap (λ (o : List ℕ). image_in o t) row_order_lem

-- the paper's rows have the leaves and subleaves of the places
pub lines_told : (n : ℕ) (avic : Bool) (e : ℕ → Option ℕ → CpuidResult) (x : ℕ) → told (row_in (table_with x (lines n avic e))) ≡ lines n avic e
unfolding tabulate slot kept_leaves
lines_told n avic e x = refl

-- the number of each refusal and what it names
pub carried_same : (r : Refusal) → details r ≡ carried r
carried_same PagesLength = refl
carried_same PageCount = refl
carried_same (MissingRequiredResult leaf subleaf) = refl
carried_same InvlpgbUnavailable = refl
carried_same SaveAreaOverflow = refl
carried_same (TopologyInconsistent (Hyperthreading s)) = refl
carried_same (TopologyInconsistent (ProcessorCount s)) = refl
carried_same (TopologyInconsistent ThreadsPerUnit) = refl
carried_same BufferTooShort = refl
carried_same ListLength = refl
carried_same ListRows = refl
carried_same ListFields = refl
carried_same StateBeyondTable = refl
carried_same CompactSizeTooLarge = refl
carried_same UnknownEdition = refl
carried_same EditionBack = refl
carried_same (ReservedBytes leaf) = refl
carried_same PoolSets = refl
carried_same PoolDiffers = refl
carried_same NothingDecides = refl

same_code : (k : Option ℕ) → subleaf_code k ≡ subleaf_or k
same_code None = refl
same_code (Some k) = refl

pub refusal_bytes_lem : (r : Refusal) (bytes : List ℕ) → output_for (Err r) bytes ≡ answer_bytes (Err r) bytes
refusal_bytes_lem r bytes =
    ap (λ (d : Details). output_of d (subleaf_code d.subleaf)) (carried_same r) ∙ ap (output_of (carried r)) (same_code (carried r).subleaf)
  where
    output_of : Details → ℕ → List ℕ
    output_of d k = 3 ∷ d.number ∷ little d.leaf ++ little k ++ (d.s ∷ [])
