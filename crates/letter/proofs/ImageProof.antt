-- The image of an accepted page set, what a write of it leaves and the program's bytes are the paper's.
use Rattle.std.specs.Prelude.{◌≡◌, Bool, ℕ, eqb, leb, length, Err, Ok}
use Rattle.std.proofs.Math.Path.{refl, ap}
use Rattle.std.proofs.Common.{◌∙◌}
use mathlib.Core.List.{List, [], ◌∷◌, ◌++◌}
use Rattle.bits.specs.Choice.{pick}
use Rattle.bits.specs.Lists.{tabulate}
use Rattle.x86defs.specs.declared.CpuidResult.{CpuidResult}
use Rattle.masking.specs.Kept.{kept_leaves, slot, leaf_at}
use Rattle.table.specs.declared.Choices.{Choices}
use Rattle.table.specs.declared.CpuidResults.{CpuidResults}
use Rattle.table.specs.declared.Refusal.{Refusal}
use Rattle.table.specs.declared.Refusal.TheVariants.{PagesLength, PageCount, MissingRequiredResult, InvlpgbUnavailable, SaveAreaOverflow, TopologyInconsistent, BufferTooShort, ListLength, ListRows, ListFields, StateBeyondTable, CompactSizeTooLarge, UnknownEdition, EditionBack, ReservedBytes, PoolSets, PoolDiffers, NothingDecides}
use Rattle.topology.specs.declared.TopologyError.TheVariants.{Hyperthreading, ProcessorCount, ThreadsPerUnit}
use Rattle.table.specs.Refusal.{Details, details}
use Rattle.table.specs.Rows.{Rows}
use Rattle.table.specs.Table.{row_in}
use Rattle.table.specs.OrderLaws.{row_order_lem}
use Rattle.build.specs.Build.{answer}
use Rattle.buffer.specs.Front.{write_front, write_verdict}
use Rattle.image.specs.Image.{image_in, image}
use Rattle.image.specs.Write.{write}
use Rattle.program.specs.Output.{subleaf_code, output, output_for}
use Rattle.letter.specs.Paper.{Line, lines, table_with, entry_of, lines_of, combined_of, written, verdict, carried, wrote, little, subleaf_or, answer_bytes, program, programs}
use Rattle.letter.specs.Names.{sub_at}
use Rattle.letter.proofs.TableProof.{table_by_figures}
use Rattle.letter.proofs.VerdictProof.{verdict_by_figures}
use Rattle.letter.specs.ImageProof.{image_told, lines_told, refusal_bytes_lem, told}
use Rattle.table.specs.Verdict.{Verdict}

-- ---- of page bytes

module _ (chosen : Choices) (s : List ℕ) where
  pub rows_by_figures : (answer chosen s).verdict ≡ Ok tt → told (row_in (answer chosen s).table) ≡ lines_of chosen s
  rows_by_figures e = ap (λ (t : CpuidResults). told (row_in t)) (table_by_figures chosen s e) ∙ lines_told chosen.edition chosen.secure_avic (entry_of s) (combined_of chosen s)

  pub image_by_figures : (answer chosen s).verdict ≡ Ok tt → image (answer chosen s).table ≡ written (lines_of chosen s)
  image_by_figures e = image_told (answer chosen s).table ∙ ap written (rows_by_figures e)

  pub write_by_figures : (buffer : List ℕ) → write chosen s buffer ≡ wrote (verdict chosen s) (written (lines_of chosen s)) buffer
  unfolding write write_front
  write_by_figures buffer =
      go (answer chosen s).verdict refl ∙ ap (λ (v : Verdict). wrote v (written (lines_of chosen s)) buffer) (verdict_by_figures chosen s)
    where
      go : (v : Verdict) → (answer chosen s).verdict ≡ v
          → write_verdict v (image (answer chosen s).table) buffer ≡ wrote v (written (lines_of chosen s)) buffer
      go (Ok _) e = ap (λ (b : List ℕ). write_front b buffer) (image_by_figures e)
      go (Err r) e = refl

pub program_by_figures : (s : List ℕ) → output s ≡ program s
unfolding output
program_by_figures s =
    ap (λ (b : List ℕ). pick (leb (length s) 65536) b (4 ∷ []))
    (go (answer programs s).verdict refl ∙ ap (λ (v : Verdict). answer_bytes v (written (lines_of programs s))) (verdict_by_figures programs s))
  where
    go : (v : Verdict) → (answer programs s).verdict ≡ v
        → output_for v (image (answer programs s).table) ≡ answer_bytes v (written (lines_of programs s))
    go (Ok _) e = image_by_figures programs s e
    go (Err r) e = refusal_bytes_lem r []
