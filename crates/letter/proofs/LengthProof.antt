-- Rows, bytes and mask of an accepted page set, counted by the paper's combined mask.
use Rattle.std.specs.Prelude.{◌≡◌, List, ℕ, ◌+◌, ◌*◌, length, Ok}
use Rattle.std.proofs.Math.Path.{ap}
use Rattle.std.proofs.Common.{◌∙◌, subst}
use Rattle.bits.specs.Bits.{Within}
use Rattle.table.specs.declared.Choices.{Choices}
use Rattle.table.specs.declared.CpuidResults.{CpuidResults}
use Rattle.build.specs.Build.{answer}
use Rattle.image.specs.Image.{image}
use Rattle.counts.specs.Counts.{components_in}
use Rattle.counts.specs.CountsProof.{rows_counted}
use Rattle.letter.specs.Paper.{combined_of, further_bits}
use Rattle.letter.proofs.TableProof.{table_by_figures}

module _ (chosen : Choices) (s : List ℕ) (e : (answer chosen s).verdict ≡ Ok tt) where
  mask : (answer chosen s).table.max_extended_state ≡ combined_of chosen s
  mask = ap (λ (t : CpuidResults). t.max_extended_state) (table_by_figures chosen s e)

  pub rows_said : (answer chosen s).table.row_count ≡ 26 + further_bits (combined_of chosen s)
  unfolding components_in
  rows_said = (rows_counted chosen s e).rows ∙ ap (λ (x : ℕ). 26 + components_in x) mask

  pub length_said : length (image (answer chosen s).table) ≡ 582 + 25 * further_bits (combined_of chosen s)
  unfolding components_in
  length_said = (rows_counted chosen s e).bytes ∙ ap (λ (x : ℕ). 582 + 25 * components_in x) mask

  pub bits_said : Within (combined_of chosen s) 0x18E7
  bits_said = subst (λ (x : ℕ). Within x 0x18E7) mask (rows_counted chosen s e).mask
