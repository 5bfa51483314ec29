-- The image of a table that was built from pages: its combined mask tells which components have a row, and how many bytes the image has.
use Rattle.std.specs.Prelude.{◌≡◌, false, List, ℕ, ◌+◌, ◌-◌, ◌*◌, ◌/◌, ◌^◌, ◌≤◌, ◌<◌, length, get_or, Ok}
use Rattle.std.proofs.Common.{sym, ◌∙◌, arith}
use Rattle.std.proofs.Math.Path.{ap}
use Rattle.std.specs.Int.Count.{ones}
use Rattle.bits.specs.Bits.{has}
use Rattle.bits.specs.Lists.{sum_to, one}
use Rattle.bits.specs.ListsLaws.{sum_ext, get_d_tabulate}
use Rattle.masking.specs.Kept.{places}
use Rattle.masking.specs.Place
use Rattle.table.specs.declared.Choices.{Choices}
use Rattle.table.specs.declared.CpuidResults.{CpuidResults}
use Rattle.table.specs.Table.{table_of}
use Rattle.checks.specs.ExtendedState.{combined_mask}
use Rattle.checks.specs.ChecksLaws.{then_right, AllPass, all_pass}
use Rattle.finish.specs.Finish.{finished}
use Rattle.finish.specs.RowsBuilt.{table_for}
use Rattle.collect.specs.Lawful.{lawful_verdict}
use Rattle.memory.specs.Held.{held_in, flag_at, mask_held, mask_held_lem}
use Rattle.build.specs.Build.{rows_for, edition_verdict, verdict_of, answer, InMemory}
use Rattle.image.specs.Image.{image}
use Rattle.image.specs.ImagePieces.{rows_among}
use Rattle.image.specs.Components.{Components}
use Rattle.image.specs.ComponentsLaws.{ones_sum}
use Rattle.image.specs.LengthLaws.{image_length}
use Rattle.image.specs.RowsPresent.{stands, component_stands, row_stands}
use Rattle.table.specs.Verdict.{Verdict}

-- ---- a table whose rows are those that stand under x

-- rows 7.0 to D.63
indexed_sum : (x : ℕ) → sum_to (λ k. one (stands x (Place.extended_features + k))) 67 ≡ 5 + sum_to (λ k. one (has (2 + k) x)) 62
unfolding sum_to
indexed_sum x = omega arith

module _ (t : CpuidResults) (x : ℕ) (standing : (i : ℕ) → i < places → get_or t.present i false ≡ stands x i) where
  among : (first end : ℕ) → end ≤ places → rows_among t.present first end ≡ sum_to (λ k. one (stands x (first + k))) (end - first)
  unfolding rows_among
  among first end h = sum_ext _ _ (end - first) (λ k l. ap one (standing (first + k) (omega arith)))

  basic : rows_among t.present 0 Place.extended_features ≡ 3
  unfolding sum_to
  basic = among 0 Place.extended_features (omega arith)

  indexed : rows_among t.present Place.extended_features Place.extended_max_function ≡ 5 + sum_to (λ k. one (has (2 + k) x)) 62
  indexed = among Place.extended_features Place.extended_max_function (omega arith) ∙ indexed_sum x

  extended : rows_among t.present Place.extended_max_function (Place.cache_topology 0) ≡ 12
  unfolding sum_to
  extended = among Place.extended_max_function (Place.cache_topology 0) (omega arith)

  caches : rows_among t.present (Place.cache_topology 0) Place.processor_topology_definition ≡ 4
  unfolding sum_to
  caches = among (Place.cache_topology 0) Place.processor_topology_definition (omega arith)

  last : rows_among t.present Place.processor_topology_definition places ≡ 2
  unfolding sum_to
  last = among Place.processor_topology_definition places (omega arith)

  -- how many bytes its image has
  pub standing_length : length (image t) ≡ 582 + 25 * sum_to (λ k. one (has (2 + k) x)) 62
  standing_length = omega (arith, image_length t, basic, indexed, extended, caches, last)

-- ---- the table that building gives

pub rows_pass : (chosen : Choices) (s : List ℕ) → (answer chosen s).verdict ≡ Ok tt → AllPass (rows_for chosen s)
unfolding answer verdict_of
rows_pass chosen s e = all_pass (rows_for chosen s) (then_right (lawful_verdict s) _ (then_right (edition_verdict chosen.edition) _ e))

pub accepted_table : (chosen : Choices) (s : List ℕ) → (answer chosen s).verdict ≡ Ok tt
    → (answer chosen s).table ≡ table_of (finished chosen.edition (rows_for chosen s)) (combined_mask (rows_for chosen s))
unfolding answer
accepted_table chosen s e = ap (λ (v : Verdict). table_for chosen.edition v (rows_for chosen s)) e

-- its rows, by its mask alone
pub accepted_stands : (chosen : Choices) (s : List ℕ) → (answer chosen s).verdict ≡ Ok tt → (i : ℕ) → i < places
    → get_or (answer chosen s).table.present i false ≡ stands (answer chosen s).table.max_extended_state i
accepted_stands chosen s e i h =
    rw (accepted_table chosen s e)
    (get_d_tabulate places (λ j. (finished chosen.edition (rows_for chosen s) j).present) i false h
    ∙ row_stands chosen.edition (rows_for chosen s) (rows_pass chosen s e) i h)

-- the same in the memory that building filled, where x is the mask that it holds
module _ (chosen : Choices) (s : List ℕ) {v : Verdict} {w o : List ℕ} (k : InMemory (answer chosen s) v w o) (accepted : v ≡ Ok tt)
    {x : ℕ} (mask : x ≡ mask_held w) where
  stands_held : (i : ℕ) → i < places → get_or (held_in w o).present i false ≡ stands x i
  stands_held i h =
      ap (λ t. get_or t.present i false) k.table
      ∙ accepted_stands chosen s (sym k.verdict ∙ accepted) i h
      ∙ ap (λ y. stands y i) (sym (mask ∙ sym (mask_held_lem w o) ∙ ap (λ t. t.max_extended_state) k.table))

  pub accepted_components : Components o x
  accepted_components = record {
    there = λ j low high.
        sym (flag_at o (Place.extended_state j) (omega arith))
        ∙ stands_held (Place.extended_state j) (omega arith)
        ∙ component_stands x j low high;
  }

  pub accepted_length : x < 2 ^ 64 → 582 + 25 * ones (x / 2 ^ 2) ≡ length (image (held_in w o))
  accepted_length h = omega (arith, standing_length (held_in w o) x stands_held, ones_sum x h)
