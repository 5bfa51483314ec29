-- The first entry of a place is the first of its leaf and subleaf.
use Rattle.std.specs.Prelude.{◌≡◌, Bool, true, false, ◌&&◌, ◌||◌, not, ℕ, ◌<◌, eqb, ltb}
use Rattle.std.proofs.Math.Path.{refl, fun_ext}
use Rattle.std.proofs.Common.{sym, ap, ap₂, ◌∙◌, eqb-true, eq-eqb, ltb-true}
use mathlib.Core.List.{List, [], ◌∷◌}
use Rattle.bits.specs.Choice.{pick}
use Rattle.bits.specs.ChoiceLaws.{never_both, pick_false, and_left, and_right, and_both}
use Rattle.bits.specs.Lists.{tabulate}
use Rattle.bits.specs.ListsLaws.{tabulate_at}
use Rattle.x86defs.specs.declared.CpuidFunction.{CpuidFunction}
use Rattle.pages.specs.Layout.{Entry}
use Rattle.x86defs.specs.Functions.{function}
use Rattle.masking.specs.Kept.{kept_leaves, place_of, slot, leaf_at, subleaf_at, indexed_at}
use Rattle.masking.specs.Place.{made_here}
use Rattle.masking.specs.KeptLaws.{place_of_slot, Belongs, entry_belongs}
use Rattle.table.specs.Rows.{Row, vacant}
use Rattle.collect.specs.FirstEntries.{first_at, place_of_entry}
use Rattle.letter.specs.Paper.{first, is_of}
use Rattle.letter.specs.Names.{sub_at}

-- the places that entries go to
abbrev pub entry_place : ℕ → Bool
entry_place i = ltb i 88 && not (made_here i)

-- a leaf without subleaves goes to its place with any subleaf
pub any_subleaf : (k : ℕ) → tabulate 88 (λ i. pick (indexed_at i || made_here i) i (place_of (leaf_at i) k)) ≡ tabulate 88 (λ i. i)
unfolding tabulate place_of kept_leaves slot
any_subleaf k = refl
