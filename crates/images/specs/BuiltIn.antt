-- Every accepted page set has its table in memory: a row is there where its origin is not 0, and count and mask follow from the rows.
use Rattle.std.specs.Prelude.{◌≡◌, refl, Bool, true, false, List, ℕ, ◌+◌, ◌*◌, ◌<◌, get_or, Ok}
use Rattle.std.proofs.Common.{sym, ap, ◌∙◌, arith, ne_eqb}
use Rattle.bits.specs.ChoiceLaws.{never_both}
use Rattle.bits.specs.ListsLaws.{get_d_tabulate}
use Rattle.masking.specs.Kept.{places}
use Rattle.pages.specs.Entries.{counted}
use Rattle.table.specs.declared.Choices.{Choices}
use Rattle.table.specs.declared.CpuidResults.{CpuidResults}
use Rattle.table.specs.Table as Tables
use Rattle.table.specs.TableLaws.{table_ext}
use Rattle.memory.specs.Origin.{Origin, origin_of, origin_number}
use Rattle.memory.specs.Origin.Origin.{neither, made_here, not_known, entry}
use Rattle.memory.specs.Memory.{is_there, rows_in, layout}
use Rattle.memory.proofs.MemoryLaws.{layout_row}
use Rattle.memory.specs.Held.{whole_of, held_in, whole_ext}
use Rattle.collect.specs.FirstEntryOrigin.{stands_at}
use Rattle.build.specs.Build.{origins_in, answer, origin_at, TableIn}
use Rattle.rise.specs.RiseProof.{answer_table, answer_row}
use Rattle.rise.specs.BuiltLaws.{built_mask}
use Rattle.rise.specs.Located.{Origins}
use Rattle.rise.proofs.LocatedProof.{rows_have_origins}

-- an origin that is not neither has a number that is not 0
origin_there : (x : Origin) → (x ≡ neither → ⊥) → is_there (origin_number x) ≡ true
origin_there neither n = absurd (n refl)
origin_there made_here n = refl
origin_there not_known n = refl
origin_there (entry p q) n = rw (ne_eqb (4 + 64 * p + q) 0 (λ z. omega arith))

module _ (chosen : Choices) (s : List ℕ) (e : (answer chosen s).verdict ≡ Ok tt) where
  abbrev t : CpuidResults
  t = (answer chosen s).table

  abbrev w : List ℕ
  w = layout (λ i. (Tables.row_in t i).result)

  abbrev o : List ℕ
  o = (answer chosen s).origins

  origin_number_lem : (i : ℕ) → i < places → get_or o i 0 ≡ origin_number (origin_at chosen s i)
  unfolding answer origins_in
  origin_number_lem i l = get_d_tabulate places (λ j. origin_number (origin_of (Tables.row_in t j).present j (stands_at j (counted s)))) i 0 l

  tells : (i : ℕ) → i < places → is_there (origin_number (origin_at chosen s i)) ≡ (Tables.row_in t i).present
  tells i l = go (Tables.row_in t i).present refl
    where
      known : Origins chosen s i
      known = rows_have_origins chosen s e i l

      go : (b : Bool) → (Tables.row_in t i).present ≡ b → is_there (origin_number (origin_at chosen s i)) ≡ b
      go true p = origin_there (origin_at chosen s i) (λ n. never_both p (known.absent.0 n))
      go false p = ap (λ (x : Origin). is_there (origin_number x)) (known.absent.1 p)

  -- the table is the whole of its rows
  table_whole : t ≡ whole_of (Tables.rows_of_table t)
  table_whole = answer_table chosen s e ∙ sym (table_ext (answer_row chosen s e) (built_mask chosen s e))

  built_row : (i : ℕ) → i < places → rows_in w o i ≡ Tables.row_in t i
  built_row i l =
      let p : is_there (get_or o i 0) ≡ (Tables.row_in t i).present = ap is_there (origin_number_lem i l) ∙ tells i l in
      let q = layout_row (λ j. (Tables.row_in t j).result) i l in
      λ k. record { present = p k; result = q k }

  pub built_in : TableIn (answer chosen s) w o
  built_in = record { verdict = refl; registers = refl; origins = refl; table = whole_ext built_row ∙ sym table_whole }
