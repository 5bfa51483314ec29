-- The rows that are left from row q on: what a loop over a list has still to do.
use Rattle.std.specs.Prelude.{◌≡◌, refl, Bool, true, false, ◌&&◌, length}
use Rattle.std.proofs.Common.{◌∙◌}
use Rattle.std.proofs.Math.Path.{ap, ap₂, fun_ext}
use mathlib.Core.List.{List, [], ◌∷◌}
use Prim.Native.Nat.{ℕ, suc, ◌+◌, ◌-◌, ◌≤◌, ◌<◌}
use native.Mathlib.Omega.{arith}
use borrow.Author.Tests.{eq-eqb, ne_eqb}
use Rattle.bits.specs.Choice.{pick}
use Rattle.bits.specs.Lists.{tabulate, keep_if, one}
use Rattle.bits.specs.ListsLaws.{length_tabulate}
use Rattle.kvm_list.specs.Format.{ListRow, row_count, zero_word, row_at, rows_listed}
use Rattle.kvm_import.specs.ListChecks.{is_row_lawful, all_lawful, fields_lawful, is_extended_state, rows_on0, rows_on1}

-- the rows from row q on
unfoldable pub list_rows_left : List ℕ → ℕ → List ListRow
list_rows_left l q = tabulate (row_count l - q) (λ j. row_at l (q + j))

-- ---- rows of one page and of the other

pub on1_cons : (r : ListRow) (rs : List ListRow) {b : Bool} → is_extended_state r ≡ b → rows_on1 (r ∷ rs) ≡ pick b (r ∷ rows_on1 rs) (rows_on1 rs)
unfolding rows_on1 keep_if
on1_cons r rs e = rw e

pub on0_cons : (r : ListRow) (rs : List ListRow) {b : Bool} → is_extended_state r ≡ b → rows_on0 (r ∷ rs) ≡ pick b (rows_on0 rs) (r ∷ rows_on0 rs)
unfolding rows_on0 keep_if
on0_cons r rs {b} e = go b e
  where
    go : (b : Bool) → is_extended_state r ≡ b → rows_on0 (r ∷ rs) ≡ pick b (rows_on0 rs) (r ∷ rows_on0 rs)
    go true e = rw e
    go false e = rw e

pub on1_none : rows_on1 [] ≡ []
unfolding rows_on1 keep_if
on1_none = refl

pub on0_none : rows_on0 [] ≡ []
unfolding rows_on0 keep_if
on0_none = refl

-- each row stands on one page
pub on_either : (rs : List ListRow) → length (rows_on0 rs) + length (rows_on1 rs) ≡ length rs
on_either [] = omega (arith, ap length on0_none, ap length on1_none)
on_either (r ∷ rs) = go (is_extended_state r) refl (on_either rs)
  where
    go : (b : Bool) → is_extended_state r ≡ b → length (rows_on0 rs) + length (rows_on1 rs) ≡ length rs
        → length (rows_on0 (r ∷ rs)) + length (rows_on1 (r ∷ rs)) ≡ suc (length rs)
    go true e h = omega (arith, ap length (on0_cons r rs e), ap length (on1_cons r rs e))
    go false e h = omega (arith, ap length (on0_cons r rs e), ap length (on1_cons r rs e))

-- ---- a count of tests

-- ---- from row to row

module _ (l : List ℕ) where
  pub left_all : list_rows_left l 0 ≡ rows_listed l
  unfolding list_rows_left rows_listed
  left_all =
      let e : row_count l - 0 ≡ row_count l = omega arith in
      ap₂ tabulate e (fun_ext (λ j. let z : 0 + j ≡ j = omega arith in ap (row_at l) z))

  pub left_more : (q : ℕ) → q < row_count l → list_rows_left l q ≡ row_at l q ∷ list_rows_left l (q + 1)
  unfolding list_rows_left tabulate
  left_more q h =
      let e : row_count l - q ≡ suc (row_count l - (q + 1)) = omega arith in
      ap (λ (n : ℕ). tabulate n (λ j. row_at l (q + j))) e
      ∙ ap₂ ◌∷◌ (let z : q + 0 ≡ q = omega arith in ap (row_at l) z)
      (ap (tabulate (row_count l - (q + 1))) (fun_ext (λ j. let z : q + suc j ≡ q + 1 + j = omega arith in ap (row_at l) z)))

  pub left_none : (q : ℕ) → row_count l ≤ q → list_rows_left l q ≡ []
  unfolding list_rows_left tabulate
  left_none q h = let e : row_count l - q ≡ 0 = omega arith in ap (λ (n : ℕ). tabulate n (λ j. row_at l (q + j))) e

  left_length : (q : ℕ) → length (list_rows_left l q) ≡ row_count l - q
  unfolding list_rows_left
  left_length q = length_tabulate (row_count l - q) (λ j. row_at l (q + j))

  pub on_either_in : length (rows_on0 (rows_listed l)) + length (rows_on1 (rows_listed l)) ≡ row_count l
  unfolding rows_listed
  on_either_in = on_either (rows_listed l) ∙ length_tabulate (row_count l) (row_at l)

  pub on_either_left : (q : ℕ) → length (rows_on0 (list_rows_left l q)) + length (rows_on1 (list_rows_left l q)) ≡ row_count l - q
  on_either_left q = on_either (list_rows_left l q) ∙ left_length q

  pub extended_more : (q : ℕ) → q < row_count l
      → length (rows_on1 (list_rows_left l q)) ≡ one (is_extended_state (row_at l q)) + length (rows_on1 (list_rows_left l (q + 1)))
  extended_more q h = ap (λ (rs : List ListRow). length (rows_on1 rs)) (left_more q h) ∙ go (is_extended_state (row_at l q)) refl
    where
      go : (b : Bool) → is_extended_state (row_at l q) ≡ b
          → length (rows_on1 (row_at l q ∷ list_rows_left l (q + 1))) ≡ one b + length (rows_on1 (list_rows_left l (q + 1)))
      go true e = omega (arith, ap length (on1_cons (row_at l q) (list_rows_left l (q + 1)) e))
      go false e = omega (arith, ap length (on1_cons (row_at l q) (list_rows_left l (q + 1)) e))

  -- ---- flags and padding

  pub fields_bad : {x : ℕ} → x ≡ zero_word l → (x ≡ 0 → ⊥) → false ≡ fields_lawful l
  unfolding fields_lawful
  fields_bad {x} p n = rw (← p, ne_eqb x 0 n)

  pub fields_head : {x : ℕ} → x ≡ zero_word l → x ≡ 0 → all_lawful (list_rows_left l 0) ≡ fields_lawful l
  unfolding fields_lawful
  fields_head {x} p e = rw (← p, eq-eqb x 0 e, left_all)

  pub lawful_next : (q : ℕ) → q < row_count l → is_row_lawful (row_at l q) ≡ true → all_lawful (list_rows_left l q) ≡ all_lawful (list_rows_left l (q + 1))
  unfolding all_lawful
  lawful_next q h e = ap all_lawful (left_more q h) ∙ ap (λ (b : Bool). b && all_lawful (list_rows_left l (q + 1))) e

  pub lawful_stops : (q : ℕ) → q < row_count l → is_row_lawful (row_at l q) ≡ false → all_lawful (list_rows_left l q) ≡ false
  unfolding all_lawful
  lawful_stops q h e = ap all_lawful (left_more q h) ∙ ap (λ (b : Bool). b && all_lawful (list_rows_left l (q + 1))) e

  pub lawful_ends : (q : ℕ) → row_count l ≤ q → all_lawful (list_rows_left l q) ≡ true
  unfolding all_lawful
  lawful_ends q h = ap all_lawful (left_none q h)
