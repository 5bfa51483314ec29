-- One row of a list, word by word as the code reads it.
use Rattle.std.specs.Prelude.{◌≡◌, false, List, ℕ, ◌+◌, ◌*◌, ◌≤◌, ◌<◌, eqb}
use Rattle.std.proofs.Math.Path.{refl, ap}
use native.Mathlib.Omega.{arith}
use borrow.Author.Tests.{le-leb, lt-leb, eq-eqb, ne_eqb}
use Rattle.pages.specs.Layout.{word_at}
use Rattle.kvm_list.specs.Format.{row_at}
use Rattle.kvm_import.specs.ListChecks.{is_row_lawful, is_extended_state}

module _ (l : List ℕ) (q : ℕ) where
  abbrev o : ℕ
  o = 8 + 40 * q

  pub row_leaf : word_at l o ≡ (row_at l q).leaf
  unfolding row_at
  row_leaf = let z : o ≡ o + 4 * 0 = omega arith in ap (word_at l) z

  pub row_index : word_at l (o + 4) ≡ (row_at l q).index
  unfolding row_at
  row_index = refl

  pub row_page : {x : ℕ} → x ≡ word_at l o → eqb x 13 ≡ is_extended_state (row_at l q)
  row_page p = rw (p, row_leaf)

  -- each of the four tests: the first that fails decides
  pub lawful_1 : {x : ℕ} → x ≡ word_at l (o + 8) → 1 < x → false ≡ is_row_lawful (row_at l q)
  unfolding row_at
  lawful_1 {x} p h = rw (← p, lt-leb x 1 h)

  pub lawful_2 : {x y : ℕ} → x ≡ word_at l (o + 8) → x ≤ 1 → y ≡ word_at l (o + 28) → (y ≡ 0 → ⊥) → false ≡ is_row_lawful (row_at l q)
  unfolding row_at
  lawful_2 {x} {y} p h r n = rw (← p, ← r, le-leb x 1 h, ne_eqb y 0 n)

  pub lawful_3 : {x y z : ℕ} → x ≡ word_at l (o + 8) → x ≤ 1 → y ≡ word_at l (o + 28) → y ≡ 0 → z ≡ word_at l (o + 32) → (z ≡ 0 → ⊥)
      → false ≡ is_row_lawful (row_at l q)
  unfolding row_at
  lawful_3 {x} {y} {z} p h r e t n = rw (← p, ← r, ← t, le-leb x 1 h, eq-eqb y 0 e, ne_eqb z 0 n)

  pub lawful_4 : {x y z w : ℕ} → x ≡ word_at l (o + 8) → x ≤ 1 → y ≡ word_at l (o + 28) → y ≡ 0 → z ≡ word_at l (o + 32) → z ≡ 0
      → w ≡ word_at l (o + 36) → eqb w 0 ≡ is_row_lawful (row_at l q)
  unfolding row_at
  lawful_4 {x} {y} {z} {w} p h r e t f u = rw (← p, ← r, ← t, ← u, le-leb x 1 h, eq-eqb y 0 e, eq-eqb z 0 f)
