-- A row's bytes tell its place and its registers: the kind, the leaf and the subleaf are read back, and so are the four registers where they
-- fit 32 bits.
use Rattle.std.specs.Prelude.{◌≡◌, refl, Bool, true, false, List, [], ◌∷◌, ◌++◌, ℕ, ◌+◌, ◌*◌, ◌/◌, ◌%◌, ◌^◌, ◌<◌, eqb, ltb, get_or, drop}
use Rattle.std.proofs.Common.{sym, ap, ap₂, ◌∙◌, arith, eqb-true, ltb-true}
use Rattle.std.proofs.lemmas.Nat.{mod-pow-add}
use Rattle.bits.specs.Choice.{pick}
use Rattle.bits.specs.ChoiceLaws.{never_both}
use Rattle.bits.specs.SearchLaws.{every_at}
use Rattle.x86defs.specs.declared.CpuidResult.{CpuidResult}
use Rattle.x86defs.specs.Functions.{function}
use Rattle.pages.specs.Layout.{word_at}
use Rattle.masking.specs.Kept.{places, leaf_at, indexed_at, subleaf_at, slot, kept_leaves}
use Rattle.masking.specs.KeptLaws.{first_place, place_from_first}
use Rattle.table.specs.Fits.{Fits}
use Rattle.buffer.specs.Front.{bytes_of, result_bytes}
use Rattle.image.specs.Image.{row_bytes}

-- ---- four bytes read back

regroup : (a b c d : ℕ) → a + 256 * b + 65536 * c + 16777216 * d ≡ d * 16777216 + (c * 65536 + (b * 256 + a))
regroup a b c d = omega arith

-- a 32-bit number from its four bytes
four_bytes : (n : ℕ) → n < 2 ^ 32 → n % 256 + 256 * (n / 256 % 256) + 65536 * (n / 65536 % 256) + 16777216 * (n / 16777216 % 256) ≡ n
four_bytes n h =
    regroup (n % 256) (n / 256 % 256) (n / 65536 % 256) (n / 16777216 % 256)
    ∙ sym
    (mod-pow-add n 8 24
    ∙ ap (λ (x : ℕ). n / 16777216 % 256 * 16777216 + x)
    (mod-pow-add n 8 16 ∙ ap (λ (x : ℕ). n / 65536 % 256 * 65536 + x) (mod-pow-add n 8 8)))
    ∙ omega arith

-- ---- the place

leaf_fits : (i : ℕ) → i < places → (leaf_at i).0 < 2 ^ 32
unfolding slot kept_leaves
leaf_fits i h = ltb-true _ _ (every_at (λ i. ltb (leaf_at i).0 (2 ^ 32)) places refl i h)

subleaf_fits : (i : ℕ) → i < places → subleaf_at i < 2 ^ 32
unfolding slot kept_leaves
subleaf_fits i h = ltb-true _ _ (every_at (λ i. ltb (subleaf_at i) (2 ^ 32)) places refl i h)

-- a row without a subleaf has subleaf 0
no_subleaf : (i : ℕ) → i < places → indexed_at i ≡ false → subleaf_at i ≡ 0
unfolding slot kept_leaves
no_subleaf i h e = eqb-true _ _ (if_not (indexed_at i) _ e (every_at (λ i. pick (indexed_at i) true (eqb (subleaf_at i) 0)) places refl i h))
  where
    if_not : (b c : Bool) → b ≡ false → pick b true c ≡ true → c ≡ true
    if_not true c p q = absurd (never_both refl p)
    if_not false c p q = q

-- the two forms of a row
abbrev indexed_bytes : ℕ → CpuidResult → List ℕ
indexed_bytes i r = 2 ∷ bytes_of (leaf_at i).0 ++ bytes_of (subleaf_at i) ++ result_bytes r

abbrev whole_bytes : ℕ → CpuidResult → List ℕ
whole_bytes i r = 1 ∷ bytes_of (leaf_at i).0 ++ result_bytes r

abbrev pub spelt : ℕ → ℕ
spelt n = n % 256 + 256 * (n / 256 % 256) + 65536 * (n / 65536 % 256) + 16777216 * (n / 16777216 % 256)

module _ (i : ℕ) (r : CpuidResult) (xs : List ℕ) where
  kind_told : (b : Bool) → get_or (pick b (indexed_bytes i r) (whole_bytes i r) ++ xs) 0 0 ≡ pick b 2 1
  kind_told true = refl
  kind_told false = refl

  leaf_told : (b : Bool) → word_at (pick b (indexed_bytes i r) (whole_bytes i r) ++ xs) 1 ≡ spelt (leaf_at i).0
  leaf_told true = refl
  leaf_told false = refl

  subleaf_told : word_at (indexed_bytes i r ++ xs) 5 ≡ spelt (subleaf_at i)
  subleaf_told = refl

-- rows that begin alike are of one place
pub place_told : (i j : ℕ) → i < places → j < places → (r q : CpuidResult) (xs ys : List ℕ) → row_bytes i r ++ xs ≡ row_bytes j q ++ ys → i ≡ j
place_told i j h l r q xs ys e =
    let leaves : (leaf_at i).0 ≡ (leaf_at j).0 =
    sym (four_bytes _ (leaf_fits i h)) ∙ sym (leaf_told i r xs (indexed_at i)) ∙ ap (λ (s : List ℕ). word_at s 1) e ∙ leaf_told j q ys (indexed_at j) ∙ four_bytes _ (leaf_fits j l) in
    let subleaves : subleaf_at i ≡ subleaf_at j = same (indexed_at i) (indexed_at j) refl refl (sym (kind_told i r xs (indexed_at i)) ∙ ap (λ (s : List ℕ). get_or s 0 0) e ∙ kind_told j q ys (indexed_at j)) e in
    place_from_first i h ∙ ap₂ (λ (n k : ℕ). first_place (function n) + k) leaves subleaves ∙ sym (place_from_first j l)
  where
    same : (b c : Bool) → indexed_at i ≡ b → indexed_at j ≡ c → ◌≡◌ {A = ℕ} (pick b 2 1) (pick c 2 1)
        → pick b (indexed_bytes i r) (whole_bytes i r) ++ xs ≡ pick c (indexed_bytes j q) (whole_bytes j q) ++ ys → subleaf_at i ≡ subleaf_at j
    same true true f g k m =
        sym (four_bytes _ (subleaf_fits i h)) ∙ sym (subleaf_told i r xs) ∙ ap (λ (s : List ℕ). word_at s 5) m ∙ subleaf_told j q ys ∙ four_bytes _ (subleaf_fits j l)
    same true false f g k m = absurd (omega arith)
    same false true f g k m = absurd (omega arith)
    same false false f g k m = no_subleaf i h f ∙ sym (no_subleaf j l g)

-- a row has bytes
pub row_begins : (i : ℕ) (r : CpuidResult) (xs : List ℕ) → row_bytes i r ++ xs ≡ [] → ⊥
row_begins i r xs e = go (indexed_at i) (sym (ap (λ (s : List ℕ). get_or s 0 0) e) ∙ kind_told i r xs (indexed_at i))
  where
    go : (b : Bool) → ◌≡◌ {A = ℕ} 0 (pick b 2 1) → ⊥
    go true f = omega arith
    go false f = omega arith

-- ---- the registers

read_back_lem : {a b : ℕ} → a < 2 ^ 32 → b < 2 ^ 32 → spelt a ≡ spelt b → a ≡ b
read_back_lem {a} {b} h l e = sym (four_bytes a h) ∙ e ∙ four_bytes b l

-- one place's row bytes that begin two lists alike
pub registers_told : (i : ℕ) (r q : CpuidResult) → Fits r → Fits q → (xs ys : List ℕ) → row_bytes i r ++ xs ≡ row_bytes i q ++ ys → (r ≡ q) × (xs ≡ ys)
registers_told i r q f g xs ys = go (indexed_at i)
  where
    registers : (s u : List ℕ) (o : ℕ) → s ≡ u
        → word_at s o ≡ spelt r.eax → word_at s (o + 4) ≡ spelt r.ebx → word_at s (o + 8) ≡ spelt r.ecx → word_at s (o + 12) ≡ spelt r.edx
        → word_at u o ≡ spelt q.eax → word_at u (o + 4) ≡ spelt q.ebx → word_at u (o + 8) ≡ spelt q.ecx → word_at u (o + 12) ≡ spelt q.edx
        → r ≡ q
    registers s u o e a b c d a' b' c' d' = λ k. record {
      eax = read_back_lem f.eax g.eax (sym a ∙ ap (λ (l : List ℕ). word_at l o) e ∙ a') k;
      ebx = read_back_lem f.ebx g.ebx (sym b ∙ ap (λ (l : List ℕ). word_at l (o + 4)) e ∙ b') k;
      ecx = read_back_lem f.ecx g.ecx (sym c ∙ ap (λ (l : List ℕ). word_at l (o + 8)) e ∙ c') k;
      edx = read_back_lem f.edx g.edx (sym d ∙ ap (λ (l : List ℕ). word_at l (o + 12)) e ∙ d') k;
    }

    go : (b : Bool) → pick b (indexed_bytes i r) (whole_bytes i r) ++ xs ≡ pick b (indexed_bytes i q) (whole_bytes i q) ++ ys → (r ≡ q) × (xs ≡ ys)
    go true e = (registers _ _ 9 e refl refl refl refl refl refl refl refl, ap (drop 25) e)
    go false e = (registers _ _ 5 e refl refl refl refl refl refl refl refl, ap (drop 21) e)
