-- Laws of full leaves. Leaves that are not kept are full from the start; a full leaf stays full; a leaf whose places all have rows can be added. Each
-- law of the leaves' numbers and places is one computed test over the 88 places.
use Rattle.std.specs.Prelude.{◌≡◌, refl, Bool, true, false, not, ◌&&◌, ◌||◌, List, ◌≢◌, ℕ, zero, suc, ◌+◌, ◌*◌, ◌/◌, ◌%◌, ◌^◌, ◌≤◌, ◌<◌, eqb, leb, ltb, length, get_or, set}
use Rattle.std.proofs.Common.{sym, ap, ◌∙◌, subst, mod-lt, zero-lt-suc, arith, eqb-true, leb-true, ltb-true, ltb-false, ne_eqb, eq-eqb}
use Rattle.std.proofs.lemmas.Bool.{false≢true, eqb-false}
use Rattle.std.specs.Int.Bits.{bit_and}
use Rattle.std.proofs.lemmas.Nat.{and_mask}
use Rattle.bits.specs.Choice.{pick}
use Rattle.bits.specs.ChoiceLaws.{and_left, and_right, if_holds}
use Rattle.bits.specs.Bits.{bit, has}
use Rattle.bits.specs.BitsLaws.{bit_zero, bit_suc, zero_bit}
use Rattle.bits.specs.Search.{every}
use Rattle.bits.specs.SearchLaws.{every_at}
use Rattle.x86defs.specs.declared.CpuidFunction.{CpuidFunction}
use Rattle.x86defs.specs.Functions.{function}
use Rattle.masking.specs.Kept.{kept_leaves, places, place_of, slot, leaf_at}
use Rattle.masking.specs.KeptLaws.{entry_belongs, first_place}
use Rattle.pages.specs.declared.ParsedCpuidEntry.{ParsedCpuidEntry}
use Rattle.pages.specs.Parsed.{counts_read}
use Rattle.memory.specs.Memory.{is_there}
use Rattle.memory.specs.MemoryLaws.{set_at}
use Rattle.collect.specs.Collect.{counted_place}
use Rattle.collect.specs.Full.{leaf_number, Full, FullLeaves, RowsFrom, HasRow, Passed, Asked}

-- ---- the number of a leaf

pub number_lt : (l : CpuidFunction) → leaf_number l < 64
unfolding leaf_number
number_lt l = mod-lt (2 * l.0 + l.0 / 2 ^ 31) (zero-lt-suc 63)

-- by shifts in 32 bits and in 64, as the code has it
pub number_32 : (l : CpuidFunction) → bit_and (l.0 * 2 % 2 ^ 32 + l.0 / 2 ^ 31) 63 ≡ leaf_number l
unfolding leaf_number
number_32 l = and_mask (l.0 * 2 % 2 ^ 32 + l.0 / 2 ^ 31) 6 ∙ omega arith

pub number_64 : (l : CpuidFunction) → bit_and (2 * l.0 + l.0 / 2 ^ 31) 63 ≡ leaf_number l
unfolding leaf_number
number_64 l = and_mask (2 * l.0 + l.0 / 2 ^ 31) 6

-- ---- places

-- the place of a kept entry has the entry's leaf
leaf_here : (l : CpuidFunction) (k : ℕ) → place_of l k < places → leaf_at (place_of l k) ≡ l
leaf_here l k h = (entry_belongs l k (place_of l k) refl h).leaf

-- a computed test of the leaf of each place, and of the place, holds for every kept entry
at_place : (test : CpuidFunction → ℕ → Bool) → every (λ i. test (leaf_at i) i) places ≡ true
    → (l : CpuidFunction) (k : ℕ) → place_of l k < places → test l (place_of l k) ≡ true
at_place test e l k h = subst (λ (x : CpuidFunction). test x (place_of l k) ≡ true) (leaf_here l k h) (every_at (λ i. test (leaf_at i) i) places e _ h)

-- ---- the leaves that are not kept

-- the builder makes the rows of leaves 0 and 80000000h, and no entry goes there
abbrev made : CpuidFunction → Bool
made l = eqb l.0 0 || eqb l.0 0x80000000

made_none : (l : CpuidFunction) (k : ℕ) → made l ≡ true → place_of l k ≡ places
unfolding place_of kept_leaves
made_none l k e = go (eqb l.0 0) refl e
  where
    go : (b : Bool) → eqb l.0 0 ≡ b → (b || eqb l.0 0x80000000) ≡ true → place_of l k ≡ places
    go true f g = ap (λ (n : ℕ). place_of (function n) k) (eqb-true l.0 0 f)
    go false f g = ap (λ (n : ℕ). place_of (function n) k) (eqb-true l.0 0x80000000 g)

-- whether a number has no bit of a leaf that a table keeps entries of
unfoldable pub none_kept : ℕ → Bool
none_kept n = every (λ i. made (leaf_at i) || not (has (leaf_number (leaf_at i)) n)) places

pub none_kept_full : (o : List ℕ) (n : ℕ) → none_kept n ≡ true → FullLeaves o n
unfolding none_kept
none_kept_full o n t = record { at = λ l e. record { at = λ k h. absurd (none l k e h) } }
  where
    none : (l : CpuidFunction) (k : ℕ) → has (leaf_number l) n ≡ true → place_of l k < places → ⊥
    none l k e h = go (made l) refl (at_place (λ x i. made x || not (has (leaf_number x) n)) t l k h)
      where
        go : (b : Bool) → made l ≡ b → (b || not (has (leaf_number l) n)) ≡ true → ⊥
        go true f g = let z : place_of l k ≡ places = made_none l k f in omega (arith, h, z)
        go false f g = false≢true (sym (ap not e) ∙ g)

-- ---- a full leaf stays full, and so do all

full_stays : (o : List ℕ) (p v : ℕ) → p < length o → v ≢ 0 → (l : CpuidFunction) → Full o l → Full (set o p v) l
full_stays o p v h z l f = record { at = λ k g. rw (set_at o p (place_of l k) v 0 h) (go (eqb (place_of l k) p) (f.at k g)) }
  where
    go : (b : Bool) {x : ℕ} → x ≢ 0 → pick b v x ≢ 0
    go true x = z
    go false x = x

pub leaves_stay : (o : List ℕ) (n p v : ℕ) → p < length o → v ≢ 0 → FullLeaves o n → FullLeaves (set o p v) n
leaves_stay o n p v h z f = record { at = λ l e. full_stays o p v h z l (f.at l e) }

-- ---- a leaf more

pub bit_pow : (k n : ℕ) → bit k (2 ^ n) ≡ 1 → k ≡ n
bit_pow zero zero e = refl
bit_pow zero (suc n) e = absurd (omega (arith, bit_zero (2 ^ suc n), e))
bit_pow (suc k) zero e = absurd (omega (arith, bit_suc k 1, zero_bit k, e))
bit_pow (suc k) (suc n) e =
    let h : 2 ^ suc n / 2 ≡ 2 ^ n = omega arith in
    ap suc (bit_pow k n (sym (ap (bit k) h) ∙ sym (bit_suc k (2 ^ suc n)) ∙ e))

-- no two kept leaves have the same number, because it gives the leaf back
abbrev pub back_from : ℕ → ℕ
back_from m = m / 2 + m % 2 * 2 ^ 31

pub number_back : (l : CpuidFunction) (k : ℕ) → place_of l k < places → back_from (leaf_number l) ≡ l.0
unfolding slot kept_leaves leaf_number
number_back l k h = eqb-true _ _ (at_place (λ x i. eqb (back_from (leaf_number x)) x.0) refl l k h)

-- ---- where all places of a leaf have rows

-- the places of leaf n stand from the first on
abbrev pub stand_from : ℕ → ℕ → ℕ → CpuidFunction → ℕ → Bool
stand_from n first count x i = pick (eqb x.0 n) (leb first i && ltb i (first + count)) true

pub run_full : (o : List ℕ) (l : CpuidFunction) (n first count : ℕ) → l.0 ≡ n
    → every (λ i. stand_from n first count (leaf_at i) i) places ≡ true → RowsFrom o first count → Full o l
run_full o l n first count e t r = record {
  at = λ k h.
      let inside = if_holds (eqb l.0 n) _ (at_place (stand_from n first count) t l k h) (eq-eqb _ _ e) in
      r.at _ (leb-true _ _ (and_left _ _ inside)) (ltb-true _ _ (and_right (leb first (place_of l k)) _ inside));
}

-- any other leaf has one place
abbrev several_places : CpuidFunction → Bool
several_places l = eqb l.0 0xB || (eqb l.0 0xD || eqb l.0 0x8000001D)

pub one_place_full : (o : List ℕ) (l : CpuidFunction) (k : ℕ) → l.0 ≢ 0xB → l.0 ≢ 0xD → l.0 ≢ 0x8000001D → HasRow o l k → Full o l
unfolding slot kept_leaves first_place
one_place_full o l k b d c r = record { at = λ j h. subst (λ (i : ℕ). get_or o i 0 ≢ 0) (alone k r.kept ∙ sym (alone j h)) r.there }
  where
    alone : (j : ℕ) → place_of l j < places → place_of l j ≡ first_place l
    alone j h =
        let t = at_place (λ x i. several_places x || eqb i (first_place x)) refl l j h in
        eqb-true _ _ (rw (ne_eqb l.0 0xB b, ne_eqb l.0 0xD d, ne_eqb l.0 0x8000001D c) at t)

-- ---- rows as the code finds them

there_nonzero : (x : ℕ) → is_there x ≡ true → x ≢ 0
there_nonzero x e z = false≢true (sym (ap not (eq-eqb x 0 z)) ∙ e)

pub two_rows_lem : (o : List ℕ) (p : ℕ) → is_there (get_or o p 0) ≡ true → is_there (get_or o (p + 1) 0) ≡ true → RowsFrom o p 2
two_rows_lem o p e f = record { at = λ i l h. go i (eqb i p) refl l h }
  where
    go : (i : ℕ) (b : Bool) → eqb i p ≡ b → p ≤ i → i < p + 2 → get_or o i 0 ≢ 0
    go i true q l h = subst (λ (j : ℕ). get_or o j 0 ≢ 0) (sym (eqb-true i p q)) (there_nonzero _ e)
    go i false q l h =
        let n : i ≢ p = eqb-false i p q in
        let j : i ≡ p + 1 = omega (arith, n, l, h) in
        subst (λ (x : ℕ). get_or o x 0 ≢ 0) (sym j) (there_nonzero _ f)

pub rows_join : (o : List ℕ) (p m n : ℕ) → RowsFrom o p m → RowsFrom o (p + m) n → RowsFrom o p (m + n)
rows_join o p m n a b = record { at = λ i l h. go i (ltb i (p + m)) refl l h }
  where
    go : (i : ℕ) (c : Bool) → ltb i (p + m) ≡ c → p ≤ i → i < p + (m + n) → get_or o i 0 ≢ 0
    go i true q l h = a.at i l (ltb-true _ _ q)
    go i false q l h = b.at i (ltb-false _ _ q) (omega arith)

-- ---- the place that is asked

-- a counted entry with a place has the place of its leaf and subleaf
counted_is_place : (e : ParsedCpuidEntry) → counted_place e < places → counted_place e ≡ place_of e.leaf e.subleaf
unfolding counted_place
counted_is_place e h = go (counts_read e) h
  where
    go : (b : Bool) → pick b (place_of e.leaf e.subleaf) places < places
        → pick b (place_of e.leaf e.subleaf) places ≡ place_of e.leaf e.subleaf
    go true h = refl
    go false h = absurd (omega (arith, h))

module _ {n : ℕ} {e : ParsedCpuidEntry} {o : List ℕ} where
  pub asked_found : {r : ℕ} → r ≡ counted_place e → Asked n e o r
  asked_found q = record { found = λ h. q; passed = λ h f. record { there = λ g. absurd (omega (arith, q, h, g)) } }

  asked_none : (FullLeaves o n → Passed o e) → Asked n e o places
  asked_none p = record { found = λ h. absurd (omega (arith, h)); passed = λ h f. p f }

  pub asked_beyond : places ≤ counted_place e → Asked n e o places
  asked_beyond h = asked_none (λ f. record { there = λ g. absurd (omega (arith, g, h)) })

  pub asked_full : has (leaf_number e.leaf) n ≡ true → Asked n e o places
  asked_full q = asked_none (λ f. record {
    there = λ h.
        let same = counted_is_place e h in
        subst (λ (i : ℕ). get_or o i 0 ≢ 0) (sym same) ((f.at e.leaf q).at e.subleaf (subst (λ (i : ℕ). i < places) same h));
  })

  pub asked_there : {i : ℕ} → i ≡ counted_place e → get_or o i 0 ≢ 0 → Asked n e o places
  asked_there q z = asked_none (λ f. record { there = λ h. subst (λ (j : ℕ). get_or o j 0 ≢ 0) q z })

-- an entry whose place has a row
pub row_there : (o : List ℕ) (e : ParsedCpuidEntry) {i : ℕ} → i ≡ counted_place e → i < places → get_or o i 0 ≢ 0
    → HasRow o e.leaf e.subleaf × Passed o e
row_there o e {i} q h z =
    let same : i ≡ place_of e.leaf e.subleaf = q ∙ counted_is_place e (subst (λ (x : ℕ). x < places) q h) in (
      record { kept = subst (λ (x : ℕ). x < places) same h; there = subst (λ (x : ℕ). get_or o x 0 ≢ 0) same z },
      record { there = λ g. subst (λ (x : ℕ). get_or o x 0 ≢ 0) q z },
    )
