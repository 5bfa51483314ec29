-- The details of a line, as they are read, and as they are after the writer.
use Rattle.std.specs.Prelude.{◌≡◌, Bool, ◌&&◌, ◌||◌, not, List, [], ◌∷◌, ◌++◌, ℕ, ◌^◌, ◌≤◌, ◌<◌, eqb, leb, length, drop, None, Option, Some}
use Rattle.std.proofs.Math.Path.{refl}
use Rattle.std.proofs.Common.{ap, ◌∙◌, arith, drop_of_length-le, drop-cons, eqb-true, eq-eqb, leb-true}
use Rattle.std.proofs.Math.Bool.{true, false}
use Rattle.bits.specs.Choice.{pick}
use Rattle.bits.specs.ChoiceLaws.{never_both, and_left, and_right, and_both}
use Rattle.lines.specs.Digits.{width, decimal}
use Rattle.lines.specs.Field.{field_from, after}
use Rattle.lines.specs.FieldLaws.{decimal_read, after_number, field_fits}
use Rattle.table.specs.Numbers.{subleaf_or0}
use Rattle.lines.specs.declared.bytes.LineDetails.{LineDetails}
use Rattle.lines.specs.NumbersInUse.{names}
use Rattle.lines.specs.Line.{newline, space, is_none, most_s, LineFits, subleaf_field, s_field, fields, line}
use Rattle.lines.specs.ReadLine.{field_if, after_if, subleaf_in, subleaf_if, guess_as, guess, same_bytes}

-- ---- index by index

pub subleaf_some : (s : List ℕ) (i : ℕ) → i < length s → Some (field_from 10 0 (drop i s)) ≡ subleaf_in (drop i s)
subleaf_some s i h = rw (drop-cons s i 0 h)

pub subleaf_none : (s : List ℕ) (i : ℕ) → length s ≤ i → None ≡ subleaf_in (drop i s)
subleaf_none s i h = rw (drop_of_length-le s h)

-- ---- bytes that are the same

pub same_refl : (l : List ℕ) → same_bytes l l ≡ true
unfolding same_bytes
same_refl [] = refl
same_refl (a ∷ l) = and_both (eq-eqb a a refl) (same_refl l)

pub same_eq : (l k : List ℕ) → same_bytes l k ≡ true → l ≡ k
unfolding same_bytes
same_eq [] [] e = refl
same_eq [] (b ∷ k) e = let z : ◌≡◌ {A = ℕ} 0 1 = cc in absurd (omega arith)
same_eq (a ∷ l) [] e = let z : ◌≡◌ {A = ℕ} 0 1 = cc in absurd (omega arith)
same_eq (a ∷ l) (b ∷ k) e =
    let p : a ≡ b = eqb-true a b (and_left (eqb a b) (same_bytes l k) e) in
    let q : l ≡ k = same_eq l k (and_right (eqb a b) (same_bytes l k) e) in
    cc

-- no subleaf is set
none_set : (k : Option ℕ) → is_none k ≡ true → None ≡ k
none_set None h = refl
none_set (Some k) h = absurd (never_both h refl)

-- ---- the details of a written line

subleaf_snoc : (l : List ℕ) (x : ℕ) → subleaf_in (l ++ (x ∷ [])) ≡ Some (field_from 10 0 (l ++ (x ∷ [])))
subleaf_snoc [] x = refl
subleaf_snoc (a ∷ l) x = refl

-- what stands after the leaf begins with a separator, and subleaf and s are read back from behind it
pub record Rest (subleaf s : Bool) (k : Option ℕ) (n : ℕ) : Type 0 where
  pub separator : ℕ
  pub behind : List ℕ
  pub below : separator < 48
  pub same : subleaf_field subleaf k ++ (s_field s n ++ (newline ∷ [])) ≡ separator ∷ behind
  pub subleaf_back : subleaf_if subleaf behind ≡ k
  pub s_back : field_if s 10 behind ≡ n

pub rest_read : (b c : Bool) (k : Option ℕ) (n : ℕ)
    → not (b && c) ≡ true → (b || is_none k) ≡ true → leb n (pick c most_s 0) ≡ true → subleaf_or0 k < 2 ^ 32 → Rest b c k n
rest_read true true k n e p q h = absurd (never_both e refl)
rest_read true false None n e p q h =
    record { separator = newline; behind = []; below = omega arith; same = refl; subleaf_back = refl; s_back = omega (arith, leb-true n 0 q) }
rest_read true false (Some k) n e p q h =
    record {
      separator = space;
      behind = decimal k ++ (newline ∷ []);
      below = omega arith;
      same = refl;
      subleaf_back = subleaf_snoc (decimal k) newline ∙ ap Some (decimal_read k newline [] h (omega arith));
      s_back = omega (arith, leb-true n 0 q);
    }
rest_read false true k n e p q h =
    record {
      separator = space;
      behind = decimal n ++ (newline ∷ []);
      below = omega arith;
      same = refl;
      subleaf_back = none_set k p;
      s_back = decimal_read n newline [] (omega (arith, leb-true n most_s q)) (omega arith);
    }
rest_read false false k n e p q h =
    record { separator = newline; behind = []; below = omega arith; same = refl; subleaf_back = none_set k p; s_back = omega (arith, leb-true n 0 q) }

-- the number is read back, and its details come from what stands behind the byte that ends it
pub guess_line : (d : LineDetails) (x : ℕ) (t : List ℕ)
    → x < 48 → d.number < 2 ^ 32 → fields d ++ (newline ∷ []) ≡ x ∷ t → guess (line d) ≡ guess_as (names d.number) d.number t
unfolding guess line
guess_line d x t l h e = rw (e, decimal_read d.number x t h l, after_number 10 (width d.number) d.number x t l)

pub same_details : (d : LineDetails) {leaf s : ℕ} {subleaf : Option ℕ}
    → leaf ≡ d.leaf → subleaf ≡ d.subleaf → s ≡ d.s → record { number = d.number; leaf = leaf; subleaf = subleaf; s = s } ≡ d
same_details d p q r = rw (p, q, r)

-- ---- what is guessed fits its widths

leaf_fits : (c : Bool) (l : List ℕ) → field_if c 16 l < 2 ^ 32
leaf_fits true l = field_fits 16 0 l (omega arith)
leaf_fits false l = omega arith

subleaf_fits : (c : Bool) (l : List ℕ) → subleaf_or0 (subleaf_if c l) < 2 ^ 32
subleaf_fits true [] = omega arith
subleaf_fits true (b ∷ l) = field_fits 10 0 (b ∷ l) (omega arith)
subleaf_fits false l = omega arith

pub guess_fits : (l : List ℕ) → LineFits (guess l)
unfolding guess
guess_fits l =
    let k = names (field_from 10 0 l) in
    record { leaf = leaf_fits k.leaf (after l); subleaf = subleaf_fits k.subleaf (after_if k.leaf (after l)) }
