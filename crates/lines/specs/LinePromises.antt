-- Document 02, P6: every line is read back and nothing else is read, "different refusals, details included, give different lines, and no line
-- begins another", and every refusal that is given has a line.
use Rattle.std.specs.Prelude.{◌≡◌, Bool, true, false, ◌||◌, List, ◌∷◌, ◌++◌, ℕ, ◌≤◌, eqb, leb, None, Option, Some}
use Rattle.std.proofs.Common.{append_assoc, arith, eqb-true, le-leb}
use Rattle.bits.specs.Choice.{pick}
use Rattle.table.specs.Refusal.{Details}
use Rattle.lines.specs.declared.bytes.LineDetails.{LineDetails}
use Rattle.lines.specs.Digits.{width, decimal}
use Rattle.lines.specs.DigitsLaws.{AtLeast, none, next, digits_at_least}
use Rattle.lines.specs.Line.{newline, space, LineFits, most_s, leaf_field, subleaf_field, s_field, fields, writable, line}

-- what is read is a line: the one that is written for what it says
pub record LineOf (l : List ℕ) (d : LineDetails) : Type 0 where
  pub fits : LineFits d
  pub is_writable : writable d ≡ true
  pub same : l ≡ line d

-- ---- no line begins another: no byte before the newline is one

pub leaf_above : (b : Bool) (leaf : ℕ) → AtLeast 32 (leaf_field b leaf)
leaf_above true leaf = next {b = space} (omega arith) (digits_at_least 32 16 8 leaf (omega arith))
leaf_above false leaf = none

pub subleaf_above : (b : Bool) (k : Option ℕ) → AtLeast 32 (subleaf_field b k)
subleaf_above true None = none
subleaf_above true (Some k) = next {b = space} (omega arith) (digits_at_least 32 10 (width k) k (omega arith))
subleaf_above false k = none

pub s_above : (b : Bool) (s : ℕ) → AtLeast 32 (s_field b s)
s_above true s = next {b = space} (omega arith) (digits_at_least 32 10 (width s) s (omega arith))
s_above false s = none

-- what stands before the newline
abbrev pub body : LineDetails → List ℕ
body d = decimal d.number ++ fields d

pub line_body : (d : LineDetails) (t : List ℕ) → line d ++ t ≡ body d ++ (newline ∷ t)
unfolding line
line_body d t = simp append_assoc

-- two texts without a newline, each ended by one: what follows is the same if the whole is
pub one_end : {l k : List ℕ} (t u : List ℕ) → AtLeast 32 l → AtLeast 32 k → l ++ (newline ∷ t) ≡ k ++ (newline ∷ u) → t ≡ u
one_end t u none none e = cc
one_end t u none (next {b = b} h r) e = let z : newline ≡ b = cc in absurd (omega arith)
one_end t u (next {b = b} h r) none e = let z : b ≡ newline = cc in absurd (omega arith)
one_end t u (next {b = b} {l = l} h r) (next {b = c} {l = k} i s) e = one_end t u r s (cc)

-- ---- every refusal has a line

-- what a refusal tells, as a line says it
abbrev pub line_details : Details → LineDetails
line_details t = record { number = t.number; leaf = t.leaf; subleaf = t.subleaf; s = t.s }

pub s_taken : (named : Bool) (s : ℕ) → (named || eqb s 0) ≡ true → s ≤ most_s → leb s (pick named most_s 0) ≡ true
s_taken true s e h = le-leb s most_s h
s_taken false s e h = le-leb s 0 (omega (arith, eqb-true s 0 e))
