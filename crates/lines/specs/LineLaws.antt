-- How long a line is, and a line stored piece by piece.
use Rattle.std.specs.Prelude.{◌≡◌, refl, Bool, true, false, List, ◌++◌, ℕ, ◌+◌, ◌≤◌, length, None, Option, Some}
use Rattle.std.proofs.Common.{◌∙◌, arith, length-append}
use Rattle.std.proofs.lemmas.List.Edits.{sets}
use Rattle.bits.specs.Choice.{pick}
use Rattle.buffer.specs.FrontLaws.{sets_append}
use Rattle.lines.specs.declared.bytes.LineDetails.{LineDetails}
use Rattle.lines.specs.declared.bytes.names.Named.{Named}
use Rattle.lines.specs.Digits.{width, decimal}
use Rattle.lines.specs.DigitsLaws.{length_digits, width_le}
use Rattle.lines.specs.NumbersInUse.{names}
use Rattle.lines.specs.Line.{leaf_field, subleaf_field, s_field, fields_as, fields, line}

-- ---- lengths

pub length_leaf : (b : Bool) (leaf : ℕ) → length (leaf_field b leaf) ≡ pick b 9 0
length_leaf true leaf = omega (arith, length_digits 16 8 leaf)
length_leaf false leaf = refl

pub length_leaf_named : {b : Bool} (leaf : ℕ) → b ≡ true → length (leaf_field b leaf) ≡ 9
length_leaf_named leaf e = rw e (length_leaf true leaf)

pub length_subleaf : (b : Bool) (k : Option ℕ) → length (subleaf_field b k) ≤ pick b 11 0
length_subleaf true None = omega arith
length_subleaf true (Some k) = omega (arith, length_digits 10 (width k) k, width_le k)
length_subleaf false k = omega arith

pub length_s : (b : Bool) (s : ℕ) → length (s_field b s) ≤ pick b 11 0
length_s true s = omega (arith, length_digits 10 (width s) s, width_le s)
length_s false s = omega arith

-- what the details are, by what the number names
module _ (d : LineDetails) {k : Named} (e : k ≡ names d.number) where
  pub fields_named : fields d ≡ fields_as k d
  unfolding fields
  fields_named = rw (← e)

  pub length_fields : length (fields d)
      ≡ length (leaf_field k.leaf d.leaf) + length (subleaf_field k.subleaf d.subleaf) + length (s_field k.s d.s)
  length_fields = rw fields_named (simp length-append (omega arith))

pub length_parts : (d : LineDetails) → length (line d) ≡ length (decimal d.number) + length (fields d) + 1
unfolding line
length_parts d = simp length-append (omega arith)

-- ---- stores one after another

-- three runs
pub three_sets : (l a b e x y z : List ℕ) (i j k : ℕ)
    → a ≡ sets l i x → j ≡ i + length x → b ≡ sets a j y → k ≡ j + length y → e ≡ sets b k z → e ≡ sets l i (x ++ (y ++ z))
three_sets l a b e x y z i j k p q r s t =
    let first : e ≡ sets (sets a j y) (j + length y) z = t ∙ rw (r, s) in
    first ∙ sets_append y z a j ∙ rw (p, q) (sets_append x (y ++ z) l i)
