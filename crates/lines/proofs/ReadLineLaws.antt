-- The details of a line, as they are read, and as they are after the writer.
use Rattle.std.specs.Prelude.{◌≡◌, Bool, ◌&&◌, ◌||◌, List, ◌∷◌, ◌++◌, ℕ, ◌^◌, ◌<◌, eqb, leb, None, Some}
use Rattle.std.proofs.Math.Path.{refl}
use Rattle.std.proofs.Common.{sym, ◌∙◌, append_assoc, arith, eqb-true}
use Rattle.std.proofs.Math.Bool.{true, false}
use Rattle.bits.specs.Choice.{pick}
use Rattle.bits.specs.ChoiceLaws.{and_left, and_right}
use Rattle.lines.specs.Digits.{hex}
use Rattle.lines.specs.FieldLaws.{hex_read, after_number}
use Rattle.lines.specs.declared.bytes.LineDetails.{LineDetails}
use Rattle.lines.specs.NumbersInUse.{names}
use Rattle.lines.proofs.NumbersInUseLaws.{used_below, subleaf_or_s}
use Rattle.lines.specs.Line.{space, is_none, most_s, LineFits, writable, fields, line}
use Rattle.lines.specs.ReadLine.{guess, same_bytes, read_line}
use Rattle.lines.specs.ReadLineLaws.{Rest, guess_line, rest_read, same_details, same_eq, same_refl}

-- the fields are read back, with a leaf and without
guess_fields : (d : LineDetails) (l : Bool)
    → (names d.number).leaf ≡ l
    → d.number < 2 ^ 32
    → d.leaf < 2 ^ 32
    → (l || eqb d.leaf 0) ≡ true
    → Rest (names d.number).subleaf (names d.number).s d.subleaf d.s
    → guess (line d) ≡ d
unfolding fields
guess_fields d true e n h p r =
    guess_line d space (hex d.leaf ++ (r.separator ∷ r.behind)) (omega arith) n (rw e (simp append_assoc (rw r.same)))
    ∙ rw (e, after_number 16 8 d.leaf r.separator r.behind r.below)
    (same_details d (hex_read d.leaf r.separator r.behind h r.below) r.subleaf_back r.s_back)
guess_fields d false e n h p r =
    guess_line d r.separator r.behind r.below n (rw e (simp append_assoc r.same))
    ∙ rw e (same_details d (sym (eqb-true d.leaf 0 p)) r.subleaf_back r.s_back)

-- what the writer wrote is guessed
pub guess_written : (d : LineDetails) → LineFits d → writable d ≡ true → guess (line d) ≡ d
unfolding writable
guess_written d f h =
    let k = names d.number in
    let leafOk = k.leaf || eqb d.leaf 0 in
    let subleafOk = k.subleaf || is_none d.subleaf in
    let sOk = leb d.s (pick k.s most_s 0) in
    let three = and_left ((k.used && leafOk) && subleafOk) sOk h in
    let two = and_left (k.used && leafOk) subleafOk three in
    guess_fields
    d
    k.leaf
    refl
    (used_below d.number (and_left k.used leafOk two))
    f.leaf
    (and_right k.used leafOk two)
    (rest_read
    k.subleaf
    k.s
    d.subleaf
    d.s
    (subleaf_or_s d.number)
    (and_right (k.used && leafOk) subleafOk three)
    (and_right ((k.used && leafOk) && subleafOk) sOk h)
    f.subleaf)

-- ---- the answer, by the tests that decide

module _ (l : List ℕ) {d : LineDetails} (g : d ≡ guess l) where
  pub read_none : writable d ≡ false → None ≡ read_line l
  unfolding read_line
  read_none e = rw (← g, e)

  pub read_same : writable d ≡ true → line d ≡ l → Some d ≡ read_line l
  unfolding read_line
  read_same e q = rw (← g, e, ← q, same_refl (line d))

  pub read_other : writable d ≡ true → (line d ≡ l → ⊥) → None ≡ read_line l
  unfolding read_line
  read_other e q = go (same_bytes (line d) l) refl
    where
      go : (b : Bool) → same_bytes (line d) l ≡ b → None ≡ read_line l
      go true p = absurd (q (same_eq (line d) l p))
      go false p = rw (← g, e, p)
