-- Document 02, P6: every line is read back and nothing else is read, "different refusals, details included, give different lines, and no line
-- begins another", and every refusal that is given has a line.
use Rattle.std.specs.Prelude.{◌≡◌, refl, Bool, true, false, ◌&&◌, List, [], ◌++◌, ℕ, ◌≤◌, leb, length, take, Err, None, Ok, Some}
use Rattle.std.proofs.Common.{sym, ap, ◌∙◌, append-nil, arith, leb-true, leb-false}
use Rattle.std.proofs.lemmas.List.Edits.{sets}
use Rattle.bits.specs.Choice.{pick}
use Rattle.bits.specs.ChoiceLaws.{and_left, and_right, and_both}
use Rattle.table.specs.declared.Refusal.{Refusal}
use Rattle.table.specs.declared.Refusal.TheVariants.{BufferTooShort}
use Rattle.table.specs.Refusal.{details}
use Rattle.lines.specs.declared.bytes.LineDetails.{LineDetails}
use Rattle.lines.specs.declared.bytes.names.Named.{Named}
use Rattle.lines.specs.Digits.{width}
use Rattle.lines.specs.DigitsLaws.{AtLeast, at_least_append, digits_at_least}
use Rattle.lines.specs.NumbersInUse.{names}
use Rattle.lines.proofs.NumbersNamedProof.{sets_named}
use Rattle.lines.specs.Line.{LineFits, most_s, fields_as, fields, writable, line}
use Rattle.lines.specs.WriteLine.{AfterLine, leaves, write_line}
use Rattle.lines.specs.WriteLineLaws.{write_none, write_short, write_whole, front}
use Rattle.lines.specs.ReadLine.{guess, same_bytes, read_line}
use Rattle.lines.specs.ReadLineLaws.{same_refl, same_eq, guess_fits}
use Rattle.lines.proofs.ReadLineLaws.{guess_written}
use Rattle.lines.specs.LinePromises.{LineOf, body, leaf_above, line_body, line_details, one_end, s_above, s_taken, subleaf_above}

-- every line is read back
pub read_written : (d : LineDetails) → LineFits d → writable d ≡ true → read_line (line d) ≡ Some d
unfolding read_line
read_written d f h = rw (guess_written d f h, h, same_refl (line d))

pub only_written_read : (l : List ℕ) (d : LineDetails) → read_line l ≡ Some d → LineOf l d
unfolding read_line
only_written_read l d e = go (writable (guess l) && same_bytes (line (guess l)) l) refl e
  where
    go : (b : Bool) → (writable (guess l) && same_bytes (line (guess l)) l) ≡ b → pick b (Some (guess l)) None ≡ Some d → LineOf l d
    go true p q =
        let g : guess l ≡ d = cc in
        rw (← g)
        (record {
          fits = guess_fits l;
          is_writable = and_left (writable (guess l)) (same_bytes (line (guess l)) l) p;
          same = sym (same_eq (line (guess l)) l (and_right (writable (guess l)) (same_bytes (line (guess l)) l) p));
        })
    go false p q = let z : ◌≡◌ {A = ℕ} 0 1 = cc in absurd (omega arith)

-- so the reader gives d for exactly the line of d
pub line_read : (l : List ℕ) (d : LineDetails) → LineOf l d → read_line l ≡ Some d
line_read l d h = ap read_line h.same ∙ read_written d h.fits h.is_writable

-- what was written into any lent buffer is read back from its front
pub write_then_read : (d : LineDetails) (buffer left : List ℕ) (n : ℕ)
    → LineFits d → write_line d buffer ≡ leaves (Some (Ok n)) left → read_line (take n left) ≡ Some d
write_then_read d buffer left n f e = go (writable d) refl (leb (length (line d)) (length buffer)) refl
  where
    go : (w : Bool) → writable d ≡ w → (r : Bool) → leb (length (line d)) (length buffer) ≡ r → read_line (take n left) ≡ Some d
    go true p true q =
        let room = leb-true (length (line d)) (length buffer) q in
        let x = sym (write_whole d buffer p room) ∙ e in
        let a : Some (Ok (length (line d))) ≡ Some (Ok n) = ap (λ (o : AfterLine). o.answer) x in
        let b : sets buffer 0 (line d) ≡ left = ap (λ (o : AfterLine). o.buffer) x in
        let m : length (line d) ≡ n = cc in
        ap read_line (front (line d) buffer (sym b) (sym m) (omega arith)) ∙ read_written d f p
    go true p false q =
        let x = sym (write_short d buffer p (leb-false (length (line d)) (length buffer) q)) ∙ e in
        let a : Some (Err BufferTooShort) ≡ Some (Ok n) = ap (λ (o : AfterLine). o.answer) x in
        let z : ◌≡◌ {A = ℕ} 0 1 = cc in
        absurd (omega arith)
    go false p r q =
        let x = sym (write_none d buffer p) ∙ e in
        let a : None ≡ Some (Ok n) = ap (λ (o : AfterLine). o.answer) x in
        let z : ◌≡◌ {A = ℕ} 0 1 = cc in
        absurd (omega arith)

-- different refusals have different lines
pub lines_differ : (d e : LineDetails) → LineFits d → LineFits e → writable d ≡ true → writable e ≡ true → line d ≡ line e → d ≡ e
lines_differ d e f g h k q =
    let a : read_line (line d) ≡ Some d = read_written d f h in
    let b : read_line (line e) ≡ Some e = read_written e g k in
    cc

fields_above : (k : Named) (d : LineDetails) → AtLeast 32 (fields_as k d)
fields_above k d =
    at_least_append (leaf_above k.leaf d.leaf) (at_least_append (subleaf_above k.subleaf d.subleaf) (s_above k.s d.s))

body_above : (d : LineDetails) → AtLeast 32 (body d)
unfolding fields
body_above d = at_least_append (digits_at_least 32 10 (width d.number) d.number (omega arith)) (fields_above (names d.number) d)

-- line d ++ t begins with line d: it is a line only where t is empty
pub no_line_begins_another : (d e : LineDetails) (t : List ℕ) → line d ++ t ≡ line e → t ≡ []
no_line_begins_another d e t q = one_end t [] (body_above d) (body_above e) (sym (line_body d t) ∙ q ∙ sym (append-nil (line e)) ∙ line_body e [])

pub every_refusal : (r : Refusal) → (details r).s ≤ most_s → writable (line_details (details r)) ≡ true
unfolding writable
every_refusal r h =
    let n = sets_named r in
    and_both (and_both (and_both n.used n.leaf) n.subleaf) (s_taken (names (details r).number).s (details r).s n.s h)
