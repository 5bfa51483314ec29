-- Each answer of the writer of lines holds under exactly its condition, and a line is writable exactly where its details can be named.
use Rattle.std.specs.Prelude.{◌≡◌, refl, Bool, true, false, ◌&&◌, ◌||◌, List, ◌++◌, ◌↔◌, ◌≢◌, ℕ, ◌≤◌, ◌<◌, eqb, leb, length, drop, Err, None, Ok, Option, Some}
use Rattle.std.proofs.Common.{arith, leb-true, leb-false, eqb-true, eq-eqb, le-leb}
use Rattle.bits.specs.Choice.{pick}
use Rattle.bits.specs.ChoiceLaws.{never_both, and_left, and_right, and_both, impossible}
use Rattle.table.specs.declared.Refusal.TheVariants.{BufferTooShort}
use Rattle.buffer.specs.Front.{write_front}
use Rattle.lines.specs.declared.bytes.LineDetails.{LineDetails}
use Rattle.lines.specs.declared.bytes.names.Named.{Named}
use Rattle.lines.specs.NumbersInUse.{names}
use Rattle.lines.specs.Line.{is_none, most_s, writable_as, writable, line}
use Rattle.lines.specs.WriteLine.{AfterLine, write_line}
use Rattle.lines.specs.LineExactly.{LineExactly, Nameable}

pub exactly_at : (d : LineDetails) (buffer : List ℕ) (w : AfterLine) → w ≡ write_line d buffer → LineExactly d buffer w
unfolding write_line write_front
exactly_at d buffer w made = go (writable d) refl (leb (length (line d)) (length buffer)) refl
  where
    go : (b : Bool) → writable d ≡ b → (l : Bool) → leb (length (line d)) (length buffer) ≡ l → LineExactly d buffer w
    go false e l q =
        let o : w ≡ record { answer = None; buffer = buffer } = rw (made, e) in
        record {
          none = (λ p. e, λ p. cc);
          short = (λ p. impossible (cc), λ p. absurd (never_both p.0 e));
          written = λ n. (λ p. impossible (cc), λ p. absurd (never_both p.0 e));
          only_short = λ r p. cc;
          none_untouched = λ p. cc;
          short_untouched = λ r p. cc;
          beyond = λ n p. cc;
        }
    go true e true q =
        let o : w ≡ record { answer = Some (Ok (length (line d))); buffer = line d ++ drop (length (line d)) buffer } = rw (made, e, q) in
        let fits : length (line d) ≤ length buffer = leb-true _ _ q in
        record {
          none = (λ p. impossible (cc), λ p. absurd (never_both e p));
          short = (λ p. impossible (cc), λ p. absurd (omega arith));
          written = λ n. (λ p. let same : n ≡ length (line d) = cc in (e, same, omega arith), λ p. cc);
          only_short = λ r p. cc;
          none_untouched = λ p. cc;
          short_untouched = λ r p. cc;
          beyond = λ n p. cc;
        }
    go true e false q =
        let o : w ≡ record { answer = Some (Err BufferTooShort); buffer = buffer } = rw (made, e, q) in
        let over : length buffer < length (line d) = leb-false _ _ q in
        record {
          none = (λ p. impossible (cc), λ p. absurd (never_both e p));
          short = (λ p. (e, over), λ p. cc);
          written = λ n. (λ p. impossible (cc), λ p. absurd (omega arith));
          only_short = λ r p. cc;
          none_untouched = λ p. cc;
          short_untouched = λ r p. cc;
          beyond = λ n p. cc;
        }

-- ---- which details have a line

leaf_named : (a : Bool) (n : ℕ) → (a || eqb n 0) ≡ true → n ≢ 0 → a ≡ true
leaf_named true n e h = refl
leaf_named false n e h = absurd (h (eqb-true n 0 e))

named_leaf : (a : Bool) (n : ℕ) → (n ≢ 0 → a ≡ true) → (a || eqb n 0) ≡ true
named_leaf true n h = refl
named_leaf false n h = go (eqb n 0) refl
  where
    go : (b : Bool) → eqb n 0 ≡ b → b ≡ true
    go true e = refl
    go false e = h (λ z. never_both (eq-eqb n 0 z) e)

named_subleaf : (a : Bool) (k : Option ℕ) → ((j : ℕ) → k ≡ Some j → a ≡ true) → (a || is_none k) ≡ true
named_subleaf true k h = refl
named_subleaf false None h = refl
named_subleaf false (Some j) h = h j refl

subleaf_named_lem : (a : Bool) (k : Option ℕ) → (a || is_none k) ≡ true → (j : ℕ) → k ≡ Some j → a ≡ true
subleaf_named_lem true k e j p = refl
subleaf_named_lem false None e j p = cc
subleaf_named_lem false (Some i) e j p = e

small_s : (a : Bool) (n : ℕ) → leb n (pick a most_s 0) ≡ true → (n ≢ 0 → a ≡ true) × (n ≤ most_s)
small_s true n e = (λ h. refl, leb-true n most_s e)
small_s false n e = let z : n ≤ 0 = leb-true n 0 e in (λ h. absurd (h (omega arith)), omega arith)

s_small : (a : Bool) (n : ℕ) → (n ≢ 0 → a ≡ true) → n ≤ most_s → leb n (pick a most_s 0) ≡ true
s_small true n h l = le-leb n most_s l
s_small false n h l = go (leb n 0) refl
  where
    go : (b : Bool) → leb n 0 ≡ b → b ≡ true
    go true e = refl
    go false e = let p : 0 < n = leb-false n 0 e in h (λ z. omega arith)

pub writable_means : (d : LineDetails) → (writable d ≡ true) ↔ Nameable (names d.number) d
unfolding writable
writable_means d = (forth (names d.number), back (names d.number))
  where
    forth : (k : Named) → writable_as k d ≡ true → Nameable k d
    forth k e =
        let e₁ : ((k.used && (k.leaf || eqb d.leaf 0)) && (k.subleaf || is_none d.subleaf)) ≡ true = and_left _ _ e in
        let e₂ : (k.used && (k.leaf || eqb d.leaf 0)) ≡ true = and_left _ _ e₁ in
        let e₃ = small_s k.s d.s (and_right ((k.used && (k.leaf || eqb d.leaf 0)) && (k.subleaf || is_none d.subleaf)) _ e) in
        record {
          used = and_left _ _ e₂;
          leaf = leaf_named k.leaf d.leaf (and_right k.used _ e₂);
          subleaf = subleaf_named_lem k.subleaf d.subleaf (and_right (k.used && (k.leaf || eqb d.leaf 0)) _ e₁);
          s = e₃.0;
          small = e₃.1;
        }

    back : (k : Named) → Nameable k d → writable_as k d ≡ true
    back k n =
        and_both
        (and_both (and_both n.used (named_leaf k.leaf d.leaf n.leaf)) (named_subleaf k.subleaf d.subleaf n.subleaf))
        (s_small k.s d.s n.s n.small)
