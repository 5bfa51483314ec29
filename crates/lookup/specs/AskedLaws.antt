-- Laws for the proof of `place_asked`: the places of a leaf with subleaves, and the place of one without.
use Rattle.std.specs.Prelude.{◌≡◌, Bool, true, false, not, ◌&&◌, ◌≢◌, ℕ, ◌+◌, ◌-◌, ◌^◌, ◌≤◌, ◌<◌, eqb, ltb, leb, None, Option, Some}
use Rattle.std.proofs.Math.Path.{refl}
use Rattle.std.proofs.Common.{sym, ap, ◌∙◌, arith, eqb-true, ne_eqb, le-leb, ltb-true, ltb-false, lt-ltb}
use Rattle.bits.specs.Choice.{pick}
use Rattle.bits.specs.ChoiceLaws.{pick_true}
use Rattle.bits.specs.Lists.{tabulate}
use Rattle.x86defs.specs.declared.CpuidFunction.{CpuidFunction}
use Rattle.x86defs.specs.Functions.{function}
use Rattle.masking.specs.Kept.{kept_leaves, places, place_of}
use Rattle.masking.specs.Place
use Rattle.masking.specs.RunLaws.{on_run}
use Rattle.masking.specs.PlaceOfLaws.{all_end_by, filtered_from, subleaf_run}
use Rattle.lookup.specs.declared.Span.{Span}
use Rattle.lookup.specs.Lookup.{with_subleaves, place_whole, place_alone, span_of, place_asked, at_place, is_place}

-- ---- a place as code has it

pub at_below : {i p : ℕ} → i ≡ p → i < places → Some i ≡ at_place p
at_below {i} {p} e h = rw (← e, lt-ltb i places h)

pub at_past : {p : ℕ} → places ≡ p → None ≡ at_place p
at_past e = rw (← e)

-- the number again, and whether there is one
abbrev place_in : Option ℕ → ℕ
place_in (Some i) = i
place_in None = places

abbrev somewhere : Option ℕ → Bool
somewhere (Some i) = true
somewhere None = false

module _ {a : Option ℕ} (p : ℕ) (e : a ≡ at_place p) where
  somewhere_below : somewhere a ≡ ltb p places
  somewhere_below = ap somewhere e ∙ go (ltb p places)
    where
      go : (b : Bool) → somewhere (pick b (Some p) None) ≡ b
      go true = refl
      go false = refl

  asked_below : {i : ℕ} → a ≡ Some i → p < places
  asked_below f = ltb-true p places (sym somewhere_below ∙ ap somewhere f)

  pub asked_place : {i : ℕ} → a ≡ Some i → i ≡ p
  asked_place f = sym (ap place_in f) ∙ ap place_in (e ∙ pick_true (Some p) None (lt-ltb p places (asked_below f)))

  pub asked_inside : {i : ℕ} → a ≡ Some i → i < places
  asked_inside f = rw (asked_place f) (asked_below f)

  pub asked_is_place : is_place a ≡ true
  asked_is_place = ap is_place e ∙ go (ltb p places) refl
    where
      go : (b : Bool) → ltb p places ≡ b → is_place (pick b (Some p) None) ≡ true
      go true f = f
      go false f = refl

  pub asked_past : a ≡ None → places ≤ p
  asked_past f = ltb-false p places (sym somewhere_below ∙ ap somewhere f)

-- ---- a leaf with subleaves

abbrev span : ℕ → ℕ → Span
span first count = record { first = first; count = count }

-- which of the four it is, or none
pub data Which (l : CpuidFunction) : Type 0 where
  one : (n first count : ℕ) → l.0 ≡ n → span_of l ≡ span first count → first + count ≤ places → count ≢ 0 → with_subleaves (function n) ≡ true
      → tabulate count (λ j. first + j) ≡ tabulate count (place_of (function n)) → all_end_by (eqb n) count (kept_leaves false) ≡ true → Which l
  none : span_of l ≡ span 0 0 → with_subleaves l ≡ false → Which l

which : (l : CpuidFunction) → Which l
unfolding span_of with_subleaves place_of kept_leaves tabulate
which l = a (eqb l.0 0xD) refl
  where
    d : (b : Bool) → eqb l.0 0x7 ≡ b → eqb l.0 0xB ≡ false → eqb l.0 0x8000001D ≡ false → eqb l.0 0xD ≡ false → Which l
    d true q r s t = one 0x7 Place.extended_features 1 (eqb-true _ _ q) (rw (t, s, r, q)) (omega arith) (λ z. omega arith) refl refl refl
    d false q r s t = none (rw (t, s, r, q)) (rw (q, r, t, s))

    c : (b : Bool) → eqb l.0 0xB ≡ b → eqb l.0 0x8000001D ≡ false → eqb l.0 0xD ≡ false → Which l
    c true r s t = one 0xB Place.thread_level 2 (eqb-true _ _ r) (rw (t, s, r)) (omega arith) (λ z. omega arith) refl refl refl
    c false r s t = d (eqb l.0 0x7) refl r s t

    b : (b : Bool) → eqb l.0 0x8000001D ≡ b → eqb l.0 0xD ≡ false → Which l
    b true s t = one 0x8000001D (Place.cache_topology 0) 4 (eqb-true _ _ s) (rw (t, s)) (omega arith) (λ z. omega arith) refl refl refl
    b false s t = c (eqb l.0 0xB) refl s t

    a : (b : Bool) → eqb l.0 0xD ≡ b → Which l
    a true t = one 0xD (Place.extended_state 0) 64 (eqb-true _ _ t) (rw t) (omega arith) (λ z. omega arith) refl refl refl
    a false t = b (eqb l.0 0x8000001D) refl t

pub spans_fit : (l : CpuidFunction) → (span_of l).first + (span_of l).count ≤ places
spans_fit l = elim (which l) [
  | one n first count p e f z w t a ↦ rw e f
  | none e w ↦ rw e (omega arith)
]

-- the place of a subleaf of a leaf that has them
pub within_span : (l : CpuidFunction) (k : ℕ) (enforce : Bool) {r : ℕ} → (span_of l).count ≢ 0
    → r ≡ pick (ltb k (span_of l).count) ((span_of l).first + k) places → r ≡ place_asked l (Some k) enforce
unfolding place_asked
within_span l k enforce {r} h q = elim (which l) [
  | one n first count p e f z w t a ↦
      subleaf_run first count k p (q ∙ ap (λ (x : Span). pick (ltb k x.count) (x.first + k) places) e) t a
      ∙ sym (pick_true _ _ (ap (λ (m : ℕ). with_subleaves (function m)) p ∙ w))
  | none e w ↦ absurd (h (ap (λ (x : Span). x.count) e))
]

-- a leaf that has none
pub without_span : (l : CpuidFunction) → (span_of l).count ≡ 0 → with_subleaves l ≡ false
without_span l h = elim (which l) [
  | one n first count p e f z w t a ↦ absurd (z (sym (ap (λ (x : Span). x.count) e) ∙ h))
  | none e w ↦ w
]

-- ---- a leaf without subleaves

pub alone_basic : (n : ℕ) → n < 0x2 → n ≡ place_alone (function n)
unfolding place_alone with_subleaves place_whole place_of kept_leaves tabulate
alone_basic n h = on_run (λ n. n) (λ n. place_alone (function n)) {a = 0} {b = 0x2} {i = n} (omega arith) h refl

pub alone_mwait : (n : ℕ) → n ≡ 5 → Place.monitor_mwait ≡ place_alone (function n)
unfolding place_alone with_subleaves place_whole place_of kept_leaves
alone_mwait n h = rw h

pub alone_extended : (n : ℕ) → 0x80000000 ≤ n → n < 0x80000009 → Place.extended_max_function + (n - 0x80000000) ≡ place_alone (function n)
unfolding place_alone with_subleaves place_whole place_of kept_leaves tabulate
alone_extended n g h = on_run (λ n. Place.extended_max_function + (n - 0x80000000)) (λ n. place_alone (function n)) {i = n} g h refl

pub alone_svm : (n : ℕ) → n ≡ 0x8000000A → 79 ≡ place_alone (function n)
unfolding place_alone with_subleaves place_whole place_of kept_leaves
alone_svm n h = rw h

pub alone_tlb : (n : ℕ) → 0x80000019 ≤ n → n < 0x8000001B → 80 + (n - 0x80000019) ≡ place_alone (function n)
unfolding place_alone with_subleaves place_whole place_of kept_leaves tabulate
alone_tlb n g h = on_run (λ n. 80 + (n - 0x80000019)) (λ n. place_alone (function n)) {i = n} g h refl

pub alone_last : (n : ℕ) → 0x8000001E ≤ n → n < 0x80000020 → Place.processor_topology_definition + (n - 0x8000001E) ≡ place_alone (function n)
unfolding place_alone with_subleaves place_whole place_of kept_leaves tabulate
alone_last n g h = on_run (λ n. Place.processor_topology_definition + (n - 0x8000001E)) (λ n. place_alone (function n)) {i = n} g h refl

-- any other leaf: it has subleaves, or no table has it

-- whether a leaf from a on and below b, other than e, has no subleaves
abbrev between : ℕ → ℕ → ℕ → ℕ → Bool
between a b e x = leb a x && (ltb x b && (not (eqb x e) && not (with_subleaves (function x))))

none_between : (n a b e : ℕ) → n ≢ 0 → n ≢ 0x80000000 → a ≤ n → n < b → n ≢ e → all_end_by (between a b e) 0 (kept_leaves false) ≡ true
    → places ≡ place_alone (function n)
unfolding place_alone place_whole place_of
none_between n a b e n0 m low high other h = go (with_subleaves (function n)) refl
  where
    go : (w : Bool) → with_subleaves (function n) ≡ w → places ≡ pick w places (place_whole (function n))
    go true w = refl
    go false w =
        let inside : between a b e n ≡ true = rw (le-leb a n low, lt-ltb n b high, ne_eqb n e other, w) in
        sym (filtered_from (between a b e) 0 (kept_leaves false) 0 (function n) 0 h inside (omega arith))
        ∙ sym (rw (ne_eqb n 0 n0, ne_eqb n 0x80000000 m))

module _ (n : ℕ) where
  pub none_basic : 0x2 ≤ n → n < 0x80000000 → n ≢ 5 → places ≡ place_alone (function n)
  unfolding with_subleaves kept_leaves
  none_basic g h e = none_between n 0x2 0x80000000 5 (λ q. omega arith) (λ q. omega arith) g h e refl

  pub none_extended : 0x80000009 ≤ n → n < 0x80000019 → n ≢ 0x8000000A → places ≡ place_alone (function n)
  unfolding with_subleaves kept_leaves
  none_extended g h e = none_between n 0x80000009 0x80000019 0x8000000A (λ q. omega arith) (λ q. omega arith) g h e refl

  pub none_tlb : 0x8000001B ≤ n → n < 0x8000001E → places ≡ place_alone (function n)
  unfolding with_subleaves kept_leaves
  none_tlb g h = none_between n 0x8000001B 0x8000001E 0 (λ q. omega arith) (λ q. omega arith) g h (λ q. omega arith) refl

  pub none_last : 0x80000020 ≤ n → n < 2 ^ 32 → places ≡ place_alone (function n)
  unfolding with_subleaves kept_leaves
  none_last g h = none_between n 0x80000020 (2 ^ 32) 0 (λ q. omega arith) (λ q. omega arith) g h (λ q. omega arith) refl
