-- Laws for the proof of `place_of`: the place of an entry whose leaf has subleaves, and which entries have no place. A computed test ties each
-- law to the table of kept leaves.
use Rattle.std.specs.Prelude.{◌≡◌, refl, Bool, true, false, not, ◌&&◌, ◌||◌, List, [], ◌∷◌, ◌⊎◌, ℕ, ◌+◌, ◌≤◌, ◌<◌, ltb, leb, eqb}
use Rattle.std.proofs.Common.{sym, ap, ◌∙◌, inl, inr, arith, eqb-true, ltb-true, ltb-false, lt-ltb, le-ltb, eq-eqb, ne_eqb}
use Rattle.std.proofs.lemmas.Bool.{false≢true, lt-leb}
use Rattle.bits.specs.Choice.{pick}
use Rattle.bits.specs.ChoiceLaws.{and_left, and_right, and_both, if_holds}
use Rattle.bits.specs.Lists.{tabulate}
use Rattle.bits.specs.ListsLaws.{tabulate_at}
use Rattle.x86defs.specs.declared.CpuidFunction.{CpuidFunction}
use Rattle.x86defs.specs.Functions.{function, same_function}
use Rattle.masking.specs.Kept.{Span, Kept, kept_leaves, places_of, places, takes, place_from, place_of}
use Rattle.masking.specs.Kept.Span.{made, whole, subleaves}

and_right_false : (a : Bool) {b : Bool} → b ≡ false → (a && b) ≡ false
and_right_false true e = e
and_right_false false e = refl

-- ---- entries that no row takes

-- whether a row takes no subleaf from n on
abbrev ends_by : Span → ℕ → Bool
ends_by made n = true
ends_by whole n = false
ends_by (subleaves first last) n = ltb last n

-- whether no row of a leaf that passes the test takes a subleaf from n on
abbrev pub all_end_by : (ℕ → Bool) → ℕ → List Kept → Bool
all_end_by test n [] = true
all_end_by test n (r ∷ rs) = pick (test r.leaf.0) (ends_by r.span n) true && all_end_by test n rs

past_end : (t : Span) (n k : ℕ) → ends_by t n ≡ true → n ≤ k → takes t k ≡ false
past_end made n k e h = refl
past_end whole n k e h = absurd (false≢true e)
past_end (subleaves first last) n k e h = let l : last < n = ltb-true last n e in and_right_false (leb first k) (lt-leb k last (omega arith))

-- then an entry of such a leaf, with a subleaf from n on, is filtered
pub filtered_from : (test : ℕ → Bool) (n : ℕ) (rs : List Kept) (i : ℕ) (l : CpuidFunction) (k : ℕ)
    → all_end_by test n rs ≡ true → test l.0 ≡ true → n ≤ k → place_from rs i l k ≡ places
filtered_from test n [] i l k e p h = refl
filtered_from test n (r ∷ rs) i l k e p h =
    rw (misses (same_function r.leaf l) refl) (filtered_from test n rs (i + places_of r.span) l k (and_right (pick (test r.leaf.0) (ends_by r.span n) true) _ e) p h)
  where
    misses : (b : Bool) → same_function r.leaf l ≡ b → (b && takes r.span k) ≡ false
    misses false q = refl
    misses true q =
        let here : test r.leaf.0 ≡ true = ap test (eqb-true r.leaf.0 l.0 q) ∙ p in
        past_end r.span n k (if_holds (test r.leaf.0) _ (and_left _ _ e) here) h

-- ---- a leaf with subleaves

-- the place of subleaf k of leaf n; the subleaves of n below count have the places from first on, and its other subleaves have none
pub subleaf_run : (first count k : ℕ) {n r : ℕ} {l : CpuidFunction} → l.0 ≡ n → r ≡ pick (ltb k count) (first + k) places
    → tabulate count (λ j. first + j) ≡ tabulate count (place_of (function n)) → all_end_by (eqb n) count (kept_leaves false) ≡ true
    → r ≡ place_of l k
unfolding place_of
subleaf_run first count k {n} p q e f = q ∙ go (ltb k count) refl ∙ ap (λ (m : ℕ). place_of (function m) k) (sym p)
  where
    go : (b : Bool) → ltb k count ≡ b → pick b (first + k) places ≡ place_of (function n) k
    go true u = tabulate_at count (λ j. first + j) (place_of (function n)) e k (ltb-true k count u)
    go false u = sym (filtered_from (eqb n) count (kept_leaves false) 0 (function n) k f (eq-eqb n n refl) (ltb-false k count u))

-- ---- any other leaf

-- n is none of these numbers, and the test for it
abbrev NoneOf : List ℕ → ℕ → Type 0
NoneOf [] n = Unit
NoneOf (x ∷ xs) n = NoneOf xs n × (n ≡ x → ⊥)

abbrev none_of : List ℕ → ℕ → Bool
none_of [] n = true
none_of (x ∷ xs) n = not (eqb n x) && none_of xs n

none_of_lem : (xs : List ℕ) (n : ℕ) → NoneOf xs n → none_of xs n ≡ true
none_of_lem [] n h = refl
none_of_lem (x ∷ xs) n h = rw (ne_eqb n x h.1) (none_of_lem xs n h.0)

-- the leaves that are read from pages: these, and the run of 80000001h to 80000008h
abbrev single_leaves : List ℕ
single_leaves =
    0x8000001F ∷ 0x8000001E ∷ 0x8000001D ∷ 0x8000001A ∷ 0x80000019 ∷ 0x8000000A ∷ 0xD ∷ 0xB ∷ 0x7 ∷ 0x5 ∷ 0x1 ∷ []

abbrev unlisted : ℕ → Bool
unlisted n = (ltb n 0x80000001 || ltb 0x80000008 n) && none_of single_leaves n

outside : (n : ℕ) → (n < 0x80000001) ⊎ (0x80000008 < n) → (ltb n 0x80000001 || ltb 0x80000008 n) ≡ true
outside n (inl h) = rw (lt-ltb n 0x80000001 h)
outside n (inr h) = rw (le-ltb n 0x80000001 (omega arith), lt-ltb 0x80000008 n h)

-- an entry of a leaf that is not listed is filtered
pub filtered : (l : CpuidFunction) (k : ℕ) → NoneOf single_leaves l.0 → (l.0 < 0x80000001) ⊎ (0x80000008 < l.0) → places ≡ place_of l k
unfolding place_of kept_leaves
filtered l k none out =
    sym (filtered_from unlisted 0 (kept_leaves false) 0 l k refl (and_both (outside l.0 out) (none_of_lem single_leaves l.0 none)) (omega arith))
