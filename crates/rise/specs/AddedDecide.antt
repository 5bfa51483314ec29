-- Added entries by computation, so that a pair of page sets can be shown to be one. Entries whose 48 bytes are equal are equal in what is read.
use Rattle.std.specs.Prelude.{◌≡◌, Bool, true, ◌&&◌, List, ℕ, ◌+◌, ◌-◌, ◌*◌, ◌≤◌, ◌<◌, eqb, ltb, leb, get_or, take, drop, Ok}
use Rattle.std.proofs.Common.{sym, ap, ◌∙◌, arith, get_or-take, get_or-drop, eqb-true, ltb-true, lt-ltb}
use Rattle.bits.specs.Choice.{pick}
use Rattle.bits.specs.ChoiceLaws.{and_left, and_right, if_holds}
use Rattle.bits.specs.Search.{every}
use Rattle.bits.specs.SearchLaws.{every_at}
use Rattle.bits.specs.Lists.{tabulate}
use Rattle.x86defs.specs.Functions.{function, cpuid_result}
use Rattle.pages.specs.Layout.{page_size, entry_size, entries_at, word_at, pages_in, count_of, entry_at}
use Rattle.collect.specs.Lawful.{lawful_verdict}
use Rattle.rise.specs.Added.{LastWithEntries}
use Rattle.table.specs.Verdict.{Verdict}

abbrev pub is_last : List ℕ → ℕ → Bool
is_last s p = ltb 0 (count_of s p) && every (λ q. pick (ltb p q) (eqb (count_of s q) 0) true) (pages_in s)

pub is_last_lem : (s : List ℕ) (p : ℕ) → is_last s p ≡ true → LastWithEntries s p
is_last_lem s p e = record {
  some = ltb-true _ _ (and_left _ _ e);
  after = λ q l h.
      eqb-true _ _
      (if_holds (ltb p q) _
      (every_at (λ q. pick (ltb p q) (eqb (count_of s q) 0) true) (pages_in s) (and_right (ltb 0 (count_of s p)) _ e) q h) (lt-ltb p q l));
}

abbrev pub count_test : List ℕ → List ℕ → ℕ → Bool
count_test s u p = pick (eqb (count_of u p) (count_of s p)) true (is_last s p && leb (count_of s p) (count_of u p))

-- the bytes of u from offset a on, n of them, are those of s
abbrev pub SameBytes : List ℕ → List ℕ → ℕ → ℕ → Type 0
SameBytes s u a n = (i : ℕ) → a ≤ i → i < a + n → get_or u i 0 ≡ get_or s i 0

word_same : (s u : List ℕ) (a n o : ℕ) → SameBytes s u a n → a ≤ o → o + 4 ≤ a + n → word_at u o ≡ word_at s o
word_same s u a n o f l h =
    rw (
      f o l (omega arith),
      f (o + 1) (omega arith) (omega arith),
      f (o + 2) (omega arith) (omega arith),
      f (o + 3) (omega arith) (omega arith),
    )

-- an entry whose 48 bytes stand where they stood
pub entry_same : (s u : List ℕ) (p q : ℕ) → SameBytes s u (page_size * p + entries_at + entry_size * q) entry_size → entry_at u p q ≡ entry_at s p q
unfolding entry_at
entry_same s u p q f = λ k. record {
  page = p;
  position = q;
  leaf = function (word o (omega arith) (omega arith) k);
  subleaf = word (o + 4) (omega arith) (omega arith) k;
  registers =
      cpuid_result (word (o + 24) (omega arith) (omega arith) k) (word (o + 28) (omega arith) (omega arith) k)
      (word (o + 32) (omega arith) (omega arith) k) (word (o + 36) (omega arith) (omega arith) k);
}
  where
    o : ℕ
    o = page_size * p + entries_at + entry_size * q

    word : (i : ℕ) → o ≤ i → i + 4 ≤ o + entry_size → word_at u i ≡ word_at s i
    word i l h = word_same s u o entry_size i f l h

-- the bytes of u where page p of s has its entries
abbrev pub entry_bytes : List ℕ → List ℕ → ℕ → List ℕ
entry_bytes s u p = take (entry_size * count_of s p) (drop (page_size * p + entries_at) u)

pub page_bytes_lem : (s u : List ℕ) (p : ℕ) → entry_bytes s u p ≡ entry_bytes s s p → SameBytes s u (page_size * p + entries_at) (entry_size * count_of s p)
page_bytes_lem s u p e i l h = sym (at u) ∙ ap (λ (bytes : List ℕ). get_or bytes (i - o) 0) e ∙ at s
  where
    o : ℕ
    o = page_size * p + entries_at

    at : (w : List ℕ) → get_or (entry_bytes s w p) (i - o) 0 ≡ get_or w i 0
    at w =
        get_or-take (entry_size * count_of s p) (drop o w) (i - o) 0 (omega arith)
        ∙ get_or-drop o w (i - o) 0
        ∙ ap (λ (j : ℕ). get_or w j 0) (omega arith)

abbrev pub page_test : List ℕ → List ℕ → Bool
page_test s u = leb (pages_in s) (pages_in u) && every (count_test s u) (pages_in s)

abbrev bytes_of_entries : List ℕ → List ℕ → List (List ℕ)
bytes_of_entries s u = tabulate (pages_in s) (entry_bytes s u)

-- what is computed of the two, and what it has to be
abbrev pub Figures : Type 0
Figures = Verdict × Bool × List (List ℕ)

abbrev pub figures_of : List ℕ → List ℕ → Figures
figures_of s u = (lawful_verdict u, page_test s u, bytes_of_entries s u)

abbrev pub figures_wanted : List ℕ → Figures
figures_wanted s = ((Ok tt), true, bytes_of_entries s s)
