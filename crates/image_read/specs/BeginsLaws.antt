-- Whether bytes begin with a row, as the code has it: an index for what is left, and a run for the place.
use Rattle.std.specs.Prelude.{◌≡◌, Bool, ◌&&◌, List, ℕ, ◌+◌, ◌-◌, ◌≤◌, ◌<◌, get_or, drop}
use Rattle.std.proofs.Math.Path.{sym}
use Rattle.std.proofs.Common.{ap, ◌∙◌, add_assoc, add-zero, arith}
use Rattle.std.proofs.Math.Bool.{true, false}
use Rattle.std.proofs.Math.Dec.{eqb}
use Rattle.std.proofs.Math.ListN.{length, length-drop}
use Rattle.std.proofs.Math.Seq.{get_or-drop}
use borrow.Author.Tests.{leb-true, le-leb, lt-leb, eq-eqb, ne_eqb}
use Rattle.bits.specs.Choice.{pick}
use Rattle.bits.specs.ChoiceLaws.{and_left}
use Rattle.x86defs.specs.declared.CpuidFunction.{CpuidFunction}
use Rattle.x86defs.specs.Functions.{function}
use Rattle.pages.specs.Layout.{word_at, registers_at}
use Rattle.masking.specs.declared.run.Run.{Run}
use Rattle.masking.specs.Kept.{leaf_at, indexed_at, subleaf_at}
use Rattle.masking.specs.Runs.{lawful_run}
use Rattle.masking.specs.RunLaws.{leaf_in_run, indexed_in_run, subleaf_in_run}
use Rattle.image_read.specs.ReadImage.{opens, begins}
use Rattle.image_read.specs.ImageRuns.{run_begins}

-- ---- what is left, by its index

module _ (s : List ℕ) (o : ℕ) where
  pub word_left : (k : ℕ) → word_at (drop o s) k ≡ word_at s (o + k)
  word_left k = simp (get_or-drop, add_assoc)

  pub registers_left : (k : ℕ) → registers_at (drop o s) k ≡ registers_at s (o + k)
  unfolding registers_at
  registers_left k = simp (get_or-drop, add_assoc)

  -- the registers are the last sixteen of a row's n bytes
  pub registers_end : (n : ℕ) (b : Bool) → n ≡ pick b 25 21 → registers_at s (o + n - 16) ≡ registers_at (drop o s) (pick b 9 5)
  registers_end n true e = let f : o + n - 16 ≡ o + 9 = omega arith in rw f (sym (registers_left 9))
  registers_end n false e = let f : o + n - 16 ≡ o + 5 = omega arith in rw f (sym (registers_left 5))

  -- a row's kind and leaf: too few bytes; another kind; the kind
  module _ (n kind leaf : ℕ) where
    pub opens_short : length s - o < n → opens (drop o s) n kind leaf ≡ false
    unfolding opens
    opens_short h = rw (length-drop o s, lt-leb n (length s - o) h)

    pub opens_other : n ≤ length s - o → (get_or s o 0 ≡ kind → ⊥) → opens (drop o s) n kind leaf ≡ false
    unfolding opens
    opens_other h e = simp (length-drop, get_or-drop, add-zero) (rw (le-leb n (length s - o) h, ne_eqb (get_or s o 0) kind e))

    pub opens_kind : n ≤ length s - o → get_or s o 0 ≡ kind → opens (drop o s) n kind leaf ≡ eqb (word_at s (o + 1)) leaf
    unfolding opens
    opens_kind h e = rw (word_left 1) (simp (length-drop, get_or-drop, add-zero) (rw (le-leb n (length s - o) h, eq-eqb (get_or s o 0) kind e)))

    pub opens_long : opens (drop o s) n kind leaf ≡ true → n ≤ length s - o
    unfolding opens
    opens_long e = rw length-drop at (leb-true n (length (drop o s)) (and_left _ _ e))

  -- the row of a run's k-th place, with a subleaf and without
  module _ (g : Run) (k : ℕ) where
    pub run_indexed : g.indexed ≡ true → opens (drop o s) 25 2 g.leaf.0 ≡ true → run_begins (drop o s) g k ≡ eqb (word_at s (o + 5)) k
    unfolding run_begins
    run_indexed p e = rw (p, e) (ap (λ (n : ℕ). eqb n k) (word_left 5))

    pub run_shut : g.indexed ≡ true → opens (drop o s) 25 2 g.leaf.0 ≡ false → run_begins (drop o s) g k ≡ false
    unfolding run_begins
    run_shut p e = rw (p, e)

    pub run_whole : g.indexed ≡ false → run_begins (drop o s) g k ≡ opens (drop o s) 21 1 (g.leaf.0 + k)
    unfolding run_begins
    run_whole p = rw p

  -- a row that begins there is there to its end
  begins_long : (i : ℕ) → begins (drop o s) i ≡ true → pick (indexed_at i) 25 21 ≤ length s - o
  unfolding begins
  begins_long i = go (indexed_at i)
    where
      go : (b : Bool)
          → pick b (opens (drop o s) 25 2 (leaf_at i).0 && eqb (word_at (drop o s) 5) (subleaf_at i)) (opens (drop o s) 21 1 (leaf_at i).0) ≡ true
          → pick b 25 21 ≤ length s - o
      go true e = opens_long 25 2 (leaf_at i).0 (and_left _ _ e)
      go false e = opens_long 21 1 (leaf_at i).0 e

-- ---- a place, by the run in which it stands

stands_begins : (b : Bool) (leaf : CpuidFunction) (k i : ℕ) (l : List ℕ)
    → b ≡ indexed_at i → pick b leaf (function (leaf.0 + k)) ≡ leaf_at i → pick b k 0 ≡ subleaf_at i
    → pick b (opens l 25 2 leaf.0 && eqb (word_at l 5) k) (opens l 21 1 (leaf.0 + k)) ≡ begins l i
unfolding begins
stands_begins true leaf k i l p q e = rw (← p, ← q, ← e)
stands_begins false leaf k i l p q e = rw (← p, ← q)

-- the row of place i begins at index o and has n bytes
pub record RowThere (s : List ℕ) (o i n : ℕ) : Type 0 where
  pub here : begins (drop o s) i ≡ true
  pub width : n ≡ pick (indexed_at i) 25 21
  pub long : n ≤ length s - o

module _ (g : Run) (lawfully : lawful_run g ≡ true) (s : List ℕ) (o i : ℕ) (low : g.first ≤ i) (high : i < g.first + g.count) where
  -- what the code tests of a run is what the definition tests of the place
  pub place_begins : {b c : Bool} → b ≡ run_begins (drop o s) g (i - g.first) → b ≡ c → begins (drop o s) i ≡ c
  unfolding run_begins
  place_begins p e =
      sym
      (stands_begins g.indexed g.leaf (i - g.first) i (drop o s) (indexed_in_run g lawfully low high) (leaf_in_run g lawfully low high)
      (subleaf_in_run g lawfully low high))
      ∙ sym p
      ∙ e

  pub row_there : {b : Bool} {n : ℕ} → b ≡ run_begins (drop o s) g (i - g.first) → b ≡ true → n ≡ pick g.indexed 25 21 → RowThere s o i n
  row_there {b} {n} p e w =
      let width : n ≡ pick (indexed_at i) 25 21 = w ∙ ap (λ (c : Bool). pick c 25 21) (indexed_in_run g lawfully low high) in
      record { here = place_begins p e; width = width; long = omega (arith, begins_long s o i (place_begins p e)) }
