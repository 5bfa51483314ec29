-- The search, entry by entry: the 128 flips of an entry are searched, or passed over together.
use Rattle.std.specs.Prelude.{◌≡◌, Bool, false, ℕ, zero, suc, ◌+◌, ◌/◌, ◌%◌, ◌≤◌, ◌<◌, length, get_or, replicate, Err, Ok, Result}
use Rattle.std.proofs.Math.Path.{refl, sym, ap}
use Rattle.std.proofs.Common.{◌∙◌, arith}
use Rattle.std.proofs.Math.Bool.{true, not}
use mathlib.Core.List.{List, [], ◌++◌}
use Rattle.std.proofs.lemmas.List.{get_or-replicate, length-replicate}
use Rattle.bits.specs.Search.{Failing, lowest}
use Rattle.bits.specs.Search.Failing.{at, none}
use Rattle.pages.specs.declared.CpuidPageIndex.{CpuidPageIndex}
use Rattle.pages.specs.declared.ParsedCpuidEntry.{ParsedCpuidEntry}
use Rattle.pages.specs.Layout.{Entry, pages_in, most_entries}
use Rattle.pages.specs.LayoutLaws.{counts_fit_at}
use Rattle.pages.specs.Entries.{entries}
use Rattle.pages.specs.Walk.{first_index, rest}
use Rattle.pages.specs.WalkLaws.{Valid, turn, first_valid, rest_first, rest_end}
use Rattle.pages.specs.Read.{read_at}
use Rattle.masking.specs.Kept.{places}
use Rattle.table.specs.declared.Choices.{Choices}
use Rattle.table.specs.declared.Refusal.TheVariants.{NothingDecides}
use Rattle.table.specs.Edition.{known_edition}
use Rattle.table.specs.Rows.{Row}
use Rattle.collect.specs.Collect.{counted_place, first_among}
use Rattle.collect.specs.CollectLaws.{first_none}
use Rattle.collect.specs.Lawful.{lawful_verdict}
use Rattle.collect.proofs.LawfulLaws.{lawful_counts}
use Rattle.nearest.specs.declared.flips.Flip.{Flip}
use Rattle.nearest.specs.Flips.{flip, flips_in, flips}
use Rattle.nearest.specs.Changes.{changes}
use Rattle.nearest.specs.Nearest.{first_that}
use Rattle.table.specs.declared.Refusal.{Refusal}

-- ---- a search over a list of flips, and over the numbers below 128

abbrev pub flip_number : Entry → ℕ → Flip
flip_number e n = flip e.page e.position (n / 32) (n % 32)

abbrev pub when_found : (ℕ → Flip) → Failing → Result Flip Refusal → Result Flip Refusal
when_found g (at n) x = Ok (g n)
when_found g none x = x

pub lowest_ext : (f g : ℕ → Bool) (k m : ℕ) → ((n : ℕ) → k ≤ n → n < k + m → f n ≡ g n) → lowest f k m ≡ lowest g k m
unfolding lowest
lowest_ext f g k zero h = refl
lowest_ext f g k (suc m) h = rw (h k (omega arith) (omega arith), lowest_ext f g (suc k) m (λ n l u. h n (omega arith) (omega arith)))

pub not_not : (b : Bool) → not (not b) ≡ b
not_not true = refl
not_not false = refl

-- ---- before each turn of the walk

-- the entries up to the index are done, their places are seen, and the first flip of those left is the first of all
pub record Searching (c : Choices) (s : List ℕ) (seen : List Bool) (i : CpuidPageIndex) : Type 0 where
  pub valid : Valid s i
  pub done : List Entry
  pub split : entries s ≡ done ++ rest s i
  pub whole : length seen ≡ places
  pub marks : (j : ℕ) → j < places → get_or seen j false ≡ (first_among j done).present
  pub left : first_that (changes c s) (flips s) ≡ first_that (changes c s) (flips_in (rest s i))

pub searching_first : (c : Choices) (s : List ℕ) → Searching c s (replicate places false) (first_index s)
unfolding flips
searching_first c s = record {
  valid = first_valid s;
  done = [];
  split = sym (rest_first s);
  whole = length-replicate places false;
  marks = λ j l. get_or-replicate places j false false l ∙ sym (ap (λ (x : Row). x.present) (first_none j));
  left = ap (λ (x : List Entry). first_that (changes c s) (flips_in x)) (sym (rest_first s));
}

pub searching_last : (c : Choices) (s : List ℕ) (seen : List Bool) (i : CpuidPageIndex) → Searching c s seen i → pages_in s ≤ i.page_index
    → Err NothingDecides ≡ first_that (changes c s) (flips s)
unfolding first_that flips_in
searching_last c s seen i w h = sym (w.left ∙ ap (λ (x : List Entry). first_that (changes c s) (flips_in x)) (rest_end s i h))

-- an entry of lawful pages stands among the first 64
pub position_fits : (s : List ℕ) (i : CpuidPageIndex) → lawful_verdict s ≡ Ok tt → Valid s i → (h : i.page_index < pages_in s)
    → i.function_index < most_entries
position_fits s i l v h = omega (arith, (turn s i v h).below, counts_fit_at s (lawful_counts s l) i.page_index h)

-- ---- one turn of the code: e is the entry that the reader gives, and place where it is stored

pub record AtEntry (c : Choices) (s : List ℕ) (seen : List Bool) (i : CpuidPageIndex) (e : ParsedCpuidEntry) (place : ℕ) : Type 0 where
  pub known : known_edition c.edition ≡ true
  pub lawful : lawful_verdict s ≡ Ok tt
  pub searching : Searching c s seen i
  pub inside : i.page_index < pages_in s
  pub read : Ok e ≡ read_at s i
  pub stored : place ≡ counted_place e
