-- A new reader gives every entry of the pages, each once and in order, and of each it says whether it counts; of clean pages each is clean.
use Rattle.std.proofs.Math.Path.{◌≡◌, sym, ap}
use Rattle.std.specs.Prelude.{refl, Bool, List, [], ◌∷◌, map, ℕ, zero, suc, ◌≤◌, ◌<◌, ltb, length, Err, Ok}
use Rattle.std.proofs.Common.{◌∙◌, arith, ltb-true, ltb-false}
use Rattle.std.proofs.Math.Bool.{true, false}
use Rattle.bits.specs.Choice.{pick}
use Rattle.bits.specs.ChoiceLaws.{pick_true, pick_false}
use Rattle.bits.specs.Lists.{keep_if}
use Rattle.x86defs.specs.declared.CpuidFunction.{CpuidFunction}
use Rattle.pages.specs.declared.CpuidPageIndex.{CpuidPageIndex}
use Rattle.pages.specs.declared.ParsedCpuidEntry.{ParsedCpuidEntry}
use Rattle.pages.specs.Layout.{Entry as PageEntry, pages_in, most_entries, entry_at}
use Rattle.pages.specs.LayoutLaws.{counts_fit_at}
use Rattle.pages.specs.Entries.{counts}
use Rattle.pages.specs.Parsed.{parsed, counts_read}
use Rattle.pages.specs.Walk.{incremented, rest}
use Rattle.pages.specs.WalkLaws.{Valid, Turn, turn, rest_end}
use Rattle.pages.specs.Read.{Readable, entry_here, clean_here, read_at, given}

-- where a reader may read, the entry stands on its page
pub readable_within : {s : List ℕ} {i : CpuidPageIndex} → Readable s i → (i.page_index < pages_in s) × (i.function_index < most_entries)
readable_within {s} {i} r = let h = r.inside.page in (h, omega (arith, counts_fit_at s r.lawful i.page_index h, r.inside.position))

-- by each answer of the code
module _ (s : List ℕ) (i : CpuidPageIndex) where
  pub clean_read : {e : ParsedCpuidEntry} → e ≡ parsed (entry_here s i) → clean_here s i ≡ true → Ok e ≡ read_at s i
  unfolding read_at
  clean_read p c = ap (λ (x : ParsedCpuidEntry). Ok x) p ∙ sym (pick_true _ _ c)

  pub unclean_read : {e : ParsedCpuidEntry} → e ≡ parsed (entry_here s i) → clean_here s i ≡ false → Err e.leaf ≡ read_at s i
  unfolding read_at
  unclean_read p c = ap (λ (x : ParsedCpuidEntry). Err x.leaf) p ∙ sym (pick_false _ _ c)

-- an entry that it gives is the one there, and its reserved bytes are zero; a leaf that it gives is that of the one there, where one of these bytes
-- is not
module _ (s : List ℕ) (i : CpuidPageIndex) where
  pub read_entry : {e : ParsedCpuidEntry} → Ok e ≡ read_at s i → (e ≡ parsed (entry_here s i)) × (clean_here s i ≡ true)
  unfolding read_at
  read_entry {e} f = go (clean_here s i) f
    where
      go : (b : Bool) → Ok e ≡ pick b (Ok (parsed (entry_here s i))) (Err (entry_here s i).leaf) → (e ≡ parsed (entry_here s i)) × (b ≡ true)
      go true g = (cc, refl)
      go false g = let z : ◌≡◌ {A = ℕ} 0 1 = cc in absurd (omega arith)

  pub read_unclean : {l : CpuidFunction} → Err l ≡ read_at s i → (l ≡ (entry_here s i).leaf) × (clean_here s i ≡ false)
  unfolding read_at
  read_unclean {l} f = go (clean_here s i) f
    where
      go : (b : Bool) → Err l ≡ pick b (Ok (parsed (entry_here s i))) (Err (entry_here s i).leaf) → (l ≡ (entry_here s i).leaf) × (b ≡ false)
      go true g = let z : ◌≡◌ {A = ℕ} 0 1 = cc in absurd (omega arith)
      go false g = (cc, refl)

pub gives_rest : (s : List ℕ) (n : ℕ) (i : CpuidPageIndex) → Valid s i → length (rest s i) ≤ n → given s n i ≡ map parsed (rest s i)
unfolding given
gives_rest s zero i v l = go (ltb i.page_index (pages_in s)) refl
  where
    go : (b : Bool) → ltb i.page_index (pages_in s) ≡ b → [] ≡ map parsed (rest s i)
    go true e = absurd (omega (arith, (turn s i v (ltb-true _ _ e)).falls))
    go false e = sym (ap (map parsed) (rest_end s i (ltb-false _ _ e)))
gives_rest s (suc n) i v l = go (gives_rest s n (incremented s i)) (ltb i.page_index (pages_in s)) refl
  where
    go : (Valid s (incremented s i) → length (rest s (incremented s i)) ≤ n → given s n (incremented s i) ≡ map parsed (rest s (incremented s i)))
        → (b : Bool) → ltb i.page_index (pages_in s) ≡ b
        → pick b (parsed (entry_at s i.page_index i.function_index) ∷ given s n (incremented s i)) [] ≡ map parsed (rest s i)
    go ih true e =
        let t : Turn s i = turn s i v (ltb-true _ _ e) in
        ap (λ (es : List ParsedCpuidEntry). parsed (entry_at s i.page_index i.function_index) ∷ es) (ih t.valid (omega (arith, t.falls)))
        ∙ sym (ap (map parsed) t.taken)
    go ih false e = sym (ap (map parsed) (rest_end s i (ltb-false _ _ e)))

-- what is taken of an entry says whether the entry counts
pub says_counts : (es : List PageEntry) → keep_if counts_read (map parsed es) ≡ map parsed (keep_if counts es)
unfolding keep_if counts
says_counts [] = refl
says_counts (e ∷ es) = go (says_counts es) (counts e)
  where
    go : keep_if counts_read (map parsed es) ≡ map parsed (keep_if counts es) → (b : Bool)
        → pick b (parsed e ∷ keep_if counts_read (map parsed es)) (keep_if counts_read (map parsed es)) ≡ map parsed (pick b (e ∷ keep_if counts es) (keep_if counts es))
    go ih true = ap (λ (ps : List ParsedCpuidEntry). parsed e ∷ ps) ih
    go ih false = ih
