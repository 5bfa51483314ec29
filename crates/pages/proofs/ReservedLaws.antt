-- Clean pages by page and position, and that what `reserved_of` names is the first entry that is not clean.
use Rattle.std.specs.Prelude.{◌≡◌, true, List, Err, Ok}
use Rattle.std.proofs.Math.Path.{refl}
use Rattle.std.proofs.Common.{arith}
use Prim.Native.Nat.{ℕ}
use Rattle.bits.specs.ChoiceLaws.{never_both}
use Rattle.bits.specs.Lists.{keep_if}
use Rattle.bits.specs.Search.{Failing, lowest}
use Rattle.bits.specs.Search.Failing.{at, none}
use Rattle.bits.specs.SearchLaws.{every_at, every_fails, Lowest, lowest_at, lowest_none}
use Rattle.x86defs.specs.declared.CpuidFunction.{CpuidFunction}
use Rattle.pages.specs.Layout.{entry_at, pages_in, count_of}
use Rattle.pages.specs.Entries.{entries}
use Rattle.pages.specs.Reserved.{is_clean_at, clean, reserved_of, page_clean, all_clean}
use Rattle.pages.specs.ReservedLaws.{Cleanness, FirstUnclean, all_clean_lem, clean_at, clean_pages, kept_of_zero, pages_passed, unclean_entry, unclean_named}

pub clean_zero : (s : List ℕ) → all_clean s ≡ true → reserved_of s ≡ Ok tt
unfolding reserved_of entries
clean_zero s e = pages_passed s 0 (pages_in s) (λ i j l h k. clean_at s e i j (omega arith) k)

pub cleanness : (s : List ℕ) → Cleanness s
cleanness s = by_page (lowest (page_clean s) 0 (pages_in s)) refl
  where
    by_position : (p : ℕ) → Lowest (page_clean s) 0 (pages_in s) p → (f : Failing) → lowest (is_clean_at s p) 0 (count_of s p) ≡ f → Cleanness s
    by_position p w (at q) e =
        let v : Lowest (is_clean_at s p) 0 (count_of s p) q = lowest_at (is_clean_at s p) 0 (count_of s p) q e in
        unclean_entry p q
        (record {
          page = omega (arith, w.below);
          position = omega (arith, v.below);
          unclean = v.fails;
          before = record {
            pages = λ i j h l. every_at (is_clean_at s i) (count_of s i) (w.before i (omega arith) h) j l;
            positions = λ j l. v.before j (omega arith) l;
          };
        })
    by_position p w none e =
        let (q, l, u) = every_fails (is_clean_at s p) (count_of s p) w.fails in
        absurd (never_both (lowest_none (is_clean_at s p) 0 (count_of s p) e q (omega arith) (omega arith)) u)

    by_page : (f : Failing) → lowest (page_clean s) 0 (pages_in s) ≡ f → Cleanness s
    by_page (at p) e = by_position p (lowest_at (page_clean s) 0 (pages_in s) p e) (lowest (is_clean_at s p) 0 (count_of s p)) refl
    by_page none e =
        clean_pages (all_clean_lem s (λ p q h l.
        every_at (is_clean_at s p) (count_of s p) (lowest_none (page_clean s) 0 (pages_in s) e p (omega arith) (omega arith)) q l))

pub zero_clean : (s : List ℕ) → reserved_of s ≡ Ok tt → all_clean s ≡ true
zero_clean s e = go (cleanness s)
  where
    go : Cleanness s → all_clean s ≡ true
    go (clean_pages c) = c
    go (unclean_entry p q u) = let f : reserved_of s ≡ Err (entry_at s p q).leaf = unclean_named s p q u in cc

-- what is named is the leaf of the first entry that is not clean
pub named_unclean : (s : List ℕ) (l : CpuidFunction) → reserved_of s ≡ Err l → (p : ℕ) × (q : ℕ) × FirstUnclean s p q × (l ≡ (entry_at s p q).leaf)
named_unclean s l e = go (cleanness s)
  where
    go : Cleanness s → (p : ℕ) × (q : ℕ) × FirstUnclean s p q × (l ≡ (entry_at s p q).leaf)
    go (clean_pages c) = let f : reserved_of s ≡ (Ok tt) = clean_zero s c in let z : ◌≡◌ {A = ℕ} 0 1 = cc in absurd (omega arith)
    go (unclean_entry p q u) = (p, q, u, (let f : reserved_of s ≡ Err (entry_at s p q).leaf = unclean_named s p q u in cc))

-- all of them are clean
pub clean_kept : (s : List ℕ) → all_clean s ≡ true → keep_if (clean s) (entries s) ≡ entries s
unfolding reserved_of
clean_kept s e = kept_of_zero s (entries s) (clean_zero s e)
