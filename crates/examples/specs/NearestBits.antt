-- Examples: a page set for each answer of the nearest bit that matters (document 02, P13), by computation.
use Rattle.std.specs.Prelude.{◌≡◌, refl, true, false, List, [], ◌∷◌, ◌++◌, ◌≢◌, ℕ, ◌<◌, replicate, drop, Err, Ok, Some}
use Rattle.std.proofs.Common.{sym, ap, ◌∙◌, subst, arith, lit<}
use Rattle.bits.specs.ChoiceLaws.{never_both}
use Rattle.x86defs.specs.Functions.{function, cpuid_result, ExtendedStateEnumeration}
use Rattle.pages.specs.Bytes.{are_bytes, bytes_at}
use Rattle.pages.specs.Layout.{Entry, entry_at, entries_at, pages_in}
use Rattle.pages.specs.Entries.{entries}
use Rattle.masking.specs.Masks.{apply_mask}
use Rattle.masking.specs.Kept.{masks_at}
use Rattle.masking.specs.Place
use Rattle.table.specs.declared.Refusal.TheVariants.{PagesLength, PageCount, MissingRequiredResult, InvlpgbUnavailable, UnknownEdition, ReservedBytes, NothingDecides}
use Rattle.table.specs.Edition.{known_edition}
use Rattle.checks.specs.Checks.{required_verdict}
use Rattle.collect.specs.Collect.{stored_at, first_among}
use Rattle.build.specs.Build.{under_edition, edition_verdict, rows_for, answer}
use Rattle.collect.specs.Lawful.{lawful_verdict}
use Rattle.nearest.specs.Flips.{flip, flipped, flips}
use Rattle.nearest.specs.OneBit.{bit_in, one_bit}
use Rattle.nearest.specs.SameVerdict.{same_result, same_rows, same_table, same_numbers, same_answer}
use Rattle.nearest.specs.Changes.{changes}
use Rattle.nearest.specs.Nearest.{first_that, unless_refused, nearest}
use Rattle.nearest_exactly.specs.NearestExactly.{MissesRequired}
use Rattle.nearest_exactly.proofs.TwentyExactly.{twenty_exactly}
use Rattle.nearest_exactly.specs.NoDecisiveBit.{some_decides}
use Rattle.nearest_exactly.specs.WithoutInvlpgb.{InvlpgbNearest}
use Rattle.nearest_exactly.proofs.WithoutInvlpgb.{refused_by_4}
use Rattle.nearest_exactly.specs.OutsideLaws.{Among, FirstAt}
use Rattle.page_sets.specs.PageSets.{word, entry, page, required_entries, first_page, state_entries, server_a}
use Rattle.page_sets.specs.Pass.{entry_in, on_pages_in}
use Rattle.page_sets.specs.PassLaws.{entries_passed, lawful_passed, rows_passed, verdict_passed}
use Rattle.page_sets.specs.Evaluation.{first_edition, evaluated, passed}
use Rattle.examples.specs.NearestPassed.{changes_passed, nearest_first}
use Rattle.table.specs.Verdict.{Verdict}

-- 15, before 1
pub no_edition : nearest (under_edition 3) [] ≡ Err UnknownEdition
unfolding evaluated nearest
no_edition = refl

pub no_pages : nearest first_edition [] ≡ Err PagesLength
unfolding evaluated nearest
no_pages = refl

pub large_count : nearest first_edition (page 65 []) ≡ Err PageCount
unfolding evaluated nearest
large_count = refl

-- one entry, of zeros but for its leaf and a reserved byte
pub unclean_entry : nearest first_edition (page 1 (word 0x40000000 ++ replicate 43 0 ++ (1 ∷ []))) ≡ Err (ReservedBytes (function 0x40000000))
unfolding evaluated nearest
unclean_entry = refl

-- an accepted set: bit 0 of 1.EAX, its first entry's first bit, is in the table
server_a_flipped : (answer first_edition (flipped server_a (flip 0 0 0 0))).verdict ≡ Ok tt
unfolding passed server_a flipped
server_a_flipped = verdict_passed first_edition (flipped server_a (flip 0 0 0 0))

server_a_changes : changes first_edition server_a (flip 0 0 0 0) ≡ true
unfolding passed server_a flipped same_answer same_numbers same_table same_rows same_result
server_a_changes = changes_passed first_edition server_a (flip 0 0 0 0) server_a_flipped (verdict_passed first_edition server_a)

server_a_entries : entries server_a ≡ entry_in 0 0 (drop entries_at server_a) ∷ drop 1 (on_pages_in 0 2 server_a)
unfolding passed server_a
server_a_entries = entries_passed server_a

pub server_a_nearest : nearest first_edition server_a ≡ Ok (flip 0 0 0 0)
unfolding passed server_a
server_a_nearest =
    nearest_first first_edition server_a (entry_in 0 0 (drop entries_at server_a)) (drop 1 (on_pages_in 0 2 server_a)) server_a_entries (lawful_passed server_a)
    server_a_changes

-- a set whose only entry is of leaf 5: leaf 1 is missing, and none of its 128 flips changes that
unfoldable pub only_leaf5 : List ℕ
only_leaf5 = page 1 (entry 5 0 0x40 0x40 3 0x11)

only_leaf5_misses : MissesRequired first_edition only_leaf5
unfolding evaluated only_leaf5
only_leaf5_misses = (0, record { listed = lit< tt; absent = refl; before = λ i l. absurd (omega arith) }, refl)

only_leaf5_bytes : are_bytes only_leaf5 ≡ true
unfolding only_leaf5 are_bytes
only_leaf5_bytes = refl

pub only_leaf5_nearest : nearest first_edition only_leaf5 ≡ Err NothingDecides
only_leaf5_nearest = (twenty_exactly first_edition only_leaf5 (bytes_at only_leaf5 only_leaf5_bytes)).1 only_leaf5_misses

-- server A without the D.2 that its mask needs: building gives 3, for a subleaf that is in neither list, and some bit decides
unfoldable pub without_d2 : List ℕ
without_d2 = first_page 0x3ED83203 0x219C07A9 0x3F ++ page 2 (entry 0xD 0 0x7 0x340 0x340 0 ++ entry 0xD 1 0x7 0x340 0 0)

pub without_d2_refused_lem : (answer first_edition without_d2).verdict ≡ Err (MissingRequiredResult ExtendedStateEnumeration (Some 2))
unfolding passed without_d2
without_d2_refused_lem = verdict_passed first_edition without_d2

without_d2_lawful : lawful_verdict without_d2 ≡ Ok tt
unfolding passed without_d2
without_d2_lawful = lawful_passed without_d2

without_d2_required : required_verdict (rows_for first_edition without_d2) ≡ Ok tt
unfolding passed without_d2
without_d2_required = ap required_verdict (rows_passed false without_d2)

without_d2_bytes : are_bytes without_d2 ≡ true
unfolding without_d2 are_bytes
without_d2_bytes = refl

pub without_d2_nearest : nearest first_edition without_d2 ≢ Err NothingDecides
unfolding known_edition nearest edition_verdict
without_d2_nearest e =
    some_decides first_edition without_d2 (bytes_at without_d2 without_d2_bytes) refl without_d2_lawful without_d2_required
    (ap (λ (v : Verdict). unless_refused v (first_that (changes first_edition without_d2) (flips without_d2))) (sym without_d2_lawful) ∙ e)

-- server A with a first entry of 80000008h that lacks INVLPGB: refused by 4, and its own bit is the nearest
unfoldable pub no_invlpgb : List ℕ
no_invlpgb =
    page 23 (entry 0x80000008 0 0x3030 0x111ED217 0 0x10007 ++ required_entries 0x3ED83203 0x219C07A9 0x3F) ++ page 3 (state_entries 0x7 0x7 0)

pub no_invlpgb_refused_lem : (answer first_edition no_invlpgb).verdict ≡ Err InvlpgbUnavailable
unfolding passed no_invlpgb
no_invlpgb_refused_lem = verdict_passed first_edition no_invlpgb

no_invlpgb_bytes : are_bytes no_invlpgb ≡ true
unfolding no_invlpgb are_bytes
no_invlpgb_bytes = refl

pub no_invlpgb_nearest_lem : InvlpgbNearest first_edition no_invlpgb
no_invlpgb_nearest_lem = refused_by_4 first_edition no_invlpgb (bytes_at no_invlpgb no_invlpgb_bytes) no_invlpgb_refused_lem

-- ---- flips that change nothing

-- leaf 1 twice on a page
unfoldable pub leaf1_twice : List ℕ
leaf1_twice = page 2 (entry 1 0 0xA00F11 0x10000 0x3ED83203 0x178BFBFF ++ entry 1 0 0xA00F12 0x10000 0x3ED83203 0x178BFBFF)

leaf1_twice_lawful : lawful_verdict leaf1_twice ≡ Ok tt
unfolding passed leaf1_twice
leaf1_twice_lawful = lawful_passed leaf1_twice

leaf1_twice_bytes : are_bytes leaf1_twice ≡ true
unfolding leaf1_twice are_bytes
leaf1_twice_bytes = refl

leaf1_twice_entries : entries leaf1_twice ≡ entry_at leaf1_twice 0 0 ∷ entry_at leaf1_twice 0 1 ∷ []
unfolding evaluated leaf1_twice
leaf1_twice_entries = refl

leaf1_twice_pages : pages_in leaf1_twice ≡ 1
unfolding leaf1_twice
leaf1_twice_pages = refl

among : (q r k : ℕ) → q < 2 → r < 4 → k < 32 → (before after : List Entry) → entries leaf1_twice ≡ before ++ entry_at leaf1_twice 0 q ∷ after
    → Among first_edition leaf1_twice 0 q r k
unfolding known_edition
among q r k h l u before after e = record {
  inside = record {
    bytes = bytes_at leaf1_twice leaf1_twice_bytes;
    page = omega (arith, leaf1_twice_pages);
    entry = omega arith;
    register = l;
    bit = u;
  };
  known = refl;
  lawful = leaf1_twice_lawful;
  before = before;
  after = after;
  order = e;
}

-- the second is not the first of its place: none of its 128 bits decides
pub second_among : (r k : ℕ) → r < 4 → k < 32 → Among first_edition leaf1_twice 0 1 r k
second_among r k l u = among 1 r k (omega arith) l u (entry_at leaf1_twice 0 0 ∷ []) [] leaf1_twice_entries

second_stored : stored_at (entry_at leaf1_twice 0 1) ≡ 1
unfolding evaluated stored_at leaf1_twice
second_stored = refl

first_there : (first_among 1 (entry_at leaf1_twice 0 0 ∷ [])).present ≡ true
unfolding evaluated first_among leaf1_twice
first_there = refl

pub second_not_first : (r k : ℕ) (l : r < 4) (u : k < 32) (i : ℕ) → FirstAt (second_among r k l u).before (entry_at leaf1_twice 0 1) i → ⊥
unfolding second_among among
second_not_first r k l u i f =
    let e : i ≡ 1 = sym f.here ∙ second_stored in
    never_both first_there (subst (λ (j : ℕ). (first_among j (entry_at leaf1_twice 0 0 ∷ [])).present ≡ false) e f.new)

-- the first is; 1.ECX bit 2 is outside its mask
pub first_among_lem : Among first_edition leaf1_twice 0 0 2 2
first_among_lem = among 0 2 2 (lit< tt) (lit< tt) (lit< tt) [] (entry_at leaf1_twice 0 1 ∷ []) leaf1_twice_entries

pub first_is_first : FirstAt first_among_lem.before (entry_at leaf1_twice 0 0) Place.version_and_features
unfolding evaluated first_among_lem among stored_at first_among leaf1_twice
first_is_first = record { place = lit< tt; here = refl; new = refl }

pub bit_outside : apply_mask (masks_at false Place.version_and_features) (one_bit 2 2) ≡ cpuid_result 0 0 0 0
unfolding evaluated bit_in
bit_outside = refl
