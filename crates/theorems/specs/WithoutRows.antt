-- A kept table without rows. Building, pooling, a guest's view and the reading of bytes that are no image leave one where they refuse: every word of
-- the caller's memory is 0. The functions over a kept table no longer know the refusal. Here is what each of them then gives, in the numbers of
-- include/snp_cpuid.h; KeptTableTheorems.antt has what they give where building accepted.
use Rattle.std.specs.Prelude.{◌≡◌, refl, Bool, true, false, List, [], ◌∷◌, ◌++◌, ℕ, ◌≤◌, ltb, length, get_or, drop, replicate, Err, None, Ok, Option}
use Rattle.std.proofs.Common.{sym, ap, ap₂, ◌∙◌, le_of_eq, arith, le-leb, ltb-true, ltb-false}
use Rattle.std.proofs.lemmas.List.{length-replicate, get_or-replicate}
use Rattle.std.proofs.Math.ListN.{get_or-eq_default}
use Rattle.bits.specs.ChoiceLaws.{pick_false}
use Rattle.bits.specs.Bits.{bit, has}
use Rattle.bits.specs.Lists.{tabulate, sum_to}
use Rattle.bits.specs.Search.{lowest}
use Rattle.x86defs.specs.Functions.{function}
use Rattle.masking.specs.Kept.{places, slot, kept_leaves}
use Rattle.table.specs.declared.Choices.{Choices}
use Rattle.table.specs.declared.CpuidResults.{CpuidResults}
use Rattle.table.specs.declared.Refusal.{Refusal}
use Rattle.table.specs.declared.Refusal.TheVariants.{PagesLength, StateBeyondTable}
use Rattle.table.specs.Edition.{known_edition}
use Rattle.table.specs.Numbers.{numbers_of}
use Rattle.table.specs.Rows.{Rows}
use Rattle.table.specs.Table.{empty_table, row_in, rows_of_table, count_rows}
use Rattle.table.specs.OrderLaws.{row_order_lem}
use Rattle.checks.specs.ExtendedState.{xfem, xss, combined_mask}
use Rattle.memory.specs.Memory.{layout}
use Rattle.memory.specs.Held.{held_in, cleared_held}
use Rattle.build.specs.Build.{answer, origins_in, TableIn}
use Rattle.build.specs.BuildLaws.{no_origins_lem}
use Rattle.refusals.proofs.ExactlyProof.{builds_exactly}
use Rattle.sha256.specs.Sha256.{sha256}
use Rattle.sha256.specs.Facts as Facts
use Rattle.fingerprint.specs.Fingerprint.{fingerprint}
use Rattle.lookup.specs.Lookup.{lookup, lookup_origin, place_asked, found, with_origin}
use Rattle.lookup.proofs.LookupLaws.{lookup_at, empty_finds_nothing}
use Rattle.buffer.specs.Front.{write_front}
use Rattle.image.specs.Image.{image_in, image}
use Rattle.image_read.specs.ReadImage.{read_image, is_image, left, after_row, row_read, begins, opens}
use Rattle.kvm_list.specs.Words.{bytes_of_words}
use Rattle.kvm_list.specs.Format.{list_bytes, all_words}
use Rattle.kvm_export.specs.Export.{list_of, list_rows, rows_from}
use Rattle.guest_state.specs.State.{compact_register, state_verdict}
use Rattle.guest_state.specs.InUse.{read_rows, in_use, in_use_by}
use Rattle.guest_rise.specs.StateExactly.{StateAnswers}
use Rattle.guest_rise.proofs.StateExactlyProof.{state_answers}
use Rattle.guest_rise.specs.StateExactly.StateAnswers.{beyond, large, given}
use Rattle.guest.specs.declared.Processor.{Processor}
use Rattle.guest.specs.Guest.{guest_answer, answer_for}
use Rattle.guest.specs.Seen.{table_with, guest_found_in as found_in}
use Rattle.carry.specs.Carry.{carry, carry_verdict, own_rows}
use Rattle.compare.specs.declared.search.RowsCompared.TheVariants.{Rises, NoRow, Beyond}
use Rattle.compare.specs.RowsCompared.{further_test, rows_compared, compared_tables}
use Rattle.images.specs.TableOrderProof as Order
use Rattle.answers.specs.Answers.{counts_of, read_with, found_at, found_given, found_numbers, guest_found_numbers, state_numbers, written_numbers}
use Rattle.snp_cpuid.specs.GuestExports.{guest_numbers}
use Rattle.page_sets.specs.Evaluation.{first_edition}
use Rattle.letter.proofs.VerdictProof.{verdict_by_figures}
use Rattle.letter.proofs.TableProof.{table_by_figures}
use Rattle.table.specs.Verdict.{Verdict}
use Rattle.x86defs.specs.declared.CpuidResult.{CpuidResult}

-- the 352 registers and 88 origins of such a table
abbrev pub no_registers : List ℕ
no_registers = replicate 352 0

abbrev pub no_origins : List ℕ
no_origins = replicate 88 0

abbrev pub no_rows : CpuidResults
no_rows = held_in no_registers no_origins

-- ---- building leaves it where it refuses, whatever the refusal

layout_empty : layout (λ i. (row_in empty_table i).result) ≡ no_registers
unfolding layout tabulate
layout_empty = refl

pub refused_leaves_no_rows : (chosen : Choices) (s w o : List ℕ) (r : Refusal) → (answer chosen s).verdict ≡ Err r → TableIn (answer chosen s) w o
    → (w ≡ no_registers) × (o ≡ no_origins) × (held_in w o ≡ no_rows)
unfolding answer
refused_leaves_no_rows chosen s w o r e k =
    let empty : (answer chosen s).table ≡ empty_table = (builds_exactly chosen s).empty r e in (
      k.registers ∙ ap (λ (t : CpuidResults). layout (λ i. (row_in t i).result)) empty ∙ layout_empty,
      k.origins ∙ ap (λ (t : CpuidResults). origins_in t s) empty ∙ sym (no_origins_lem s),
      k.table ∙ empty ∙ sym cleared_held,
    )

-- an example: no bytes at all are refused by 1, and this memory is what building leaves
pub no_bytes_refused : (answer first_edition []).verdict ≡ Err PagesLength
no_bytes_refused = verdict_by_figures first_edition []

pub no_bytes_leave_no_rows : TableIn (answer first_edition []) no_registers no_origins
unfolding answer
no_bytes_leave_no_rows =
    let empty : (answer first_edition []).table ≡ empty_table = (builds_exactly first_edition []).empty PagesLength no_bytes_refused in
    record {
      verdict = refl;
      registers = sym (ap (λ (t : CpuidResults). layout (λ i. (row_in t i).result)) empty ∙ layout_empty);
      origins = no_origins_lem [] ∙ sym (ap (λ (t : CpuidResults). origins_in t []) empty);
      table = cleared_held ∙ sym empty;
    }

-- ---- what is asked of it. No row is found, whatever is asked

none_there : (i : ℕ) → get_or (replicate places false) i false ≡ false
none_there i = go (ltb i places) refl
  where
    go : (b : Bool) → ltb i places ≡ b → get_or (replicate places false) i false ≡ false
    go true e = get_or-replicate places i false false (ltb-true i places e)
    go false e =
        let past : length (replicate places false) ≤ i = omega (arith, length-replicate places false, ltb-false i places e) in
        get_or-eq_default (replicate places false) false past

pub no_rows_find_nothing : (leaf : ℕ) (subleaf : Option ℕ) (enforce : Bool) → found_at no_rows no_origins leaf subleaf enforce
    ≡ record { found = 0; eax = 0; ebx = 0; ecx = 0; edx = 0; origin = 0; page = 0; entry = 0 }
no_rows_find_nothing leaf subleaf enforce =
    ap (λ (t : CpuidResults). found_at t no_origins leaf subleaf enforce) cleared_held
    ∙ ap (λ (x : Option CpuidResult). found_given x (lookup_origin no_origins (function leaf) subleaf enforce)) (empty_finds_nothing (function leaf) subleaf enforce)

-- nor with a size that a caller kept
pub no_rows_find_nothing_kept : (v : Processor) (size leaf : ℕ) (subleaf : Option ℕ) (enforce : Bool)
    → found_numbers (found (table_with no_rows v size) no_origins (function leaf) subleaf enforce)
    ≡ record { found = 0; eax = 0; ebx = 0; ecx = 0; edx = 0; origin = 0; page = 0; entry = 0 }
no_rows_find_nothing_kept v size leaf subleaf enforce =
    ap (λ (t : CpuidResults). found_numbers (found (table_with t v size) no_origins (function leaf) subleaf enforce)) cleared_held
    ∙ ap (λ (x : Option CpuidResult). found_numbers (with_origin x (lookup_origin no_origins (function leaf) subleaf enforce))) none
  where
    none : lookup (table_with empty_table v size) (function leaf) subleaf enforce ≡ None
    none =
        sym (lookup_at (table_with empty_table v size) (le_of_eq (length-replicate places false)) (function leaf) subleaf enforce _ refl)
        ∙ pick_false _ _ (none_there (place_asked (function leaf) subleaf enforce))

-- no state is given, whatever XCR0 and XSS: 13
state_refused : (m : Rows) (x s : ℕ) → xfem m ≡ 0 → state_verdict m x s ≡ Err StateBeyondTable
unfolding bit
state_refused m x s e = go (state_answers m x s)
  where
    none : bit 0 (xfem m) ≡ 0
    none = ap (bit 0) e

    go : StateAnswers m x s (state_verdict m x s) → state_verdict m x s ≡ Err StateBeyondTable
    go (beyond f q) = q
    go (large h f q) = absurd (omega (arith, h.x87, h.user.at 0, none))
    go (given h f q) = absurd (omega (arith, h.x87, h.user.at 0, none))

pub no_rows_give_no_state : (xcr0 xss : ℕ) → state_numbers (in_use (read_rows false no_registers no_origins) xcr0 xss) ≡ record { number = 13; size = 0 }
unfolding in_use xfem
no_rows_give_no_state xcr0 xss =
    let m : Rows = read_rows false no_registers no_origins in
    ap (λ (w : Verdict). state_numbers (in_use_by w (compact_register m xcr0 xss))) (state_refused m xcr0 xss refl)

pub no_rows_for_a_guest : (v : Processor) (leaf : ℕ) (subleaf : Option ℕ) (enforce : Bool)
    → guest_found_numbers (found_in (guest_answer no_rows v) no_origins (function leaf) subleaf enforce)
    ≡ record { number = 13; found = 0; eax = 0; ebx = 0; ecx = 0; edx = 0; origin = 0; page = 0; entry = 0 }
unfolding guest_answer xfem
no_rows_for_a_guest v leaf subleaf enforce =
    ap (λ (t : CpuidResults). guest_found_numbers (found_in (guest_answer t v) no_origins (function leaf) subleaf enforce)) cleared_held
    ∙ ap (λ (w : Verdict). guest_found_numbers (found_in (answer_for w empty_table v) no_origins (function leaf) subleaf enforce))
    (state_refused (rows_of_table empty_table) v.xcr0 v.xss refl)

pub no_rows_become_no_view : (v : Processor) → guest_numbers (guest_answer no_rows v)
    ≡ record { number = 13; leaf = 0; has_subleaf = 0; subleaf = 0; s = 0; row_count = 0; max_extended_state = 0 }
unfolding guest_answer xfem
no_rows_become_no_view v =
    ap (λ (t : CpuidResults). guest_numbers (guest_answer t v)) cleared_held
    ∙ ap (λ (w : Verdict). guest_numbers (answer_for w empty_table v)) (state_refused (rows_of_table empty_table) v.xcr0 v.xss refl)

-- ---- what is written of it. An image of no bytes: number 0 and length 0, into a buffer of any length, which stays

image_empty : image no_rows ≡ []
unfolding image image_in tabulate
image_empty = ap image cleared_held ∙ ap (λ (o : List ℕ). image_in o empty_table) row_order_lem

-- snp_cpuid_table_fingerprint: the SHA-256 of no bytes, which `sha256sum` gives of an empty file
pub no_rows_fingerprint : fingerprint no_rows
    ≡ 0xe3 ∷ 0xb0 ∷ 0xc4 ∷ 0x42 ∷ 0x98 ∷ 0xfc ∷ 0x1c ∷ 0x14 ∷ 0x9a ∷ 0xfb ∷ 0xf4 ∷ 0xc8 ∷ 0x99 ∷ 0x6f ∷ 0xb9 ∷ 0x24 ∷ 0x27 ∷ 0xae ∷ 0x41 ∷ 0xe4 ∷ 0x64
    ∷ 0x9b ∷ 0x93 ∷ 0x4c ∷ 0xa4 ∷ 0x95 ∷ 0x99 ∷ 0x1b ∷ 0x78 ∷ 0x52 ∷ 0xb8 ∷ 0x55 ∷ []
unfolding fingerprint
no_rows_fingerprint = ap sha256 image_empty ∙ Facts.empty

pub no_rows_write_no_bytes : (buffer : List ℕ)
    → (written_numbers (write_front (image no_rows) buffer).answer ≡ record { number = 0; leaf = 0; has_subleaf = 0; subleaf = 0; s = 0; length = 0 })
    × ((write_front (image no_rows) buffer).buffer ≡ buffer)
unfolding write_front
no_rows_write_no_bytes buffer = rw (image_empty, le-leb 0 (length buffer) (omega arith)) (refl, refl)

-- a list of 8 bytes, no rows and a zero word, or 9 where the buffer has fewer
listed : list_of empty_table ≡ replicate 8 0
unfolding list_of list_rows rows_from list_bytes all_words bytes_of_words
listed = refl

list_empty : list_of no_rows ≡ replicate 8 0
list_empty = ap list_of cleared_held ∙ listed

pub no_rows_listed : (buffer : List ℕ) → 8 ≤ length buffer
    → write_front (list_of no_rows) buffer ≡ record { answer = Ok 8; buffer = (0 ∷ 0 ∷ 0 ∷ 0 ∷ 0 ∷ 0 ∷ 0 ∷ 0 ∷ []) ++ drop 8 buffer }
unfolding write_front
no_rows_listed buffer l = rw (list_empty, le-leb 8 (length buffer) l) refl

-- ---- the rest: no rows and mask 0; no bytes are its image; carrying is refused by 13 where the editions are lawful

pub no_rows_counted : counts_of no_rows ≡ record { row_count = 0; max_extended_state = 0 }
no_rows_counted = ap counts_of cleared_held

pub no_bytes_read : read_with (read_image []).is_image (read_image []).table ≡ record { is_image = 1; row_count = 0; max_extended_state = 0 }
unfolding read_image is_image left after_row row_read begins opens tabulate count_rows sum_to combined_mask xfem xss slot kept_leaves has bit
no_bytes_read = refl

pub no_rows_carried : (xcr0 xss : ℕ)
    → (numbers_of (carry no_rows 1 2 xcr0 xss).verdict).number
    ∷ (numbers_of (carry no_rows 1 1 xcr0 xss).verdict).number
    ∷ (numbers_of (carry no_rows 2 2 xcr0 xss).verdict).number
    ∷ []
    ≡ 13 ∷ 13 ∷ 13 ∷ []
unfolding carry carry_verdict known_edition xfem
no_rows_carried xcr0 xss =
    ap (λ (t : CpuidResults). numbers (λ from to. (carry t from to xcr0 xss).verdict)) cleared_held
    ∙ ap (λ (v : Verdict). numbers (λ from to. v)) (state_refused (own_rows empty_table) xcr0 xss refl)
  where
    numbers : (ℕ → ℕ → Verdict) → List ℕ
    numbers f = (numbers_of (f 1 2)).number ∷ (numbers_of (f 1 1)).number ∷ (numbers_of (f 2 2)).number ∷ []

-- compared with itself yes; an accepted table has a row 0 beyond it, and it lacks the row 0 of an accepted table
pub no_rows_compared : (chosen : Choices) (s : List ℕ) → (answer chosen s).verdict ≡ Ok tt
    → (compared_tables no_rows no_rows ≡ Rises)
    × (compared_tables no_rows (answer chosen s).table ≡ Beyond (function 0) None)
    × (compared_tables (answer chosen s).table no_rows ≡ NoRow (function 0) None)
unfolding compared_tables rows_compared lowest further_test slot kept_leaves
no_rows_compared chosen s e = (
  Order.compared_itself no_rows,
  ap₂ compared_tables cleared_held (table_by_figures chosen s e),
  ap₂ compared_tables (table_by_figures chosen s e) cleared_held,
)
