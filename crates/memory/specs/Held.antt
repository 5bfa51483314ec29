-- Laws of the whole table that lent memory holds (HeldTable.antt, whose definitions are passed on here).
use Rattle.std.specs.Prelude.{◌≡◌, refl, Bool, true, false, List, ℕ, ◌+◌, ◌*◌, ◌≤◌, ◌<◌, get_or, replicate}
use Rattle.std.proofs.Common.{sym, ap, ap₂, ◌∙◌, add-one, arith, lit≤, lit<}
use mir.Val.{bool_byte}
use Rattle.std.specs.Int.Bits.{bit_or}
use Rattle.std.proofs.lemmas.List.{get_or-replicate}
use Rattle.bits.specs.Bits.{has, bit}
use Rattle.bits.specs.Lists.{tabulate, sum_to, one}
use Rattle.bits.specs.ListsLaws.{get_d_tabulate}
use Rattle.x86defs.specs.Functions.{cpuid_result}
use Rattle.masking.specs.Kept.{places}
use Rattle.masking.specs.Place
use Rattle.table.specs.Rows.{Row, Rows}
use Rattle.table.specs.Table.{count_rows, empty_table, row_in}
use Rattle.table.specs.Table as Tables
use Rattle.table.specs.TableLaws.{table_ext}
use Rattle.checks.specs.ExtendedState.{xss_of, xfem, xss, combined_mask}
use Rattle.memory.specs.Memory.{row_of, is_there, rows_in}
pub use Rattle.memory.specs.HeldTable.{whole_of, held_in, flags, mask_held, count_to}

pub whole_row_lem : (m : Rows) (i : ℕ) → i < places → row_in (whole_of m) i ≡ m i
whole_row_lem m i l k = record {
  present = get_d_tabulate places (λ j. (m j).present) i false l k;
  result = get_d_tabulate places (λ j. (m j).result) i (cpuid_result 0 0 0 0) l k;
}

pub flag_at : (o : List ℕ) (i : ℕ) → i < places → get_or (flags o) i false ≡ is_there (get_or o i 0)
flag_at o i h = get_d_tabulate places (λ j. is_there (get_or o j 0)) i false h

-- rows that are the same give the same
pub mask_ext : {a b : Rows} → ((i : ℕ) → i < places → a i ≡ b i) → combined_mask a ≡ combined_mask b
unfolding combined_mask xfem xss
mask_ext e =
    ap₂ (λ (d0 d1 : Row). bit_or d0.result.eax (xss_of d1.result)) (e (Place.extended_state 0) (lit< tt)) (e (Place.extended_state 1) (lit< tt))

pub whole_ext : {a b : Rows} → ((i : ℕ) → i < places → a i ≡ b i) → whole_of a ≡ whole_of b
whole_ext e = table_ext e (mask_ext e)

pub mask_held_lem : (w o : List ℕ) → combined_mask (rows_in w o) ≡ mask_held w
unfolding combined_mask xfem xss
mask_held_lem w o = refl

-- ---- cleared memory holds the empty table

pub empty_whole : whole_of (Tables.rows_of_table empty_table) ≡ empty_table
unfolding tabulate count_rows sum_to combined_mask xfem xss has bit
empty_whole = refl

cleared_row : (i : ℕ) → i < places → rows_in (replicate 352 0) (replicate 88 0) i ≡ row_in empty_table i
cleared_row i l =
    let p : is_there (get_or (replicate 88 0) i 0) ≡ get_or (replicate places false) i false =
    ap is_there (get_or-replicate 88 i 0 0 l) ∙ sym (get_or-replicate places i false false l) in
    let none : (j : ℕ) → j < 352 → ◌≡◌ {A = ℕ} (get_or (replicate 352 0) j 0) 0 = λ j h. get_or-replicate 352 j 0 0 h in
    let q : row_of (replicate 352 0) i ≡ get_or (replicate places (cpuid_result 0 0 0 0)) i (cpuid_result 0 0 0 0) =
    (λ t. cpuid_result (none (4 * i) (omega arith) t) (none (4 * i + 1) (omega arith) t) (none (4 * i + 2) (omega arith) t) (none (4 * i + 3) (omega arith) t))
    ∙ sym (get_or-replicate places i (cpuid_result 0 0 0 0) (cpuid_result 0 0 0 0) l) in
    λ t. record { present = p t; result = q t }

pub cleared_held : held_in (replicate 352 0) (replicate 88 0) ≡ empty_table
cleared_held = whole_ext cleared_row ∙ empty_whole

-- ---- rows counted one after another

pub count_starts : (o : List ℕ) → ◌≡◌ {A = ℕ} 0 (count_to o 0)
unfolding sum_to
count_starts o = refl

byte_one : (b : Bool) → bool_byte b ≡ one b
byte_one true = refl
byte_one false = refl

pub byte_le : (b : Bool) → bool_byte b ≤ 1
byte_le true = lit≤ tt
byte_le false = lit≤ tt

pub count_next : (o : List ℕ) (i : ℕ) {n : ℕ} {b : Bool} → n ≡ count_to o i → b ≡ is_there (get_or o i 0) → n + bool_byte b ≡ count_to o (i + 1)
unfolding sum_to
count_next o i {n} {b} e f = rw (add-one, e, byte_one b, f, sum_to)

pub count_ends : (w o : List ℕ) {n : ℕ} → n ≡ count_to o places → n ≡ (held_in w o).row_count
unfolding count_rows
count_ends w o e = e
