-- Lines, computed: what is written for some refusals, bytes that are no line, and the three answers of the writer.
use Rattle.std.specs.Prelude.{◌≡◌, refl, true, [], ◌∷◌, ℕ, length, Err, None, Ok, Option, Some}
use Rattle.std.proofs.Common.{arith}
use Rattle.bits.specs.Lists.{sum_to}
use Rattle.lines.specs.Digits.{digits, width}
use Rattle.lines.specs.Field.{field_from, after}
use Rattle.table.specs.declared.Refusal.TheVariants.{BufferTooShort}
use Rattle.buffer.specs.Front.{write_front}
use Rattle.lines.specs.declared.bytes.LineDetails.{LineDetails}
use Rattle.lines.specs.NumbersInUse.{rows, names}
use Rattle.lines.specs.Line.{LineFits, fields, writable, line}
use Rattle.lines.specs.WriteLine.{leaves, write_line}
use Rattle.lines.specs.ReadLine.{guess, same_bytes, read_line}

abbrev pub told : ℕ → ℕ → Option ℕ → ℕ → LineDetails
told n leaf subleaf s = record { number = n; leaf = leaf; subleaf = subleaf; s = s }

-- 3 0000000D 12
pub missing_d12 : line (told 3 0xD (Some 12) 0) ≡ 51 ∷ 32 ∷ 48 ∷ 48 ∷ 48 ∷ 48 ∷ 48 ∷ 48 ∷ 48 ∷ 68 ∷ 32 ∷ 49 ∷ 50 ∷ 10 ∷ []
unfolding line fields names rows digits width sum_to
missing_d12 = refl

-- 3 8000001F: a subleaf of none is left out
pub missing_8000001f : line (told 3 0x8000001F None 0) ≡ 51 ∷ 32 ∷ 56 ∷ 48 ∷ 48 ∷ 48 ∷ 48 ∷ 48 ∷ 49 ∷ 70 ∷ 10 ∷ []
unfolding line fields names rows digits width sum_to
missing_8000001f = refl

-- 6 0: s is written at 0 too
pub s_of_0 : line (told 6 0 None 0) ≡ 54 ∷ 32 ∷ 48 ∷ 10 ∷ []
unfolding line fields names rows digits width sum_to
s_of_0 = refl

-- 14
pub two_digits : line (told 14 0 None 0) ≡ 49 ∷ 52 ∷ 10 ∷ []
unfolding line fields names rows digits width sum_to
two_digits = refl

-- 17 0000000D: a leaf, also one that has subleaves, and no subleaf
pub reserved_d : line (told 17 0xD None 0) ≡ 49 ∷ 55 ∷ 32 ∷ 48 ∷ 48 ∷ 48 ∷ 48 ∷ 48 ∷ 48 ∷ 48 ∷ 68 ∷ 10 ∷ []
unfolding line fields names rows digits width sum_to
reserved_d = refl

-- 3 FFFFFFFF 4294967295: the longest, which meets what the theorems ask
abbrev pub longest : LineDetails
longest = told 3 0xFFFFFFFF (Some 0xFFFFFFFF) 0

pub longest_fits : LineFits longest
longest_fits = record { leaf = omega arith; subleaf = omega arith }

pub longest_writable : writable longest ≡ true
unfolding writable names rows
longest_writable = refl

pub longest_length : length (line longest) ≡ 22
unfolding line fields names rows digits width sum_to
longest_length = refl

-- 01, 3 0000000d, 6 256, 17 0000000D 1, 1 without its newline, 1 with a newline more
pub leading_zero : read_line (48 ∷ 49 ∷ 10 ∷ []) ≡ None
unfolding read_line guess field_from after same_bytes writable line fields names rows digits width sum_to
leading_zero = refl

pub small_letter : read_line (51 ∷ 32 ∷ 48 ∷ 48 ∷ 48 ∷ 48 ∷ 48 ∷ 48 ∷ 48 ∷ 100 ∷ 10 ∷ []) ≡ None
unfolding read_line guess field_from after same_bytes writable line fields names rows digits width sum_to
small_letter = refl

pub past_8_bits : read_line (54 ∷ 32 ∷ 50 ∷ 53 ∷ 54 ∷ 10 ∷ []) ≡ None
unfolding read_line guess field_from after same_bytes writable line fields names rows digits width sum_to
past_8_bits = refl

pub reserved_with_subleaf : read_line (49 ∷ 55 ∷ 32 ∷ 48 ∷ 48 ∷ 48 ∷ 48 ∷ 48 ∷ 48 ∷ 48 ∷ 68 ∷ 32 ∷ 49 ∷ 10 ∷ []) ≡ None
unfolding read_line guess field_from after same_bytes writable line fields names rows digits width sum_to
reserved_with_subleaf = refl

pub no_newline : read_line (49 ∷ []) ≡ None
unfolding read_line guess field_from after same_bytes writable line fields names rows digits width sum_to
no_newline = refl

pub newline_more : read_line (49 ∷ 10 ∷ 10 ∷ []) ≡ None
unfolding read_line guess field_from after same_bytes writable line fields names rows digits width sum_to
newline_more = refl

-- 1 written with a byte beyond it, 1 without room, and 1 with a leaf, which it does not name, without room either
pub one_written : write_line (told 1 0 None 0) (7 ∷ 7 ∷ 7 ∷ []) ≡ leaves (Some (Ok 2)) (49 ∷ 10 ∷ 7 ∷ [])
unfolding write_line write_front writable line fields names rows digits width sum_to
one_written = refl

pub one_short : write_line (told 1 0 None 0) (7 ∷ []) ≡ leaves (Some (Err BufferTooShort)) (7 ∷ [])
unfolding write_line write_front writable line fields names rows digits width sum_to
one_short = refl

pub one_with_leaf : write_line (told 1 0xD None 0) (7 ∷ []) ≡ leaves None (7 ∷ [])
unfolding write_line write_front writable line fields names rows digits width sum_to
one_with_leaf = refl

-- 8 with s, which 7 names and 8 does not
pub seven_with_s : write_line (told 7 0 None 3) (9 ∷ 9 ∷ 9 ∷ 9 ∷ []) ≡ leaves (Some (Ok 4)) (55 ∷ 32 ∷ 51 ∷ 10 ∷ [])
unfolding write_line write_front writable line fields names rows digits width sum_to
seven_with_s = refl

pub eight_with_s : write_line (told 8 0 None 3) (9 ∷ 9 ∷ 9 ∷ 9 ∷ []) ≡ leaves None (9 ∷ 9 ∷ 9 ∷ 9 ∷ [])
unfolding write_line write_front writable line fields names rows digits width sum_to
eight_with_s = refl
