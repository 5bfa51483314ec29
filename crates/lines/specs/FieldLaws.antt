-- Fields as they are read index by index, and as they are after the writer.
use Rattle.std.specs.Prelude.{◌≡◌, refl, Bool, true, false, List, [], ◌∷◌, ◌++◌, ℕ, ◌+◌, ◌*◌, ◌^◌, ◌≤◌, ◌<◌, ltb, length, get_or, drop}
use Rattle.std.proofs.Common.{◌∙◌, mod-lt, add-one, arith, drop_of_length-le}
use Rattle.std.proofs.Math.Seq.{drop-cons}
use borrow.Author.Tests.{lt-ltb, le-ltb}
use Rattle.bits.specs.Choice.{pick}
use Rattle.lines.specs.Digits.{width, digits, decimal, hex, digit_of, more, value_from}
use Rattle.lines.specs.DigitsLaws.{value_decimal, value_hex, AtLeast, none, next, digits_at_least}
use Rattle.lines.specs.Field.{field_from, after}

-- ---- index by index

module _ (base n : ℕ) (s : List ℕ) (i : ℕ) where
  pub field_stop : i < length s → get_or s i 0 < 48 → (n ≡ field_from base n (drop i s)) × (drop (i + 1) s ≡ after (drop i s))
  unfolding field_from after
  field_stop l h = rw (add-one, drop-cons s i 0 l, lt-ltb _ _ h) (refl, refl)

  pub field_step : i < length s → 48 ≤ get_or s i 0
      → (field_from base (more base n (get_or s i 0)) (drop (i + 1) s) ≡ field_from base n (drop i s)) × (after (drop (i + 1) s) ≡ after (drop i s))
  unfolding field_from after
  field_step l h = rw (add-one, drop-cons s i 0 l, le-ltb _ _ h) (refl, refl)

  pub field_end : length s ≤ i → (n ≡ field_from base n (drop i s)) × (drop i s ≡ after (drop i s))
  unfolding field_from after
  field_end h = rw (drop_of_length-le s h) (refl, refl)

-- ---- digits that were written, before a byte that ends them

field_digits : (base n : ℕ) {l : List ℕ} (x : ℕ) (t : List ℕ) → AtLeast 48 l → x < 48 → field_from base n (l ++ x ∷ t) ≡ value_from base n l
unfolding field_from value_from
field_digits base n x t none h = rw (lt-ltb x 48 h)
field_digits base n x t (next {b} l r) h = rw (le-ltb b 48 l) (field_digits base (more base n b) x t r h)

after_digits : {l : List ℕ} (x : ℕ) (t : List ℕ) → AtLeast 48 l → x < 48 → after (l ++ x ∷ t) ≡ t
unfolding after
after_digits x t none h = rw (lt-ltb x 48 h)
after_digits x t (next {b} l r) h = rw (le-ltb b 48 l) (after_digits x t r h)

pub decimal_read : (n x : ℕ) (t : List ℕ) → n < 2 ^ 32 → x < 48 → field_from 10 0 (decimal n ++ x ∷ t) ≡ n
decimal_read n x t h l = field_digits 10 0 x t (digits_at_least 48 10 (width n) n (omega arith)) l ∙ value_decimal n h

pub hex_read : (n x : ℕ) (t : List ℕ) → n < 2 ^ 32 → x < 48 → field_from 16 0 (hex n ++ x ∷ t) ≡ n
hex_read n x t h l = field_digits 16 0 x t (digits_at_least 48 16 8 n (omega arith)) l ∙ value_hex n h

pub after_number : (base w n x : ℕ) (t : List ℕ) → x < 48 → after (digits base w n ++ x ∷ t) ≡ t
after_number base w n x t l = after_digits x t (digits_at_least 48 base w n (omega arith)) l

-- ---- a field fits 32 bits

pub field_fits : (base n : ℕ) (l : List ℕ) → n < 2 ^ 32 → field_from base n l < 2 ^ 32
unfolding field_from
field_fits base n [] h = h
field_fits base n (b ∷ l) h = go (ltb b 48) (field_fits base (more base n b) l (mod-lt (n * base + digit_of b) (omega arith)))
  where
    go : (c : Bool) → field_from base (more base n b) l < 2 ^ 32 → pick c n (field_from base (more base n b) l) < 2 ^ 32
    go true r = h
    go false r = r
