-- What holds of every row of the table of numbers, by computation, and of every number beyond it.
use Rattle.std.specs.Prelude.{◌≡◌, refl, Bool, true, false, ◌&&◌, not, ℕ, ◌+◌, ◌^◌, ◌≤◌, ◌<◌, leb, ltb, length}
use Rattle.std.proofs.Common.{ap, arith, leb-true, le-leb, ltb-true, ltb-false}
use Rattle.bits.specs.ChoiceLaws.{never_both}
use Rattle.bits.specs.Lists.{sum_to}
use Rattle.bits.specs.Search.{every}
use Rattle.bits.specs.SearchLaws.{every_at}
use Rattle.lines.specs.declared.bytes.names.Named.{Named}
use Rattle.lines.specs.Digits.{width}
use Rattle.lines.specs.DigitsLaws.{width_le}
use Rattle.lines.specs.NumbersInUse.{not_in_use, rows, names}
use Rattle.lines.specs.NumbersInUseLaws.{beyond, room}

-- a test that every row passes, and a number beyond them
names_pass : (test : ℕ → Named → Bool)
    → every (λ n. test n (names n)) (length rows) ≡ true → ((n : ℕ) → test n not_in_use ≡ true) → (n : ℕ) → test n (names n) ≡ true
names_pass test all none n = go (ltb n (length rows)) refl
  where
    go : (b : Bool) → ltb n (length rows) ≡ b → test n (names n) ≡ true
    go true e = every_at (λ m. test m (names m)) (length rows) all n (ltb-true n (length rows) e)
    go false e = rw (beyond n (ltb-false n (length rows) e)) (none n)

pub used_below : (n : ℕ) → (names n).used ≡ true → n < 2 ^ 32
unfolding rows
used_below n h = go (ltb n (length rows)) refl
  where
    go : (b : Bool) → ltb n (length rows) ≡ b → n < 2 ^ 32
    go true e = omega (arith, ltb-true n (length rows) e)
    go false e = absurd (never_both h (ap (λ (k : Named). k.used) (beyond n (ltb-false n (length rows) e))))

-- no number names both a subleaf and s
pub subleaf_or_s : (n : ℕ) → not ((names n).subleaf && (names n).s) ≡ true
unfolding rows names
subleaf_or_s = names_pass (λ n k. not (k.subleaf && k.s)) refl (λ n. refl)

pub room_few : (n : ℕ) → width n + room (names n) ≤ 21
unfolding rows names width sum_to
room_few n = leb-true _ _ (names_pass (λ m k. leb (width m + room k) 21) refl (λ m. le-leb (width m + 0) 21 (omega (arith, width_le m))) n)
