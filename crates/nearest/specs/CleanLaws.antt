-- A flip of a result bit touches no count, no length and no reserved byte: pages that are lawful and clean stay so.
use Rattle.std.specs.Prelude.{◌≡◌, true, false, List, get_or}
use Rattle.std.proofs.Math.Path.{ap, ap₂, fun_ext}
use Rattle.std.proofs.Common.{◌∙◌, arith}
use Prim.Native.Nat.{ℕ, ◌+◌, ◌*◌, ◌/◌, ◌<◌}
use Rattle.std.proofs.Math.Dec.{leb}
use Rattle.std.proofs.Math.Seq.{get_or-set_other}
use Rattle.bits.specs.Search.{every}
use Rattle.pages.specs.Layout.{pages_in, count_of, most_entries, entry_start, bad_length, counts_fit}
use Rattle.pages.specs.LayoutLaws.{counts_fit_at}
use Rattle.pages.specs.Reserved.{is_clean_at, reserved_at, all_clean}
use Rattle.pages.specs.ReservedLaws.{clean_at, all_clean_lem}
use Rattle.pages.specs.ZerosLaws.{zero_byte, zero_bytes}
use Rattle.nearest.specs.Flips.{flip, flipped_byte, flipped}
use Rattle.nearest.specs.FlippedEntryLaws.{Inside, known, same_length, same_pages, same_count}

module _ (s : List ℕ) (p q r k : ℕ) (h : Inside s p q r k) where
  pub length_lawful_lem : bad_length s ≡ false → bad_length (flipped s (flip p q r k)) ≡ false
  unfolding bad_length
  length_lawful_lem e = rw (same_length s p q r k h) e

  pub counts_lawful_lem : counts_fit s ≡ true → counts_fit (flipped s (flip p q r k)) ≡ true
  unfolding counts_fit
  counts_lawful_lem e =
      ap₂ every (fun_ext (λ i. ap (λ (n : ℕ). leb n most_entries) (same_count s p q r k h i))) (same_pages s p q r k h) ∙ e

  -- a reserved byte is not a result's
  reserved_byte_lem : (i j b : ℕ) → j < most_entries → b < 8
      → get_or (flipped s (flip p q r k)) (entry_start i j + reserved_at + b) 0 ≡ get_or s (entry_start i j + reserved_at + b) 0
  unfolding flipped
  reserved_byte_lem i j b l u =
      get_or-set_other s (flipped_byte (flip p q r k)) (entry_start i j + reserved_at + b) _ 0 (λ e.
      let y : ℕ = 24 + 4 * r + k / 8 in
      let small : y < 40 = omega (arith, h.register, h.bit) in
      let (a, c) = known i p j q (40 + b) y (omega arith) (omega arith) l h.entry (omega arith) in
      omega (arith, a, c))

  clean_there : (i j : ℕ) → j < most_entries → is_clean_at s i j ≡ true → is_clean_at (flipped s (flip p q r k)) i j ≡ true
  clean_there i j l e =
      zero_bytes (flipped s (flip p q r k)) (entry_start i j + reserved_at) (λ b u.
      reserved_byte_lem i j b l u ∙ zero_byte s (entry_start i j + reserved_at) e b u)

  pub stays_clean : counts_fit s ≡ true → all_clean s ≡ true → all_clean (flipped s (flip p q r k)) ≡ true
  stays_clean c e =
      all_clean_lem (flipped s (flip p q r k)) (λ i j l u.
      let a : i < pages_in s = rw (same_pages s p q r k h) at l in
      let b : j < count_of s i = rw (same_count s p q r k h i) at u in
      clean_there i j (omega (arith, counts_fit_at s c i a)) (clean_at s e i j a b))
