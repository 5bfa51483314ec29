-- A flip below its page's count changes one entry, in one bit of its registers, and nothing else that is read.
use Rattle.std.specs.Prelude.{◌≡◌, Bool, List, length, get_or}
use Rattle.std.proofs.Math.Path.{refl, sym, ap}
use Rattle.std.proofs.Common.{◌∙◌}
use Rattle.std.proofs.Math.Bool.{true, false}
use Prim.Native.Nat.{ℕ, ◌+◌, ◌*◌, ◌/◌, ◌%◌, ◌^◌, ◌≤◌, ◌<◌}
use native.Mathlib.Omega.{arith}
use Rattle.std.proofs.Math.Arith.{digits_div}
use Rattle.std.specs.Int.Bits.{bit_xor, xor_zero_r}
use Rattle.std.proofs.Math.Dec.{eqb}
use Rattle.std.proofs.Math.ListN.{length-set}
use borrow.Author.Tests.{eqb-true, eqb-false}
use Rattle.bits.specs.Choice.{pick}
use Rattle.x86defs.specs.Functions.{function, cpuid_result}
use Rattle.pages.specs.Layout.{entry_at, entry_start, word_at, page_size, entries_at, entry_size, most_entries, pages_in, count_of}
use Rattle.nearest.specs.declared.flips.Flip.{Flip}
use Rattle.nearest.specs.Flips.{flip, flipped_byte, flipped}
use Rattle.nearest.specs.OneBit.{bit_in, flip_entry}
use Rattle.nearest.specs.WordLaws.{word_other, word_at_lem}

-- which part of d bytes a byte is in
part_known : (d a b x y : ℕ) → x < d → y < d → a * d + x ≡ b * d + y → a ≡ b
part_known d a b x y u v e = sym (digits_div a u) ∙ ap (λ (n : ℕ). n / d) e ∙ digits_div b v

-- a page, and an entry of it, are known by a byte of theirs
pub known : (a b i j x y : ℕ) → x < 48 → y < 48 → i < most_entries → j < most_entries → entry_start a i + x ≡ entry_start b j + y → (a ≡ b) × (i ≡ j)
known a b i j x y u v l m e =
    let p : a ≡ b = part_known page_size a b (entries_at + entry_size * i + x)
    (entries_at + entry_size * j + y) (omega arith) (omega arith) (omega arith) in
    (p, part_known entry_size i j x y u v (omega (arith, p)))

-- a result bit of an entry of some page
pub record Inside (s : List ℕ) (p q r k : ℕ) : Type 0 where
  pub bytes : (i : ℕ) → get_or s i 0 < 256
  pub page : p < pages_in s
  pub entry : q < most_entries
  pub register : r < 4
  pub bit : k < 32

module _ (s : List ℕ) (p q r k : ℕ) (h : Inside s p q r k) where
  abbrev f : Flip
  f = flip p q r k

  at_inside : flipped_byte f < length s
  at_inside = omega (arith, h.page, h.entry, h.register, h.bit)

  low : k % 8 < 8
  low = omega arith

  other : (o : ℕ) → ((j : ℕ) → j < 4 → o + j ≡ flipped_byte f → ⊥) → word_at (flipped s f) o ≡ word_at s o
  unfolding flipped
  other o n = word_other s h.bytes (flipped_byte f) (k % 8) at_inside low o n

  pub same_length : length (flipped s f) ≡ length s
  unfolding flipped
  same_length = length-set s (flipped_byte f) _

  pub same_pages : pages_in (flipped s f) ≡ pages_in s
  same_pages = ap (λ (n : ℕ). n / page_size) same_length

  pub same_count : (p' : ℕ) → count_of (flipped s f) p' ≡ count_of s p'
  same_count p' =
      other (page_size * p') (λ j l e.
      let y : ℕ = entries_at + entry_size * q + 24 + 4 * r + k / 8 in
      let g : p' ≡ p = part_known page_size p' p j y (omega arith) (omega (arith, h.entry, h.register, h.bit)) (omega arith) in
      omega (arith, g, h.entry))

  -- a register of its own entry
  register_flip : (i o : ℕ) → i < 4 → o ≡ entry_start p q + 24 + 4 * i → word_at (flipped s f) o ≡ bit_xor (word_at s o) (bit_in r k i)
  unfolding bit_in flipped
  register_flip i o l e = go (eqb r i) refl
    where
      go : (b : Bool) → eqb r i ≡ b → word_at (flipped s f) o ≡ bit_xor (word_at s o) (pick b (2 ^ k) 0)
      go true t =
          let u : r ≡ i = eqb-true r i t in
          let d : 8 * (k / 8) + k % 8 ≡ k = omega arith in
          word_at_lem s h.bytes (flipped_byte f) (k % 8) at_inside low o (k / 8) (omega (arith, h.bit)) (omega arith)
          ∙ ap (λ (n : ℕ). bit_xor (word_at s o) (2 ^ n)) d
      go false t =
          let n : r ≡ i → ⊥ = eqb-false r i t in
          other o (λ j u v. omega (arith, n, h.bit)) ∙ sym (xor_zero_r (word_at s o))

  pub entry_flipped : entry_at (flipped s f) p q ≡ flip_entry r k (entry_at s p q)
  unfolding entry_at flip_entry
  entry_flipped x =
      let o : ℕ = entry_start p q in
      record {
        page = p;
        position = q;
        leaf = function (other o (λ j l e. omega (arith, h.register, h.bit)) x);
        subleaf = other (o + 4) (λ j l e. omega (arith, h.register, h.bit)) x;
        registers =
            cpuid_result (register_flip 0 (o + 24) (omega arith) (omega arith) x) (register_flip 1 (o + 28) (omega arith) (omega arith) x)
            (register_flip 2 (o + 32) (omega arith) (omega arith) x) (register_flip 3 (o + 36) (omega arith) (omega arith) x);
      }

  pub entry_other : (p' q' : ℕ) → q' < most_entries → (p' ≡ p → q' ≡ q → ⊥) → entry_at (flipped s f) p' q' ≡ entry_at s p' q'
  unfolding entry_at
  entry_other p' q' l n x =
      let o : ℕ = entry_start p' q' in
      record {
        page = p';
        position = q';
        leaf = function (same o 0 (omega arith) (omega arith) x);
        subleaf = same (o + 4) 4 (omega arith) (omega arith) x;
        registers = cpuid_result (same (o + 24) 24 (omega arith) (omega arith) x) (same (o + 28) 28 (omega arith) (omega arith) x)
            (same (o + 32) 32 (omega arith) (omega arith) x) (same (o + 36) 36 (omega arith) (omega arith) x);
      }
    where
      same : (w d : ℕ) → d ≤ 36 → w ≡ entry_start p' q' + d → word_at (flipped s f) w ≡ word_at s w
      same w d u e =
          other w (λ j v g.
          let y : ℕ = 24 + 4 * r + k / 8 in
          let small : y < 40 = omega (arith, h.register, h.bit) in
          let (a, b) = known p' p q' q (d + j) y (omega arith) (omega arith) l h.entry (omega arith) in
          n a b)
