-- Words written as bytes and read again: each cut to 32 bits.
use Rattle.std.specs.Prelude.{◌≡◌, refl, List, [], ◌∷◌, ◌++◌, ℕ, zero, suc, ◌+◌, ◌*◌, ◌/◌, ◌%◌, ◌<◌, length, get_or, replicate}
use Rattle.std.proofs.Common.{sym, ap, ◌∙◌, arith, get_or-append-add}
use Rattle.std.proofs.lemmas.Nat.{mod-pow-add}
use Rattle.pages.specs.Layout.{word_at}
use Rattle.buffer.specs.Front.{bytes_of}
use Rattle.kvm_list.specs.Words.{bytes_of_words, low_word}

pub cut_cut : (n : ℕ) → low_word (low_word n) ≡ low_word n
cut_cut n = omega arith

pub cut_small : (n : ℕ) → n < 4294967296 → low_word n ≡ n
cut_small n h = omega arith

pub length_bytes : (ws : List ℕ) → length (bytes_of_words ws) ≡ 4 * length ws
unfolding bytes_of_words
length_bytes [] = refl
length_bytes (w ∷ ws) = let e : length (bytes_of_words ws) ≡ 4 * length ws = length_bytes ws in omega arith

pub bytes_append : (a b : List ℕ) → bytes_of_words (a ++ b) ≡ bytes_of_words a ++ bytes_of_words b
unfolding bytes_of_words
bytes_append [] b = refl
bytes_append (w ∷ ws) b = ap (bytes_of w ++◌) (bytes_append ws b)

regroup : (a b c d : ℕ) → a + 256 * b + 65536 * c + 16777216 * d ≡ d * 16777216 + (c * 65536 + (b * 256 + a))
regroup a b c d = omega arith

four_bytes : (n : ℕ) → n % 256 + 256 * (n / 256 % 256) + 65536 * (n / 65536 % 256) + 16777216 * (n / 16777216 % 256) ≡ low_word n
four_bytes n =
    regroup (n % 256) (n / 256 % 256) (n / 65536 % 256) (n / 16777216 % 256)
    ∙ sym
    (mod-pow-add n 8 24
    ∙ ap (λ (x : ℕ). n / 16777216 % 256 * 16777216 + x)
    (mod-pow-add n 8 16 ∙ ap (λ (x : ℕ). n / 65536 % 256 * 65536 + x) (mod-pow-add n 8 8)))

-- past four bytes
word_past : (a : List ℕ) (s : List ℕ) (k : ℕ) → length a ≡ 4 → word_at (a ++ s) (4 * suc k) ≡ word_at s (4 * k)
word_past a s k e =
    rw (
      byte (4 * suc k) (4 * k) (omega arith),
      byte (4 * suc k + 1) (4 * k + 1) (omega arith),
      byte (4 * suc k + 2) (4 * k + 2) (omega arith),
      byte (4 * suc k + 3) (4 * k + 3) (omega arith),
    )
  where
    byte : (i j : ℕ) → i ≡ length a + j → get_or (a ++ s) i 0 ≡ get_or s j 0
    byte i j p = ap (λ (n : ℕ). get_or (a ++ s) n 0) p ∙ get_or-append-add a s j 0

pub word_bytes : (ws : List ℕ) (k : ℕ) → word_at (bytes_of_words ws) (4 * k) ≡ low_word (get_or ws k 0)
unfolding bytes_of_words
word_bytes [] k = refl
word_bytes (w ∷ ws) zero = four_bytes w
word_bytes (w ∷ ws) (suc k) = word_past (bytes_of w) (bytes_of_words ws) k refl ∙ word_bytes ws k

pub zero_words : (k : ℕ) → bytes_of_words (replicate k 0) ≡ replicate (4 * k) 0
unfolding bytes_of_words
zero_words zero = refl
zero_words (suc k) =
    let e : 4 * suc k ≡ suc (suc (suc (suc (4 * k)))) = omega arith in
    ap (λ (l : List ℕ). 0 ∷ 0 ∷ 0 ∷ 0 ∷ l) (zero_words k) ∙ sym (ap (λ (n : ℕ). replicate {A = ℕ} n 0) e)
