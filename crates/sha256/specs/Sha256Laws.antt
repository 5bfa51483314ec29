-- Laws of SHA-256's definition, one for each step of the code.
use Rattle.std.specs.Int.{bytes_high_first}
use Rattle.std.specs.Prelude.{◌≡◌, ℕ, zero, suc, ◌+◌, ◌-◌, ◌*◌, ◌/◌, ◌%◌, ◌^◌, ◌<◌, ◌≤◌, List, [], ◌∷◌, ◌++◌, length, take, drop, set, replicate, slice_index, slice_set, refl}
use Rattle.std.proofs.Common.{sym, ap₂, ◌∙◌, append_assoc, add-one, div-one, arith}
use Rattle.std.proofs.Math.Path.{ap}
use Rattle.std.proofs.Math.ListN.{length-append, length-drop, get_or-append}
use Rattle.std.proofs.lemmas.List.{drop-replicate, length-replicate, replicate-append-replicate}
use borrow.Rule.Slice.PartMut.{put_mid}
use lib.Seq.{take_all, get_or-drop, set_at, drop_at, take-append_seam, drop-append-le}
use Rattle.sha256.specs.Block.{words, compress}
use Rattle.sha256.specs.BlockLaws.{words_same}
use Rattle.sha256.specs.Sha256.{big_endian, padding, padded, hashed, digest_of, sha256}

-- ---- what is left of the message, padded

-- a part of a list behind p, replaced by as many elements
put_seam : (p q s vs : List ℕ) (k : ℕ) → length q ≡ k → put_mid (length p) k (p ++ (q ++ s)) vs ≡ p ++ (vs ++ s)
put_seam p q s vs k e =
    ap₂ (λ (x y : List ℕ). x ++ (vs ++ y)) (take-append_seam p (q ++ s)) (ap (drop k) (drop_at p (q ++ s) (length p) refl) ∙ drop_at q s k e)

length_big_endian : (n x : ℕ) → length (big_endian n x) ≡ n
unfolding big_endian
length_big_endian zero x = refl
length_big_endian (suc n) x = ap suc (length_big_endian n x)

pub length_padding : (n : ℕ) → length (padding n) ≡ 9 + (119 - n % 64) % 64
unfolding padding
length_padding n =
    let z = (119 - n % 64) % 64 in
    omega (arith, length-append {A = ℕ} (replicate z 0) (big_endian 8 (8 * n)), length-replicate {A = ℕ} z 0, length_big_endian 8 (8 * n))

-- the big-endian bytes of the library, of which the lowest is not divided
pub bytes_as : (k x : ℕ) → bytes_high_first k x ≡ big_endian k x
unfolding big_endian
bytes_as zero x = refl
bytes_as (suc zero) x = rw (div-one x)
bytes_as (suc (suc k)) x = ap (λ (l : List ℕ). x / 256 ^ suc k % 256 ∷ l) (bytes_as (suc k) x)

-- the length's eight bytes, of the length in bits as it is cut to 64
pub length_cut : (n : ℕ) → big_endian 8 (n * 2 ^ 3 % 2 ^ 64) ≡ big_endian 8 (8 * n)
unfolding big_endian
length_cut n = rw (kept_7, kept_6, kept_5, kept_4, kept_3, kept_2, kept_1, kept_0)
  where
    kept_7 : n * 2 ^ 3 % 2 ^ 64 / 256 ^ 7 % 256 ≡ 8 * n / 256 ^ 7 % 256
    kept_7 = omega arith

    kept_6 : n * 2 ^ 3 % 2 ^ 64 / 256 ^ 6 % 256 ≡ 8 * n / 256 ^ 6 % 256
    kept_6 = omega arith

    kept_5 : n * 2 ^ 3 % 2 ^ 64 / 256 ^ 5 % 256 ≡ 8 * n / 256 ^ 5 % 256
    kept_5 = omega arith

    kept_4 : n * 2 ^ 3 % 2 ^ 64 / 256 ^ 4 % 256 ≡ 8 * n / 256 ^ 4 % 256
    kept_4 = omega arith

    kept_3 : n * 2 ^ 3 % 2 ^ 64 / 256 ^ 3 % 256 ≡ 8 * n / 256 ^ 3 % 256
    kept_3 = omega arith

    kept_2 : n * 2 ^ 3 % 2 ^ 64 / 256 ^ 2 % 256 ≡ 8 * n / 256 ^ 2 % 256
    kept_2 = omega arith

    kept_1 : n * 2 ^ 3 % 2 ^ 64 / 256 ^ 1 % 256 ≡ 8 * n / 256 ^ 1 % 256
    kept_1 = omega arith

    kept_0 : n * 2 ^ 3 % 2 ^ 64 / 256 ^ 0 % 256 ≡ 8 * n / 256 ^ 0 % 256
    kept_0 = omega arith

tail_stored : (rest vs : List ℕ) (z b : ℕ)
    → put_mid (length rest + 1 + z) 8 (slice_set (rest ++ replicate (suc (z + (8 + b))) 0) (length rest) 128) vs
    ≡ rest ++ (128 ∷ (replicate z 0 ++ vs)) ++ replicate b 0
tail_stored rest vs z b =
    let p : List ℕ = (rest ++ (128 ∷ [])) ++ replicate z 0 in
    let split : ◌≡◌ {A = List ℕ} (replicate (z + (8 + b)) 0) (replicate z 0 ++ (replicate 8 0 ++ replicate b 0)) =
    sym (replicate-append-replicate z (8 + b) 0) ∙ ap (λ (l : List ℕ). replicate z 0 ++ l) (sym (replicate-append-replicate 8 b 0))
    in
    let mark : set (rest ++ replicate (suc (z + (8 + b))) 0) (length rest) 128 ≡ p ++ (replicate 8 0 ++ replicate b 0) =
    set_at rest 0 (replicate (z + (8 + b)) 0) 128 (length rest) refl ∙ rw split (simp append_assoc)
    in
    let n : length rest + 1 + z ≡ length p =
    omega (arith, length-append (rest ++ (128 ∷ [])) (replicate z 0), length-append rest (128 ∷ []), length-replicate {A = ℕ} z 0)
    in
    rw (mark, n) (put_seam p (replicate 8 0) (replicate b 0) vs 8 refl ∙ simp append_assoc)

-- the rest, the mark behind it, and the length's bytes at an index, in 128 zeros
pub tail_padded : (rest vs : List ℕ) (n at k : ℕ) → length rest ≡ n % 64 → at ≡ length rest + 1 + (119 - n % 64) % 64 → at + 8 ≤ 128 → k ≡ 8
    → vs ≡ big_endian 8 (8 * n)
    → put_mid at k (slice_set (rest ++ drop (length rest) (replicate 128 0)) (length rest) 128) vs
    ≡ rest ++ padding n ++ replicate (128 - (length rest + length (padding n))) 0
unfolding padding
tail_padded rest vs n at k e q l ek is =
    let z : ℕ = (119 - n % 64) % 64 in
    let b : ℕ = 128 - (length rest + length (padding n)) in
    let en : 128 - length rest ≡ suc (z + (8 + b)) = omega (arith, length_padding n) in
    rw (is, ek, q, drop-replicate {X = ℕ} (length rest) 128 0, en) (tail_stored rest (big_endian 8 (8 * n)) z b)

-- ---- blocks of the padded message

pub hashed_whole : (m : List ℕ) (i : ℕ) → 64 * i + 64 ≤ length m → compress (hashed (padded m) i) (words m (64 * i) 16) ≡ hashed (padded m) (i + 1)
unfolding hashed padded
hashed_whole m i h =
    rw add-one
    (ap (compress (hashed (padded m) i))
    (words_same 16 m (padded m) (64 * i) (64 * i) (λ x l. sym (get_or-append m (padding (length m)) 0 (64 * i + x) (omega arith)))))

-- what is left of a message after q blocks, as a part of a slice is
abbrev left : List ℕ → ℕ → List ℕ
left m q = take (length m - 64 * q) (drop (64 * q) m)

module _ (m tail : List ℕ) (q : ℕ) (within : 64 * q ≤ length m)
    (is : tail ≡ left m q ++ padding (length m) ++ replicate (128 - (length (left m q) + length (padding (length m)))) 0) where
  tail_at : (y : ℕ) → 64 * q + y < length (padded m) → slice_index tail y ≡ slice_index (padded m) (64 * q + y)
  unfolding padded
  tail_at y h =
      let rest = drop (64 * q) m in
      let pad = padding (length m) in
      let here : y < length (rest ++ pad) = omega (arith, length-append rest pad, length-append m pad, length-drop (64 * q) m) in
      let all = take_all (length m - 64 * q) rest (omega (arith, length-drop (64 * q) m)) in
      rw (is, all)
      (get_or-append (rest ++ pad) _ 0 y here
      ∙ ap (λ (l : List ℕ). slice_index l y) (sym (drop-append-le (64 * q) m pad within))
      ∙ get_or-drop (64 * q) (m ++ pad) y 0)

  -- block j of the tail stands j blocks after the whole ones
  hashed_tail : (j k : ℕ) → k ≡ q + j → 64 * k + 64 ≤ length (padded m)
      → compress (hashed (padded m) k) (words tail (64 * j) 16) ≡ hashed (padded m) (suc k)
  unfolding hashed
  hashed_tail j k e h =
      ap (compress (hashed (padded m) k))
      (words_same 16 tail (padded m) (64 * j) (64 * k) (λ x l.
      tail_at (64 * j + x) (omega arith) ∙ ap (λ (y : ℕ). slice_index (padded m) y) (omega arith)))

  length_padded : length (padded m) ≡ length m + 9 + (119 - length m % 64) % 64
  unfolding padded
  length_padded = omega (arith, length-append m (padding (length m)), length_padding (length m))

  pub digest_one : q ≡ length m / 64 → length m - 64 * q < 56 → digest_of (compress (hashed (padded m) q) (words tail 0 16)) ≡ sha256 m
  unfolding sha256
  digest_one e h =
      let n : length (padded m) / 64 ≡ suc q = omega (arith, length_padded) in
      rw (n, hashed_tail 0 q (omega arith) (omega (arith, length_padded)))

  pub digest_two : q ≡ length m / 64 → 56 ≤ length m - 64 * q
      → digest_of (compress (compress (hashed (padded m) q) (words tail 0 16)) (words tail 64 16)) ≡ sha256 m
  unfolding sha256
  digest_two e h =
      let n : length (padded m) / 64 ≡ suc (suc q) = omega (arith, length_padded) in
      rw (n, hashed_tail 0 q (omega arith) (omega (arith, length_padded)), hashed_tail 1 (suc q) (omega arith) (omega (arith, length_padded)))
