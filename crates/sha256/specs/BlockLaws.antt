-- Laws of a block's definition, one for each step of the code.
use Rattle.std.specs.Prelude.{◌≡◌, ℕ, zero, suc, ◌+◌, ◌-◌, ◌*◌, ◌<◌, ◌≤◌, List, [], ◌∷◌, ◌++◌, length, take, slice_index, slice_index_or, slice_set, refl}
use Rattle.std.proofs.Common.{sym, ap, ◌∙◌, add_assoc, add-one, arith, take-suc-set, take_all, get_or-take}
use Rattle.sha256.specs.declared.block.State.{State}
use Rattle.sha256.specs.Block.{◌⊞◌, σ₀, σ₁, constants, word_at, words, next_word, with_next, schedule, turn, turns}

-- ---- the message schedule, word by word

pub words_next : (m w : List ℕ) (at t v : ℕ) → t < length w → v ≡ word_at m (at + 4 * t) → take t w ≡ words m at t
    → take (t + 1) (slice_set w t v) ≡ words m at (t + 1)
unfolding words
words_next m w at t v h e q = rw (add-one, take-suc-set w t v h, e, q)

pub schedule_next : (b w : List ℕ) (i v : ℕ) → 16 + i < length w
    → v ≡ σ₁ (slice_index w (i + 14)) ⊞ slice_index_or w (i + 9) 0 ⊞ σ₀ (slice_index w (i + 1)) ⊞ slice_index_or w i 0 → take (16 + i) w ≡ schedule b i
    → take (16 + (i + 1)) (slice_set w (16 + i) v) ≡ schedule b (i + 1)
unfolding next_word schedule with_next
schedule_next b w i v h e q =
    let n : 16 + (i + 1) ≡ suc (16 + i) = omega arith in
    rw (n, take-suc-set w (16 + i) v h, add-one) next
  where
    at : (k d : ℕ) → k < 16 + i → k ≡ d → slice_index w k ≡ slice_index (schedule b i) d
    at k d l p = rw (← q, ← p) (sym (get_or-take (16 + i) w k 0 l))

    word : v ≡ next_word (schedule b i) (16 + i)
    word =
        rw (
          e,
          at (i + 14) (16 + i - 2) (omega arith) (omega arith),
          at (i + 9) (16 + i - 7) (omega arith) (omega arith),
          at (i + 1) (16 + i - 15) (omega arith) (omega arith),
          at i (16 + i - 16) (omega arith) (omega arith),
        )

    next : take (16 + i) w ++ (v ∷ []) ≡ schedule b (suc i)
    next = rw (q, word)

pub schedule_whole : (b w : List ℕ) (i : ℕ) → 48 ≤ i → i ≤ 48 → length w ≡ 64 → take (16 + i) w ≡ schedule b i → w ≡ schedule b 48
schedule_whole b w i h l e q =
    let n : i ≡ 48 = omega arith in
    sym (take_all (16 + i) w (omega arith)) ∙ q ∙ ap (schedule b) n

-- equal bytes are equal words
pub words_same : (n : ℕ) (l k : List ℕ) (i j : ℕ) → ((x : ℕ) → x < 4 * n → slice_index l (i + x) ≡ slice_index k (j + x)) → words l i n ≡ words k j n
unfolding words word_at
words_same zero l k i j f = refl
words_same (suc n) l k i j f =
    rw (words_same n l k i j (λ x h. f x (omega arith)), f (4 * n) (omega arith), at 1 (omega arith), at 2 (omega arith), at 3 (omega arith))
  where
    at : (d : ℕ) → d < 4 → slice_index l (i + 4 * n + d) ≡ slice_index k (j + 4 * n + d)
    at d h = rw (add_assoc i (4 * n) d, add_assoc j (4 * n) d) (f (4 * n + d) (omega arith))

-- ---- one turn more

pub turns_next : (p : State) (w : List ℕ) (t n : ℕ) {s r : State} → n ≡ t + 1 → s ≡ turns p w t → r ≡ turn s (slice_index constants t) (slice_index w t) → r ≡ turns p w n
unfolding turns
turns_next p w t n e q h = rw (e, add-one, ← q) h
