-- The loop that drops D subleaves in place. The invariant: rows below the loop's place have their new values, the others their old ones.
use Rattle.std.specs.Prelude.{◌≡◌, Bool, true, false, ◌&&◌, List, eqb, ltb, length, get_or, set}
use Rattle.std.proofs.Math.Path.{refl, sym, ap}
use Rattle.std.proofs.Common.{◌∙◌, le_refl, eqb-true, ltb-true, ltb-false, lt-ltb, le-ltb, le-leb}
use Prim.Native.Nat.{ℕ, zero, suc, ◌+◌, ◌*◌, ◌-◌, ◌≤◌, ◌<◌}
use native.Mathlib.Omega.{arith}
use Rattle.std.specs.Int.Bits.{bit_and}
use Rattle.std.specs.Int.Count.{count_trailing_zeros}
use Rattle.std.proofs.lemmas.Bool.{eqb-false, lt-leb}
use Rattle.bits.specs.ChoiceLaws.{pick_true, pick_false}
use Rattle.bits.specs.Lists.{tabulate}
use Rattle.bits.specs.ListsLaws.{tabulated, get_d_tabulate, length_tabulate}
use Rattle.bits.specs.InPlace.{UpTo, up_to_next, up_to_same}
use Rattle.bits.specs.Bits.{has}
use Rattle.x86defs.specs.Functions.{cpuid_result}
use Rattle.masking.specs.Kept.{places}
use Rattle.masking.specs.Place
use Rattle.memory.specs.Memory.{row_of, put_row, is_there, row_list}
use Rattle.memory.specs.MemoryLaws.{put_length, put_is_set, known_by_rows}
use Rattle.checks.specs.LowestLaws.{Left, Taken, left_taken, left_none}
use Rattle.rows.specs.Finished.{stays, kept_row, kept_origin, Dropped, empty_rows, empty_origins}

-- a list changed in place below k alone, where nothing from k up is to change
up_to_rest : {A : Type 0} (d : A) (new : ℕ → A) {old out : List A} (n k : ℕ) → length old ≡ n
    → ((j : ℕ) → k ≤ j → j < n → new j ≡ get_or old j d) → UpTo d new old out k → out ≡ tabulate n new
up_to_rest d new {old} {out} n k e f u = tabulated n new out d (u.size ∙ e) (λ j h. go j h (ltb j k) refl)
  where
    go : (j : ℕ) → j < n → (b : Bool) → ltb j k ≡ b → get_or out j d ≡ new j
    go j h true q = u.below j (ltb-true j k q)
    go j h false q = let l : k ≤ j = ltb-false j k q in u.above j l ∙ sym (f j l h)

-- ---- subleaves made zeros, one after the other

module _ (k to : ℕ) (h : k < to) where
  more : to - k ≡ suc (to - (k + 1))
  more = omega arith

  pub empty_row : (w : List ℕ) → empty_rows (to - (k + 1)) (k + 1) (put_row w (Place.extended_state k) (cpuid_result 0 0 0 0)) ≡ empty_rows (to - k) k w
  unfolding empty_rows
  empty_row w = sym (ap (λ (n : ℕ). empty_rows n k w) more)

  pub empty_origin : (o : List ℕ) → empty_origins (to - (k + 1)) (k + 1) (set o (Place.extended_state k) 0) ≡ empty_origins (to - k) k o
  unfolding empty_origins
  empty_origin o = sym (ap (λ (n : ℕ). empty_origins n k o) more)

module _ (k to : ℕ) (h : k ≡ to) where
  none : to - k ≡ 0
  none = omega arith

  pub empty_rows_end : (w : List ℕ) → empty_rows (to - k) k w ≡ w
  unfolding empty_rows
  empty_rows_end w = ap (λ (n : ℕ). empty_rows n k w) none

  pub empty_origins_end : (o : List ℕ) → empty_origins (to - k) k o ≡ o
  unfolding empty_origins
  empty_origins_end o = ap (λ (n : ℕ). empty_origins n k o) none

-- ---- which rows stay

stays_low : (x i : ℕ) (p : Bool) → i < Place.extended_state 2 → stays x i p ≡ true
stays_low x i p h = rw (lt-leb (Place.extended_state 2) i h)

stays_high : (x i : ℕ) (p : Bool) → Place.extended_state 64 ≤ i → stays x i p ≡ true
stays_high x i p h = rw (le-leb (Place.extended_state 2) i (omega arith), le-ltb i (Place.extended_state 64) h)

stays_at : (x k : ℕ) (p : Bool) → 2 ≤ k → k < 64 → stays x (Place.extended_state k) p ≡ (has k x && p)
stays_at x k p l u =
    let q : Place.extended_state k - Place.extended_state 0 ≡ k = omega arith in
    rw (
      le-leb (Place.extended_state 2) (Place.extended_state k) (omega arith),
      lt-ltb (Place.extended_state k) (Place.extended_state 64) (omega arith),
      q,
    )

-- ---- the loop

module _ (w o : List ℕ) (x : ℕ) where
  pub record Dropping (k : ℕ) (v q : List ℕ) : Type 0 where
    pub size : length v ≡ 4 * places
    pub rows : UpTo (cpuid_result 0 0 0 0) (kept_row w o x) (row_list w) (row_list v) (Place.extended_state k)
    pub origins : UpTo 0 (kept_origin o x) o q (Place.extended_state k)

  abbrev there : ℕ → Bool
  there j = is_there (get_or o j 0)

  pub dropping_starts : length w ≡ 4 * places → Dropping 2 w o
  dropping_starts e = record {
    size = e;
    rows = record {
      size = refl;
      below =
          λ j h. get_d_tabulate places (row_of w) j (cpuid_result 0 0 0 0) (omega arith) ∙ sym (pick_true _ _ (stays_low x j (there j) h));
      above = λ j h. refl;
    };
    origins = record { size = refl; below = λ j h. sym (pick_true _ _ (stays_low x j (there j) h)); above = λ j h. refl };
  }

  -- a turn, at subleaf k, whose place is i: a row that stays, and any other
  module _ {v q : List ℕ} (k : ℕ) {used here : Bool} (l : 2 ≤ k) (u : k < 64) (d : Dropping k v q) (e : used ≡ has k x)
      (f : here ≡ is_there (get_or q (Place.extended_state k) 0)) (s : length o ≡ places) where
    abbrev i : ℕ
    i = Place.extended_state k

    stay : stays x i (there i) ≡ (used && here)
    stay = stays_at x k (there i) l u ∙ rw (e, f, d.origins.above i (le_refl i))

    next : Place.extended_state (k + 1) ≡ i + 1
    next = omega arith

    pub dropping_stays : (used && here) ≡ true → Dropping (k + 1) v q
    dropping_stays t = record {
      size = d.size;
      rows =
          up_to_same next
          (d.rows.above i (le_refl i)
          ∙ get_d_tabulate places (row_of w) i (cpuid_result 0 0 0 0) (omega arith)
          ∙ sym (pick_true _ _ (stay ∙ t)))
          d.rows;
      origins = up_to_same next (d.origins.above i (le_refl i) ∙ sym (pick_true _ _ (stay ∙ t))) d.origins;
    }

    pub dropping_goes : (used && here) ≡ false → Dropping (k + 1) (put_row v i (cpuid_result 0 0 0 0)) (set q i 0)
    dropping_goes t = record {
      size = put_length v i (cpuid_result 0 0 0 0) d.size (omega arith);
      rows =
          rw (put_is_set v i (cpuid_result 0 0 0 0) d.size (omega arith))
          (up_to_next next (omega (arith, length_tabulate places (row_of v))) (sym (pick_false _ _ (stay ∙ t))) d.rows);
      origins = up_to_next next (omega (arith, d.origins.size)) (sym (pick_false _ _ (stay ∙ t))) d.origins;
    }

  -- n subleaves from k on that do not stay
  pub dropping_run : (n k : ℕ) {v q : List ℕ} → 2 ≤ k → k + n ≤ 64 → length o ≡ places
      → ((j : ℕ) → k ≤ j → j < k + n → (has j x && there (Place.extended_state j)) ≡ false) → Dropping k v q
      → Dropping (k + n) (empty_rows n k v) (empty_origins n k q)
  unfolding empty_rows empty_origins
  dropping_run zero k l u s f d = let e : k + 0 ≡ k = omega arith in rw e d
  dropping_run (suc n) k {v} {q} l u s f d =
      let e : k + suc n ≡ k + 1 + n = omega arith in
      let same : is_there (get_or q (Place.extended_state k) 0) ≡ there (Place.extended_state k) = ap is_there (d.origins.above (Place.extended_state k) (le_refl (Place.extended_state k))) in
      rw e
      (dropping_run n (k + 1) (omega arith) (omega arith) s (λ j a b. f j (omega arith) (omega arith))
      (dropping_goes k l (omega arith) d refl refl s (ap (λ (b : Bool). has k x && b) same ∙ f k (omega arith) (omega arith))))

  -- what is left of the mask is its bits from b up, and what stands from k up to b does not stay
  pub record Running (k : ℕ) (v q : List ℕ) (rest : ℕ) : Type 0 where
    pub b : ℕ
    pub low : 2 ≤ k
    pub upto : k ≤ b
    pub high : b ≤ 64
    pub gap : (j : ℕ) → k ≤ j → j < b → (has j x && there (Place.extended_state j)) ≡ false
    pub left : Left x rest b
    pub done : Dropping k v q

  pub running_starts : length w ≡ 4 * places → {rest : ℕ} → Left x rest 2 → Running 2 w o rest
  running_starts e l = record {
    b = 2;
    low = omega arith;
    upto = omega arith;
    high = omega arith;
    gap = λ j a b. absurd (omega arith);
    left = l;
    done = dropping_starts e;
  }

  module _ {k rest : ℕ} {v q : List ℕ} (d : Running k v q rest) (s : length o ≡ places) where
    widened : (z : ℕ) → ((j : ℕ) → d.b ≤ j → j < z → has j x ≡ false) → (j : ℕ) → k ≤ j → j < z → (has j x && there (Place.extended_state j)) ≡ false
    widened z f j l u = go (ltb j d.b) refl
      where
        go : (c : Bool) → ltb j d.b ≡ c → (has j x && there (Place.extended_state j)) ≡ false
        go true e = d.gap j l (ltb-true j d.b e)
        go false e = rw (f j (ltb-false j d.b e) u)

    -- a run up to z
    run : (z : ℕ) → k ≤ z → z ≤ 64 → ((j : ℕ) → d.b ≤ j → j < z → has j x ≡ false) → {v₁ q₁ : List ℕ} → v₁ ≡ empty_rows (z - k) k v → q₁ ≡ empty_origins (z - k) k q
        → Dropping z v₁ q₁
    run z l u f e g =
        let p : k + (z - k) ≡ z = omega arith in
        rw (e, g) (rw p at (dropping_run (z - k) k d.low (omega arith) s (λ j a b. widened z f j a (omega arith)) d.done))

    module _ (n : ¬ (rest ≡ 0)) where
      abbrev z : ℕ
      z = count_trailing_zeros 64 rest

      pub taken : Taken x rest d.b z
      taken = left_taken d.left n

      pub running_from : k ≤ z
      running_from = omega (arith, d.upto, taken.from)

      same : get_or q (Place.extended_state z) 0 ≡ get_or o (Place.extended_state z) 0
      same = d.done.origins.above (Place.extended_state z) (omega (arith, running_from))

      module _ {here : Bool} (f : here ≡ is_there (get_or q (Place.extended_state z) 0)) where
        -- its row is there, and what stands before it is dropped
        pub running_stays : here ≡ true → {v₁ q₁ : List ℕ} → v₁ ≡ empty_rows (z - k) k v → q₁ ≡ empty_origins (z - k) k q
            → Running (z + 1) v₁ q₁ (bit_and rest (rest - 1))
        running_stays t {v₁} {q₁} e g =
            let r : Dropping z v₁ q₁ = run z running_from (omega (arith, taken.inside)) taken.between e g in
            let h : true ≡ is_there (get_or q₁ (Place.extended_state z) 0) =
            sym (ap is_there (r.origins.above (Place.extended_state z) (le_refl (Place.extended_state z)) ∙ sym same) ∙ sym f ∙ t) in
            record {
              b = z + 1;
              low = omega (arith, d.low, running_from);
              upto = le_refl (z + 1);
              high = omega (arith, taken.inside);
              gap = λ j a b. absurd (omega arith);
              left = taken.next;
              done = dropping_stays z (omega (arith, d.low, running_from)) taken.inside r (sym taken.here) h s refl;
            }

        pub running_goes : here ≡ false → Running k v q (bit_and rest (rest - 1))
        running_goes t =
            let absent : there (Place.extended_state z) ≡ false = ap is_there (sym same) ∙ sym f ∙ t in
            record {
              b = z + 1;
              low = d.low;
              upto = omega (arith, running_from);
              high = omega (arith, taken.inside);
              gap = λ j a b. gap absent j a b (eqb j z) refl;
              left = taken.next;
              done = d.done;
            }
          where
            gap : there (Place.extended_state z) ≡ false → (j : ℕ) → k ≤ j → j < z + 1 → (c : Bool) → eqb j z ≡ c
                → (has j x && there (Place.extended_state j)) ≡ false
            gap absent j a b true e = let i : j ≡ z = eqb-true j z e in rw i (rw absent (never (has z x)))
              where
                never : (c : Bool) → (c && false) ≡ false
                never true = refl
                never false = refl
            gap absent j a b false e = let i : ¬ (j ≡ z) = eqb-false j z e in widened z taken.between j a (omega arith)

    pub running_ends : rest ≡ 0 → {v₁ q₁ : List ℕ} → v₁ ≡ empty_rows (64 - k) k v → q₁ ≡ empty_origins (64 - k) k q → Dropping 64 v₁ q₁
    running_ends e f g = run 64 (omega (arith, d.upto, d.high)) (le_refl 64) (λ j a b. left_none d.left e j a) f g

  pub dropping_ends : {v q : List ℕ} (k : ℕ) → k ≡ 64 → length o ≡ places → Dropping k v q → Dropped w o x v q
  dropping_ends {v} {q} k e s d =
      let d₁ : Dropping 64 v q = rw e at d in
      record {
        registers =
            known_by_rows v (kept_row w o x) d.size
            (up_to_rest (cpuid_result 0 0 0 0) (kept_row w o x) places (Place.extended_state 64) (length_tabulate places (row_of w))
            (λ j h l. pick_true _ _ (stays_high x j (there j) h) ∙ sym (get_d_tabulate places (row_of w) j (cpuid_result 0 0 0 0) l)) d₁.rows);
        origins =
            up_to_rest 0 (kept_origin o x) places (Place.extended_state 64) s (λ j h l. pick_true _ _ (stays_high x j (there j) h)) d₁.origins;
      }
