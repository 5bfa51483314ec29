-- The code of the join: its loops go place by place.
use Rattle.std.specs.Prelude.{◌≡◌, ◌↔◌, Bool, ◌&&◌, List, ℕ, ◌+◌, ◌*◌, ◌≤◌, ◌<◌, length, get_or, set}
use Rattle.std.proofs.Math.Path.{refl, sym}
use Rattle.std.proofs.Common.{ap, ap₂, ◌∙◌, le_refl, arith}
use Rattle.std.proofs.Math.Bool.{true, false}
use Rattle.bits.specs.Choice.{pick}
use Rattle.bits.specs.ChoiceLaws.{never_both}
use Rattle.bits.specs.Search.{every}
use Rattle.bits.specs.SearchLaws.{every_at, every_fails}
use Rattle.bits.specs.ListsLaws.{length_tabulate, get_d_tabulate}
use Rattle.bits.specs.InPlace.{UpTo, up_to_next, up_to_end}
use Rattle.x86defs.specs.declared.CpuidResult.{CpuidResult}
use Rattle.x86defs.specs.Functions.{cpuid_result}
use Rattle.masking.specs.Kept.{places}
use Rattle.memory.specs.Memory.{row_of, put_row, is_there, row_list}
use Rattle.memory.specs.MemoryLaws.{put_length, put_is_set, known_by_rows}
use Rattle.finish.specs.Kinds.{kinds_at}
use Rattle.register_masks.specs.Join.{pooled_results}
use Rattle.register_masks.specs.Alike.{registers_alike}
use Rattle.pool.specs.Joins.{joined_row, found_alike, Joins, alike_where}

-- ---- one server more: before place i, v and out have their new values, from it on their old ones

module _ (w u : List ℕ) (alike : List Bool) where
  pub record Joining (i : ℕ) (v : List ℕ) (out : List Bool) : Type 0 where
    pub size : length v ≡ 4 * places
    pub rows : UpTo (cpuid_result 0 0 0 0) (joined_row (row_of w) (row_of u)) (row_list w) (row_list v) i
    pub flags : UpTo false (found_alike alike (row_of w) (row_of u)) alike out i

  pub joining_starts : length w ≡ 4 * places → Joining 0 w alike
  joining_starts e = record {
    size = e;
    rows = record { size = refl; below = λ j h. absurd (omega arith); above = λ j h. refl };
    flags = record { size = refl; below = λ j h. absurd (omega arith); above = λ j h. refl };
  }

  -- a turn: r is the joined row, s whether the two rows are alike
  module _ {v : List ℕ} {out : List Bool} (i : ℕ) (l : i < places) (n : length alike ≡ places) (d : Joining i v out) where
    same_row : row_of v i ≡ row_of w i
    same_row =
        sym (get_d_tabulate places (row_of v) i (cpuid_result 0 0 0 0) l)
        ∙ d.rows.above i (le_refl i)
        ∙ get_d_tabulate places (row_of w) i (cpuid_result 0 0 0 0) l

    pub joining_next : {a b r : CpuidResult} {s : Bool} → a ≡ row_of v i → b ≡ row_of u i → s ≡ registers_alike (kinds_at i) a b
        → r ≡ pooled_results (kinds_at i) a b → Joining (i + 1) (put_row v i r) (set out i (get_or alike i false && s))
    joining_next {a} {b} {r} {s} p q e f = record {
      size = put_length v i r d.size l;
      rows =
          rw (put_is_set v i r d.size l)
          (up_to_next refl (omega (arith, length_tabulate places (row_of v), l)) (f ∙ ap₂ (pooled_results (kinds_at i)) (p ∙ same_row) q) d.rows);
      flags =
          up_to_next refl (omega (arith, d.flags.size, l, n))
          (ap (λ (c : Bool). get_or alike i false && c) (e ∙ ap₂ (registers_alike (kinds_at i)) (p ∙ same_row) q)) d.flags;
    }

  pub joining_ends : {v : List ℕ} {out : List Bool} (i : ℕ) → places ≤ i → length alike ≡ places → Joining i v out → Joins w u alike v out
  joining_ends {v} i h n d = record {
    registers = known_by_rows v (joined_row (row_of w) (row_of u)) d.size (up_to_end (length_tabulate places (row_of w)) h d.rows);
    flags = up_to_end n h d.flags;
  }

-- ---- whether every place that has a row is alike, from what the code says where it asks place by place

module _ (o : List ℕ) (alike : List Bool) where
  abbrev test : ℕ → Bool
  test i = pick (is_there (get_or o i 0)) (get_or alike i false) true

  pub where_every : {r : Bool} → ((r ≡ true) ↔ ((i : ℕ) → i < places → test i ≡ true)) → r ≡ alike_where o alike
  unfolding alike_where
  where_every {r} h = go (every test places) r refl refl
    where
      go : (b q : Bool) → every test places ≡ b → r ≡ q → r ≡ every test places
      go true q e f = h.1 (every_at test places e) ∙ sym e
      go false true e f = let x = every_fails test places e in absurd (never_both (h.0 f x.0 x.1) x.2)
      go false false e f = f ∙ sym e
