-- The loop that reads an image into memory, from place to place, and the answer that it ends in.
use Rattle.std.specs.Prelude.{◌≡◌, Bool, ℕ, zero, suc, ◌+◌, ◌-◌, ◌*◌, ◌≤◌, ◌<◌, get_or, drop, set, replicate}
use Rattle.std.proofs.Math.Path.{refl, sym, ap, subst}
use Rattle.std.proofs.Common.{◌∙◌, le_refl, arith, length-drop, drop-drop}
use Rattle.std.proofs.Math.Bool.{true, false}
use mathlib.Core.List.{List}
use Rattle.std.proofs.Math.Numerals.{add-one}
use Rattle.std.proofs.Math.Dec.{eqb}
use Rattle.std.proofs.Math.ListN.{length}
use borrow.Author.Tests.{eq-eqb, ne_eqb}
use Rattle.bits.specs.InPlace.{UpTo, up_to_next, up_to_same, up_to_end}
use Rattle.bits.specs.Lists.{tabulate}
use Rattle.bits.specs.ListsLaws.{tabulate_ext}
use Rattle.x86defs.specs.declared.CpuidResult.{CpuidResult}
use Rattle.x86defs.specs.Functions.{cpuid_result}
use Rattle.pages.specs.Layout.{registers_at}
use Rattle.masking.specs.Kept.{places, indexed_at}
use Rattle.table.specs.Rows.{Row, row, vacant}
use Rattle.table.specs.Table.{row_in}
use Rattle.memory.specs.Origin.{origin_number}
use Rattle.memory.specs.Origin.Origin.{not_known}
use Rattle.memory.specs.Memory.{put_row, layout, row_list}
use Rattle.memory.specs.MemoryLaws.{put_length, put_is_set, known_by_rows, layout_ext}
use Rattle.memory.specs.Held.{whole_row_lem}
use Rattle.image_read.specs.ReadImage.{begins, row_read, after_row, left, rows_read, is_image, read_image}
use Rattle.image_read.specs.BeginsLaws.{registers_end, RowThere}
use Rattle.image_read.specs.ReadIn.{origin_of_read, FoundIn, ReadIn}

-- ---- from place to place

-- Reading stands at index `at` of the bytes and at place i: the rows of the places before are stored, no other is.
pub record Reading (s : List ℕ) (at i : ℕ) (w o : List ℕ) : Type 0 where
  pub inside : at ≤ length s
  pub rest : drop at s ≡ left s i
  pub size : length w ≡ 4 * places
  pub results : UpTo (cpuid_result 0 0 0 0) (λ j. (rows_read s j).result) (replicate places (cpuid_result 0 0 0 0)) (row_list w) i
  pub origins : UpTo 0 (λ j. origin_of_read (rows_read s j).present) (replicate places 0) o i

-- an empty list has its default everywhere
get_d_empty : {A : Type 0} (n : ℕ) (d : A) (j : ℕ) → get_or (replicate n d) j d ≡ d
get_d_empty zero d j = refl
get_d_empty (suc n) d zero = refl
get_d_empty (suc n) d (suc j) = get_d_empty n d j

-- where the default is wanted, nothing is stored
stays : {A : Type 0} {d : A} {new : ℕ → A} {out : List A} {i : ℕ} → UpTo d new (replicate places d) out i → new i ≡ d
    → UpTo d new (replicate places d) out (i + 1)
stays {A} {d} {new} {out} {i} u e = up_to_same refl (u.above i (le_refl i) ∙ get_d_empty places d i ∙ sym e) u

no_rows : row_list (replicate 352 0) ≡ replicate places (cpuid_result 0 0 0 0)
unfolding tabulate
no_rows = refl

untouched : {A : Type 0} (d : A) (new : ℕ → A) → UpTo d new (replicate places d) (replicate places d) 0
untouched d new = record { size = refl; below = λ j h. absurd (omega arith); above = λ j h. refl }

module _ (s : List ℕ) where
  pub reading_starts : {w o : List ℕ} → w ≡ replicate 352 0 → o ≡ replicate 88 0 → Reading s 0 0 w o
  unfolding left
  reading_starts {w} {o} e f = record {
    inside = omega arith;
    rest = refl;
    size = ap length e;
    results =
        subst (λ (l : List CpuidResult). UpTo (cpuid_result 0 0 0 0) (λ j. (rows_read s j).result) (replicate places (cpuid_result 0 0 0 0)) l 0)
        (sym (ap row_list e ∙ no_rows)) (untouched (cpuid_result 0 0 0 0) (λ j. (rows_read s j).result));
    origins =
        subst (λ (l : List ℕ). UpTo 0 (λ j. origin_of_read (rows_read s j).present) (replicate places 0) l 0) (sym f)
        (untouched 0 (λ j. origin_of_read (rows_read s j).present));
  }

  module _ {at i : ℕ} {w o : List ℕ} (h : i < places) (r : Reading s at i w o) where
    here : {b : Bool} → begins (drop at s) i ≡ b → begins (left s i) i ≡ b
    here e = ap (λ (l : List ℕ). begins l i) (sym r.rest) ∙ e

    -- the place has no row
    pub reading_none : begins (drop at s) i ≡ false → Reading s at (i + 1) w o
    unfolding left after_row row_read
    reading_none e =
        let f : rows_read s i ≡ vacant = rw (here e) in
        record {
          inside = r.inside;
          rest = r.rest ∙ rw (add-one, left, here e);
          size = r.size;
          results = stays r.results (ap (λ (w : Row). w.result) f);
          origins = stays r.origins (ap (λ (w : Row). origin_of_read w.present) f);
        }

    -- its row is stored, and reading goes on behind it
    pub reading_row : {n : ℕ} {q : CpuidResult} → RowThere s at i n → q ≡ registers_at s (at + n - 16)
        → Reading s (at + n) (i + 1) (put_row w i q) (set o i (origin_number not_known))
    unfolding left after_row row_read
    reading_row {n} {q} t v =
        let f : rows_read s i ≡ row q = rw (here t.here, v, registers_end s at n (indexed_at i) t.width, ← r.rest) in
        record {
          inside = omega (arith, r.inside, t.long);
          rest = sym (drop-drop n at s) ∙ rw (r.rest, add-one, left, here t.here, t.width);
          size = put_length w i q r.size h;
          results =
              subst
              (λ (l : List CpuidResult). UpTo (cpuid_result 0 0 0 0) (λ j. (rows_read s j).result) (replicate places (cpuid_result 0 0 0 0)) l (i + 1))
              (sym (put_is_set w i q r.size h))
              (up_to_next refl (omega (arith, r.results.size)) (sym (ap (λ (w : Row). w.result) f)) r.results);
          origins = up_to_next refl (omega (arith, r.origins.size)) (sym (ap (λ (w : Row). origin_of_read w.present) f)) r.origins;
        }

  pub reading_ends : {at i : ℕ} {w o : List ℕ} → i ≡ places → Reading s at i w o → FoundIn s at w o
  reading_ends {at} {i} {w} {o} e r = record {
    inside = r.inside;
    rest = rw e at r.rest;
    registers = known_by_rows w (λ j. (rows_read s j).result) r.size (up_to_end refl (omega arith) r.results);
    origins = up_to_end refl (omega arith) r.origins;
  }

-- ---- the answer

module _ (s : List ℕ) {end : ℕ} {w o : List ℕ} (f : FoundIn s end w o) where
  left_over : length (left s places) ≡ length s - end
  left_over = ap length (sym f.rest) ∙ length-drop end s

  pub read_whole : end ≡ length s → ReadIn s true w o
  unfolding read_image is_image
  read_whole e =
      let q : eqb (length (left s places)) 0 ≡ true = eq-eqb (length (left s places)) 0 (omega (arith, left_over)) in
      let found : (i : ℕ) → i < places → rows_read s i ≡ row_in (read_image s).table i = λ i l. rw q (sym (whole_row_lem (rows_read s) i l)) in
      record {
        image = sym q;
        registers = f.registers ∙ layout_ext _ _ (λ i l. ap (λ (r : Row). r.result) (found i l));
        origins = f.origins ∙ tabulate_ext places _ _ (λ i l. ap (λ (r : Row). origin_of_read r.present) (found i l));
      }

  -- memory that is cleared
  pub read_over : (end ≡ length s → ⊥) → {v q : List ℕ} → v ≡ replicate 352 0 → q ≡ replicate 88 0 → ReadIn s false v q
  unfolding read_image is_image layout tabulate
  read_over e {v} {q} a b =
      let none : eqb (length (left s places)) 0 ≡ false = ne_eqb (length (left s places)) 0 (λ z. e (omega (arith, left_over, f.inside))) in
      record { image = sym none; registers = rw none a; origins = rw none b }
