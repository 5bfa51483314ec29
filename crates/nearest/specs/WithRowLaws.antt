-- Rows with another row at one place: where the row stands already, which rows are there, and a row stored in memory.
use Rattle.std.specs.Prelude.{◌≡◌, Bool, List, ◌≢◌, length, get_or}
use Rattle.std.proofs.Math.Path.{refl, sym, ap, fun_ext}
use Rattle.std.proofs.Common.{◌∙◌, eqb-true, eq-eqb, ne_eqb}
use Rattle.std.proofs.Math.Bool.{true, false}
use Prim.Native.Nat.{ℕ, ◌*◌, ◌<◌}
use Rattle.std.proofs.Math.Dec.{eqb}
use Rattle.bits.specs.Choice.{pick}
use Rattle.bits.specs.ChoiceLaws.{pick_true, pick_false}
use Rattle.bits.specs.Search.{lowest}
use Rattle.x86defs.specs.declared.CpuidResult.{CpuidResult}
use Rattle.masking.specs.Kept.{places}
use Rattle.table.specs.Rows.{Rows, row}
use Rattle.memory.specs.Memory as Memory
use Rattle.memory.specs.Memory.{is_there, rows_in}
use Rattle.memory.specs.MemoryLaws.{put_at, put_length}
use Rattle.checks.specs.Required.{required_count, place_required}
use Rattle.checks.specs.Checks.{refuse_at, missing_required, required_verdict}
use Rattle.nearest.specs.WithRow.{with_row}

module _ (i : ℕ) (x : CpuidResult) (m : Rows) where
  -- a row put where it stands already changes nothing
  pub put_same : m i ≡ row x → with_row i x m ≡ m
  unfolding with_row
  put_same e = fun_ext (λ j. go j (eqb j i) refl)
    where
      go : (j : ℕ) (b : Bool) → eqb j i ≡ b → pick b (row x) (m j) ≡ m j
      go j true f = rw (eqb-true j i f) (sym e)
      go j false f = refl

  -- the row that is put
  pub put_here : (with_row i x m i).result ≡ x
  unfolding with_row
  put_here = rw (eq-eqb i i refl)

  -- other places keep their rows
  pub put_other : (j : ℕ) → j ≢ i → with_row i x m j ≡ m j
  unfolding with_row
  put_other j n = pick_false _ _ (ne_eqb j i n)

  pub put_present : (m i).present ≡ true → (j : ℕ) → (with_row i x m j).present ≡ (m j).present
  unfolding with_row
  put_present e j = go (eqb j i) refl
    where
      go : (b : Bool) → eqb j i ≡ b → (pick b (row x) (m j)).present ≡ (m j).present
      go true f = sym (rw (eqb-true j i f) e)
      go false f = refl

  -- so the check of required leaves finds what it found
  pub required_same : (m i).present ≡ true → required_verdict (with_row i x m) ≡ required_verdict m
  unfolding required_verdict
  required_same e =
      ap (λ (t : ℕ → Bool). refuse_at (lowest t 0 required_count) missing_required) (fun_ext (λ j. put_present e (place_required j)))

-- of two rows put at one place the second stands
put_twice : (i : ℕ) (x y : CpuidResult) (m : Rows) → with_row i x (with_row i y m) ≡ with_row i x m
unfolding with_row
put_twice i x y m = fun_ext (λ j. go j (eqb j i))
  where
    go : (j : ℕ) (b : Bool) → pick b (row x) (pick b (row y) (m j)) ≡ pick b (row x) (m j)
    go j true = refl
    go j false = refl

-- ---- memory that has the rows m but for place i, where o says that a row is there

pub record AllBut (m : Rows) (o w : List ℕ) (i : ℕ) : Type 0 where
  pub size : length w ≡ 4 * places
  pub rows : (x : CpuidResult) → with_row i x (rows_in w o) ≡ with_row i x m

module _ (o : List ℕ) (i : ℕ) (small : i < places) (there : is_there (get_or o i 0) ≡ true) where
  put_row_lem : (w : List ℕ) (x : CpuidResult) → length w ≡ 4 * places → rows_in (Memory.put_row w i x) o ≡ with_row i x (rows_in w o)
  unfolding with_row
  put_row_lem w x e = fun_ext (λ j. go j (eqb j i) refl)
    where
      go : (j : ℕ) (b : Bool) → eqb j i ≡ b → rows_in (Memory.put_row w i x) o j ≡ pick b (row x) (rows_in w o j)
      go j true f = λ k. record {
        present = (ap (λ (n : ℕ). is_there (get_or o n 0)) (eqb-true j i f) ∙ there) k;
        result = (put_at w i x e small j ∙ pick_true _ _ f) k;
      }
      go j false f = λ k. record { present = is_there (get_or o j 0); result = (put_at w i x e small j ∙ pick_false _ _ f) k }

  -- a row stored there
  module _ {m : Rows} {w v : List ℕ} (x : CpuidResult) (d : AllBut m o w i) (e : v ≡ Memory.put_row w i x) where
    pub stored_rows : rows_in v o ≡ with_row i x m
    stored_rows = ap (λ (l : List ℕ). rows_in l o) e ∙ put_row_lem w x d.size ∙ d.rows x

    pub stored_all_but : AllBut m o v i
    stored_all_but = record {
      size = ap length e ∙ put_length w i x d.size small;
      rows = λ y. ap (with_row i y) stored_rows ∙ put_twice i y x m;
    }
