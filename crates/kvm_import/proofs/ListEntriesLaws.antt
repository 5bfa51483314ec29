-- Entries as they are stored, one after another, each on its page.
use Rattle.std.specs.Prelude.{◌≡◌, refl, Bool, true, false, ℕ, ◌+◌, ◌-◌, ◌*◌, ◌≤◌, ◌<◌, length, replicate}
use Rattle.std.proofs.Common.{sym, ◌∙◌, arith, length-append}
use Rattle.std.proofs.Math.Path.{ap}
use mathlib.Core.List.{List, [], ◌∷◌, ◌++◌}
use Rattle.std.proofs.lemmas.List.Edits.{sets}
use Rattle.std.proofs.Math.Seq.{length-sets}
use Rattle.bits.specs.Choice.{pick}
use Rattle.bits.specs.Lists.{one}
use Rattle.x86defs.specs.declared.CpuidResult.{CpuidResult}
use Rattle.pages.specs.Layout.{word_at, registers_at}
use Rattle.buffer.specs.Front.{word_bytes, register_bytes}
use Rattle.kvm_list.specs.Format.{ListRow, row_count, row_at, rows_listed}
use Rattle.kvm_list.specs.StoresLaws.{sets_join, sets_swap, word_length, registers_length, five_pieces}
use Rattle.kvm_import.specs.ListChecks.{is_extended_state, rows_on0, rows_on1}
use Rattle.kvm_import.specs.ListRowLaws.{row_leaf, row_index}
use Rattle.kvm_import.specs.RowsLeftLaws.{list_rows_left, on1_cons, on0_cons, on1_none, on0_none, left_all, left_more, left_none, on_either_in, on_either_left, extended_more}
use Rattle.kvm_import.specs.ImportPieces.{entry_bytes, entries_bytes, entry_index, entered}
use Rattle.kvm_import.specs.ListEntriesLaws.{Entering, entries_cons, entries_none, entry_length, entry_pieces, row_registers}

entry_sets : (out : List ℕ) (at : ℕ) (r : ListRow) {a b c d e : List ℕ} → a ≡ word_bytes r.leaf → b ≡ word_bytes r.index
    → c ≡ replicate 16 0 → d ≡ register_bytes r.registers → e ≡ replicate 8 0
    → sets (sets (sets (sets (sets out at a) (at + 4) b) (at + 8) c) (at + 24) d) (at + 40) e ≡ sets out at (entry_bytes r)
entry_sets out at r {a} {b} {c} {d} {e} p q u v w =
    let la : length a ≡ 4 = ap length p ∙ word_length r.leaf in
    let lb : length b ≡ 4 = ap length q ∙ word_length r.index in
    let lc : length c ≡ 16 = ap length u in
    let ld : length d ≡ 16 = ap length v ∙ registers_length r.registers in
    five_pieces out at a b c d e (at + 4) (at + 8) (at + 24) (at + 40) (omega arith) (omega arith) (omega arith) (omega arith)
    ∙ (let f : (((a ++ b) ++ c) ++ d) ++ e ≡ entry_bytes r = rw (p, q, u, v, w) (entry_pieces r) in ap (sets out at) f)

-- the same in the code's terms, call by call
pub entry_done : (l out : List ℕ) (at q : ℕ) {x y : ℕ} {r : CpuidResult} {o₁ o₂ o₃ o₄ o₅ : List ℕ}
    → x ≡ word_at l (8 + 40 * q) → y ≡ word_at l (8 + 40 * q + 4) → r ≡ registers_at l (8 + 40 * q + 12)
    → o₁ ≡ sets out at (word_bytes x) → o₂ ≡ sets o₁ (at + 4) (word_bytes y) → o₃ ≡ sets o₂ (at + 8) (replicate (at + 24 - (at + 8)) 0)
    → o₄ ≡ sets o₃ (at + 24) (register_bytes r) → o₅ ≡ sets o₄ (at + 40) (replicate (at + 48 - (at + 40)) 0)
    → o₅ ≡ sets out at (entry_bytes (row_at l q))
entry_done l out at q {x} {y} {r} p₁ p₂ p₃ e₁ e₂ e₃ e₄ e₅ =
    let s₁ : at + 24 - (at + 8) ≡ 16 = omega arith in
    let s₂ : at + 48 - (at + 40) ≡ 8 = omega arith in
    rw (e₅, e₄, e₃, e₂, e₁)
    (entry_sets out at (row_at l q) (ap word_bytes (p₁ ∙ row_leaf l q)) (ap word_bytes (p₂ ∙ row_index l q))
    (ap (λ (n : ℕ). replicate {A = ℕ} n 0) s₁) (ap register_bytes (p₃ ∙ row_registers l q)) (ap (λ (n : ℕ). replicate {A = ℕ} n 0) s₂))

pub entries_length : (rs : List ListRow) → length (entries_bytes rs) ≡ 48 * length rs
entries_length [] = ap length entries_none
entries_length (r ∷ rs) = omega (
  arith,
  ap length (entries_cons r rs),
  length-append (entry_bytes r)
      (entries_bytes rs),
  entry_length r,
  entries_length rs,
)

-- the entry of the first row is stored first, on its page
entered_more : (out : List ℕ) (i j : ℕ) (r : ListRow) (rs : List ListRow) (b : Bool) → is_extended_state r ≡ b → i + 48 * length (rows_on0 rs) ≤ j
    → entered (sets out (pick b j i) (entry_bytes r)) (i + 48 * one (pick b false true)) (j + 48 * one b) rs ≡ entered out i j (r ∷ rs)
unfolding entered
entered_more out i j r rs true e h =
    let a : List ℕ = entries_bytes (rows_on0 rs) in
    let d : List ℕ = entries_bytes (rows_on1 rs) in
    let z : i + 48 * 0 ≡ i = omega arith in
    let f : entries_bytes (rows_on1 (r ∷ rs)) ≡ entry_bytes r ++ d = ap entries_bytes (on1_cons r rs e) ∙ entries_cons r (rows_on1 rs) in
    ap (λ (k : ℕ). sets (sets (sets out j (entry_bytes r)) k a) (j + 48) d) z
    ∙ ap (λ (m : List ℕ). sets m (j + 48) d) (sym (sets_swap a (entry_bytes r) out i j (omega (arith, entries_length (rows_on0 rs)))))
    ∙ sets_join (sets out i a) j (entry_bytes r) d (j + 48) (omega (arith, entry_length r))
    ∙ ap (sets (sets out i a) j) (sym f)
    ∙ ap (λ (rs' : List ListRow). sets (sets out i (entries_bytes rs')) j (entries_bytes (rows_on1 (r ∷ rs)))) (sym (on0_cons r rs e))
entered_more out i j r rs false e h =
    let a : List ℕ = entries_bytes (rows_on0 rs) in
    let d : List ℕ = entries_bytes (rows_on1 rs) in
    let z : j + 48 * 0 ≡ j = omega arith in
    let f : entries_bytes (rows_on0 (r ∷ rs)) ≡ entry_bytes r ++ a = ap entries_bytes (on0_cons r rs e) ∙ entries_cons r (rows_on0 rs) in
    ap (λ (k : ℕ). sets (sets (sets out i (entry_bytes r)) (i + 48) a) k d) z
    ∙ ap (λ (m : List ℕ). sets m j d) (sets_join out i (entry_bytes r) a (i + 48) (omega (arith, entry_length r)) ∙ ap (sets out i) (sym f))
    ∙ ap (λ (rs' : List ListRow). sets (sets out i (entries_bytes (rows_on0 (r ∷ rs)))) j (entries_bytes rs')) (sym (on1_cons r rs e))

module _ (l out₀ : List ℕ) where
  pub entering_first : Entering l out₀ out₀ 0 0
  entering_first = record {
    size = refl;
    few = omega arith;
    extended = omega (
      arith,
      ap (λ (rs : List ListRow). length (rows_on1 rs))
          (left_all l),
    );
    bytes = rw (left_all l);
  }

  module _ (few-0 : length (rows_on0 (rows_listed l)) ≤ 64) (few-1 : length (rows_on1 (rows_listed l)) ≤ 64) (out : List ℕ) (q d : ℕ) (inside : q < row_count l)
      (e : Entering l out₀ out q d) where
    extended_next : (b : Bool) → is_extended_state (row_at l q) ≡ b
        → length (rows_on1 (list_rows_left l q)) ≡ one b + length (rows_on1 (list_rows_left l (q + 1)))
    extended_next b p = extended_more l q inside ∙ ap (λ (b : Bool). one b + length (rows_on1 (list_rows_left l (q + 1)))) p

    -- an entry has room on its page
    pub entering_room : (b : Bool) → is_extended_state (row_at l q) ≡ b → entry_index b (q - d) d + 48 ≤ 8192
    entering_room true p = omega (arith, e.extended, extended_next true p)
    entering_room false p = omega (arith, e.extended, extended_next false p, e.few, on_either_in l, on_either_left l q)

    -- what is left for page 0 ends before page 1's entries
    entering_apart : (b : Bool) → is_extended_state (row_at l q) ≡ b → 16 + 48 * (q - d) + 48 * length (rows_on0 (list_rows_left l (q + 1))) ≤ 4112 + 48 * d
    entering_apart true p = omega (arith, e.extended, extended_next true p, e.few, on_either_in l, on_either_left l (q + 1))
    entering_apart false p = omega (arith, e.extended, extended_next false p, e.few, on_either_in l, on_either_left l (q + 1))

    pub entering_next : (b : Bool) → is_extended_state (row_at l q) ≡ b → (out' : List ℕ)
        → out' ≡ sets out (entry_index b (q - d) d) (entry_bytes (row_at l q))
        → Entering l out₀ out' (q + 1) (d + one b)
    entering_next b p out' w = record {
      size = ap length w ∙ length-sets out _ (entry_bytes (row_at l q)) ∙ e.size;
      few = go_few b;
      extended = omega (arith, e.extended, extended_next b p);
      bytes =
          let f : 16 + 48 * (q + 1 - (d + one b)) ≡ 16 + 48 * (q - d) + 48 * one (pick b false true) = go_first b in
          let g : 4112 + 48 * (d + one b) ≡ 4112 + 48 * d + 48 * one b = omega arith in
          rw (w, f, g)
          (entered_more out (16 + 48 * (q - d)) (4112 + 48 * d) (row_at l q) (list_rows_left l (q + 1)) b p
          (entering_apart b p)
          ∙ ap (entered out (16 + 48 * (q - d)) (4112 + 48 * d)) (sym (left_more l q inside))
          ∙ e.bytes);
    }
      where
        go_few : (b : Bool) → d + one b ≤ q + 1
        go_few true = omega (arith, e.few)
        go_few false = omega (arith, e.few)

        go_first : (b : Bool) → 16 + 48 * (q + 1 - (d + one b)) ≡ 16 + 48 * (q - d) + 48 * one (pick b false true)
        go_first true = omega (arith, e.few)
        go_first false = omega (arith, e.few)

  pub entering_last : (out : List ℕ) (q d : ℕ) → row_count l ≤ q → Entering l out₀ out q d → out ≡ entered out₀ 16 4112 (rows_listed l)
  unfolding entered
  entering_last out q d h e =
      let none : list_rows_left l q ≡ [] = left_none l q h in
      let a : entries_bytes (rows_on0 (list_rows_left l q)) ≡ [] = ap (λ (rs : List ListRow). entries_bytes
      (rows_on0 rs)) none ∙ ap entries_bytes on0_none ∙ entries_none in
      let b : entries_bytes (rows_on1 (list_rows_left l q)) ≡ [] = ap (λ (rs : List ListRow). entries_bytes
      (rows_on1 rs)) none ∙ ap entries_bytes on1_none ∙ entries_none in
      rw (a, b) at e.bytes
