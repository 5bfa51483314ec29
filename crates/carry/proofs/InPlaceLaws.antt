-- Carrying in place by the code's returns and by its two stores.
use Rattle.std.specs.Prelude.{◌≡◌, refl, Bool, true, false, ◌&&◌, ◌||◌, List, ℕ, zero, suc, ◌*◌, ◌≤◌, ◌<◌, length, get_or, set, Err, Ok, Result}
use Rattle.std.proofs.Math.Path.{sym, ap, ap₂}
use Rattle.std.proofs.Common.{◌∙◌, subst, arith, lit<}
use Rattle.std.proofs.Math.Dec.{eqb}
use Rattle.std.specs.Int.Bits.{bit_or}
use borrow.Author.Tests.{le-leb, lt-leb}
use Rattle.bits.specs.Choice.{pick}
use Rattle.bits.specs.Bits.{has}
use Rattle.bits.specs.Lists.{tabulate}
use Rattle.bits.specs.ListsLaws.{get_d_tabulate, length_tabulate, tabulate_ext}
use Rattle.x86defs.specs.declared.CpuidResult.{CpuidResult}
use Rattle.x86defs.specs.Functions.{cpuid_result}
use Rattle.masking.specs.Kept.{places}
use Rattle.masking.specs.Place
use Rattle.table.specs.declared.CpuidResults.{CpuidResults}
use Rattle.table.specs.declared.edition.EditionBits.{EditionBits}
use Rattle.table.specs.declared.Refusal.{Refusal}
use Rattle.table.specs.declared.Refusal.TheVariants.{UnknownEdition, EditionBack}
use Rattle.table.specs.Edition.{known_edition, bits_between}
use Rattle.table.specs.Rows.{Row}
use Rattle.table.specs.Table.{count_rows, row_in}
use Rattle.memory.specs.Memory.{is_there, row_of, put_row, rows_in, layout, row_list}
use Rattle.memory.specs.MemoryLaws.{put_length, put_is_set, known_by_rows}
use Rattle.memory.proofs.MemoryLaws.{layout_row}
use Rattle.memory.specs.Held.{held_in, whole_row_lem}
use Rattle.checks.specs.ExtendedState.{xss_of, xfem, xss, combined_mask}
use Rattle.guest_state.specs.State.{state_verdict}
use Rattle.guest_state.proofs.StateLaws.{verdict_of_state}
use Rattle.carry.specs.declared.Carried.{Carried}
use Rattle.carry.specs.Carry.{own_rows, without_bits, carried_at, carried_table, keeps, carry_verdict, refused_carry, carried_for, carry}
use Rattle.carry.specs.CarryLaws.{at1, at80000001, cleared}
use Rattle.guest_state.specs.InUse.{read_rows, in_use}
use Rattle.guest_state.specs.InUseLaws.{told_refused, told_given}
use Rattle.carry.specs.CarriedInPlace.{CarriedIn}
use Rattle.carry.specs.InPlaceLaws.{not_accepted, own_of}
use Rattle.table.specs.Verdict.{Verdict}

module _ (w o : List ℕ) where
  abbrev t : CpuidResults
  t = held_in w o

  own_row : (i : ℕ) → i < places → own_rows t i ≡ read_rows true w o i
  own_row i h = ap own_of (whole_row_lem (rows_in w o) i h)

  own_verdict : (x s : ℕ) → state_verdict (own_rows t) x s ≡ state_verdict (read_rows true w o) x s
  own_verdict x s =
      verdict_of_state (own_rows t) (read_rows true w o) (λ k h. ap (λ (r : Row). r.result) (own_row (Place.extended_state k) (omega arith))) x s

  -- ---- the two stores

  module _ (n : length w ≡ 4 * places) (bits : EditionBits) (keep : Bool) {w₁ w₂ : List ℕ} {version extended : CpuidResult} {a b : Bool} where
    pub stored : a ≡ is_there (get_or o at1 0) → b ≡ is_there (get_or o at80000001 0)
        → version ≡ pick a (without_bits keep bits.version_ecx (row_of w at1)) (row_of w at1)
        → extended ≡ pick b (without_bits keep bits.extended_version_ecx (row_of w at80000001)) (row_of w at80000001)
        → w₁ ≡ put_row w at1 version → w₂ ≡ put_row w₁ at80000001 extended
        → w₂ ≡ layout (λ i. (row_in (carried_table bits keep t) i).result)
    stored p q e f g h =
        let n₁ : length w₁ ≡ 4 * places = ap length g ∙ put_length w at1 version n (lit< tt) in
        let n₂ : length w₂ ≡ 4 * places = ap length h ∙ put_length w₁ at80000001 extended n₁ (lit< tt) in
        let l₁ : row_list w₁ ≡ set (row_list w) at1 version = ap row_list g ∙ put_is_set w at1 version n (lit< tt) in
        let l₂ : row_list w₂ ≡ set (set (row_list w) at1 version) at80000001 extended =
        ap row_list h ∙ put_is_set w₁ at80000001 extended n₁ (lit< tt) ∙ ap (λ (l : List CpuidResult). set l at80000001 extended) l₁ in
        let e₁ : version ≡ pick (row_in t at1).present (without_bits keep bits.version_ecx (row_in t at1).result) (row_in t at1).result =
        e ∙ ap (λ (c : Bool). pick c (without_bits keep bits.version_ecx (row_of w at1)) (row_of w at1)) p
        ∙ ap (λ (r : Row). pick r.present (without_bits keep bits.version_ecx r.result) r.result) (sym (whole_row_lem (rows_in w o) at1 (lit< tt))) in
        let f₁ : extended ≡ pick (row_in t at80000001).present (without_bits keep bits.extended_version_ecx (row_in t at80000001).result) (row_in t at80000001).result =
        f ∙ ap (λ (c : Bool). pick c (without_bits keep bits.extended_version_ecx (row_of w at80000001)) (row_of w at80000001)) q
        ∙ ap (λ (r : Row). pick r.present (without_bits keep bits.extended_version_ecx r.result) r.result) (sym (whole_row_lem (rows_in w o) at80000001 (lit< tt))) in
        let l₃ : set (set (row_list w) at1 version) at80000001 extended ≡ tabulate places (λ i. carried_at bits keep i (row_in t i)) =
        ap (λ (c : CpuidResults). c.results) (cleared bits t keep (length_tabulate places (row_of w)) e₁ f₁) in
        known_by_rows w₂ (λ i. (row_in (carried_table bits keep t) i).result) n₂ (l₂ ∙ l₃
        ∙ tabulate_ext places _ _ (λ i l. sym (get_d_tabulate places (λ j. carried_at bits keep j (row_in t j)) i (cpuid_result 0 0 0 0) l)))

  -- ---- what the stores leave, read as a table

  module _ (bits : EditionBits) (keep : Bool) {w₁ : List ℕ} (e : w₁ ≡ layout (λ i. (row_in (carried_table bits keep t) i).result)) where
    carried_row : (i : ℕ) → i < places → row_of w₁ i ≡ carried_at bits keep i (row_in t i)
    carried_row i l =
        ap (λ (k : List ℕ). row_of k i) e
        ∙ layout_row (λ j. (row_in (carried_table bits keep t) j).result) i l
        ∙ get_d_tabulate places (λ j. carried_at bits keep j (row_in t j)) i (cpuid_result 0 0 0 0) l

    -- rows D.0 and D.1 stay, and with them the mask
    state_row : (k : ℕ) → k < 2 → row_of w₁ (Place.extended_state k) ≡ row_of w (Place.extended_state k)
    state_row k l =
        go k l (carried_row (Place.extended_state k) (omega arith))
        ∙ ap (λ (r : Row). r.result) (whole_row_lem (rows_in w o) (Place.extended_state k) (omega arith))
      where
        go : (k : ℕ) → k < 2 → {q : CpuidResult} → q ≡ carried_at bits keep (Place.extended_state k) (row_in t (Place.extended_state k))
            → q ≡ (row_in t (Place.extended_state k)).result
        go zero h f = f
        go (suc zero) h f = f
        go (suc (suc k)) h f = absurd (omega arith)

    same_mask : combined_mask (rows_in w₁ o) ≡ combined_mask (rows_in w o)
    unfolding combined_mask xfem xss
    same_mask = ap₂ (λ (d0 d1 : CpuidResult). bit_or d0.eax (xss_of d1)) (state_row 0 (lit< tt)) (state_row 1 (lit< tt))

    pub carried_held : held_in w₁ o ≡ carried_table bits keep t
    unfolding count_rows
    carried_held =
        let rows : row_list w₁ ≡ tabulate places (λ i. carried_at bits keep i (row_in t i)) = tabulate_ext places _ _ carried_row in
        λ k. record { present = t.present; results = rows k; row_count = t.row_count; max_extended_state = same_mask k }

  -- ---- the answer

  module _ (from to x s : ℕ) {a b : Bool} (p : a ≡ known_edition from) (q : b ≡ known_edition to) where
    refused_in : {r : Refusal} → carry t from to x s ≡ refused_carry r → CarriedIn (carry t from to x s) (Err r) w o w
    refused_in {r} e =
        subst (λ (c : Carried). CarriedIn c (Err r) w o w) (sym e)
        (record { verdict = refl; registers = refl; table = λ z. absurd (not_accepted z) })

    unknown : (a && b) ≡ false → carry t from to x s ≡ refused_carry UnknownEdition
    unfolding carry carry_verdict
    unknown e = rw (← p, ← q, e)

    pub in_unknown : (a && b) ≡ false → CarriedIn (carry t from to x s) (Err UnknownEdition) w o w
    in_unknown e = refused_in (unknown e)

    module _ (known : (a && b) ≡ true) where
      back : to < from → carry t from to x s ≡ refused_carry EditionBack
      unfolding carry carry_verdict
      back h = rw (← p, ← q, known, lt-leb from to h)

      pub in_back : to < from → CarriedIn (carry t from to x s) (Err EditionBack) w o w
      in_back h = refused_in (back h)

      module _ (h : from ≤ to) {u : Result ℕ Refusal} (e : u ≡ in_use (read_rows true w o) x s) where
        by_state : {v : Verdict} → state_verdict (read_rows true w o) x s ≡ v → carry t from to x s ≡ carried_for v (carried_table (bits_between from to) (keeps t from to) t)
        unfolding carry carry_verdict
        by_state f = rw (← p, ← q, known, le-leb from to h, own_verdict x s, f)

        pub in_refused : {r : Refusal} → u ≡ Err r → CarriedIn (carry t from to x s) (Err r) w o w
        in_refused f = refused_in (by_state (told_refused (read_rows true w o) x s e f))

        kept : {ymm : Bool} {d : CpuidResult} → d ≡ (read_rows true w o (Place.extended_state 0)).result → ymm ≡ has 2 d.eax
            → (eqb from to || ymm) ≡ keeps t from to
        unfolding keeps xfem
        kept {ymm} {d} g k =
            ap (λ (c : Bool). eqb from to || c)
            (k ∙ ap (λ (r : CpuidResult). has 2 r.eax) (g ∙ sym (ap (λ (r : Row). r.result) (own_row (Place.extended_state 0) (lit< tt)))))

        pub in_done : {n : ℕ} {ymm : Bool} {d : CpuidResult} {bits : EditionBits} {w₁ : List ℕ} → u ≡ Ok n → d ≡ (read_rows true w o (Place.extended_state 0)).result
            → ymm ≡ has 2 d.eax → bits ≡ bits_between from to → w₁ ≡ layout (λ i. (row_in (carried_table bits (eqb from to || ymm) t) i).result)
            → CarriedIn (carry t from to x s) (Ok tt) w o w₁
        in_done {n} {ymm} {d} {bits} {w₁} f g k q l =
            subst (λ (c : Carried). CarriedIn c (Ok tt) w o w₁) (sym (by_state (told_given (read_rows true w o) x s e f)))
            (record {
              verdict = refl;
              registers = l ∙ ap₂ (λ (b : EditionBits) (c : Bool). layout (λ i. (row_in (carried_table b c t) i).result)) q (kept g k);
              table = λ z. carried_held bits (eqb from to || ymm) l ∙ ap₂ (λ (b : EditionBits) (c : Bool). carried_table b c t) q (kept g k);
            })
