-- The proof of `MovesToSecond`: an accepted table has zeros where it has no row, so carrying clears what P7's editions differ in.
use Rattle.std.specs.Prelude.{◌≡◌, refl, true, false, ◌&&◌, List, ℕ, ◌<◌, eqb, length, Ok, Some}
use Rattle.std.proofs.Common.{sym, ◌∙◌, arith, lit<, ext_get_or, ne_eqb}
use Rattle.std.proofs.Math.Path.{ap}
use Rattle.std.proofs.Math.Bool.{Bool}
use Rattle.bits.specs.Choice.{pick}
use Rattle.bits.specs.Bits.{has}
use Rattle.bits.specs.ListsLaws.{length_tabulate, get_d_tabulate}
use Rattle.x86defs.specs.declared.CpuidResult.{CpuidResult}
use Rattle.x86defs.specs.Functions.{cpuid_result}
use Rattle.masking.specs.Kept.{places}
use Rattle.masking.specs.Place
use Rattle.table.specs.declared.Choices.{Choices}
use Rattle.table.specs.declared.CpuidResults.{CpuidResults}
use Rattle.table.specs.Rows.{Row, vacant}
use Rattle.table.specs.Edition.{f16c, xop_and_fma4, known_edition, joined_from, bits_between}
use Rattle.table.specs.Table.{row_in, rows_of_table}
use Rattle.checks.specs.ExtendedState.{xfem}
use Rattle.build.specs.Build.{answer}
use Rattle.guest_state.specs.State.{state_verdict}
use Rattle.guest_state.proofs.StateLaws.{save_of_state, compact_of_state, verdict_of_state}
use Rattle.image.specs.Image.{image}
use Rattle.image_read.specs.declared.ReadImage.{ReadImage}
use Rattle.image_read.specs.ReadImage.{read_image}
use Rattle.rise.specs.Rise.{with_edition}
use Rattle.rise.specs.RiseProof.{answer_table}
use Rattle.images.specs.ImageTableLaws.{Plain}
use Rattle.images.specs.ImagesProof.{accepted_plain}
use Rattle.rise.specs.Second as Second
use Rattle.rise.proofs.SecondLaws.{zero_clears}
use Rattle.rise.proofs.SecondProof.{second_edition}
use Rattle.carry.specs.Carry.{own_rows, without_bits, carried_at, carried_table, keeps, carry_verdict, carried_given, carry}
use Rattle.carry.specs.CarryImage.{carry_image}
use Rattle.images.specs.CarriedLaws.{carries_in_place}
use Rattle.images.specs.ImageBytesLaws.{image_bytes}
use Rattle.images.proofs.ReadBackProof.{built_reads_back}
use Rattle.images.specs.Moves.{table_under, MovesToSecond}
use Rattle.table.specs.Verdict.{Verdict}

-- ---- rows that are zeros where they are absent

module _ (t : CpuidResults) (p : Plain t) where
  own_result : (i : ℕ) → i < places → (own_rows t i).result ≡ (row_in t i).result
  own_result i h = go (row_in t i).present refl
    where
      go : (b : Bool) → (row_in t i).present ≡ b → pick b (row_in t i).result (cpuid_result 0 0 0 0) ≡ (row_in t i).result
      go true e = refl
      go false e = sym (ap (λ (r : Row). r.result) (p.absent i h e))

  own_verdict : (xcr0 xss : ℕ) → state_verdict (own_rows t) xcr0 xss ≡ state_verdict (rows_of_table t) xcr0 xss
  own_verdict xcr0 xss = verdict_of_state (own_rows t) (rows_of_table t) (λ k h. own_result (Place.extended_state k) (omega arith)) xcr0 xss

  keeps_ymm : keeps t 1 2 ≡ Second.has_ymm_state t
  unfolding keeps xfem
  keeps_ymm = ap (λ (r : CpuidResult). has 2 r.eax) (own_result (Place.extended_state 0) (lit< tt))

-- ---- the three bits are P7's

twice : (b : Bool) (x y z : CpuidResult) → pick b x (pick b y z) ≡ pick b x z
twice true x y z = refl
twice false x y z = refl

-- a row that loses bits where it is there is one that loses them in any case, where an absent one is zeros
cleared_row : (keep : Bool) (m : ℕ) (r : Row) → (r.present ≡ false → r ≡ vacant)
    → record { present = r.present; result = pick r.present (without_bits keep m r.result) r.result } ≡ Second.clear_ecx keep m r
cleared_row keep m r absent = go r.present refl
  where
    go : (b : Bool) → r.present ≡ b
        → record { present = r.present; result = pick b (without_bits keep m r.result) r.result } ≡ Second.clear_ecx keep m r
    go true e = refl
    go false e =
        absent e
        ∙ ap (λ (x : ℕ). record { present = false; result = cpuid_result 0 0 x 0 }) (sym (zero_clears keep m))
        ∙ sym (ap (Second.clear_ecx keep m) (absent e))

module _ (t : CpuidResults) (p : Plain t) (keep : Bool) where
  -- the same bits at the same places
  second_at : (i : ℕ) (r : Row) → (r.present ≡ false → r ≡ vacant)
      → record { present = r.present; result = carried_at (bits_between 1 2) keep i r } ≡ Second.second_row keep i r
  unfolding bits_between joined_from
  second_at i r absent = go (eqb i Place.version_and_features) (eqb i Place.extended_version_and_features)
    where
      second : Bool → CpuidResult
      second b = pick (b && r.present) (without_bits keep xop_and_fma4 r.result) r.result

      go : (a b : Bool) → record { present = r.present; result = pick (a && r.present) (without_bits keep f16c r.result) (second b) }
          ≡ pick a (Second.clear_ecx keep f16c r) (pick b (Second.clear_ecx keep xop_and_fma4 r) r)
      go true true = ap (λ (q : CpuidResult). record { present = r.present; result = q }) (twice r.present _ _ _) ∙ cleared_row keep f16c r absent
      go true false = cleared_row keep f16c r absent
      go false true = cleared_row keep xop_and_fma4 r absent
      go false false = refl

  carried_row : (i : ℕ) → i < places → row_in (carried_table (bits_between 1 2) keep t) i ≡ Second.second_row keep i (row_in t i)
  carried_row i h =
      (λ k. record { present = (row_in t i).present; result = get_d_tabulate places (λ j. carried_at (bits_between 1 2) keep j (row_in t j)) i (cpuid_result 0 0 0 0) h k })
      ∙ second_at i (row_in t i) (p.absent i h)

-- ---- tables by their rows

-- two tables with 88 flags and 88 registers, the same rows, count and mask
same_table_lem : (a b : CpuidResults) → length a.present ≡ length b.present → length a.results ≡ length b.results
    → length a.present ≡ places → length a.results ≡ places → ((i : ℕ) → i < places → row_in a i ≡ row_in b i)
    → a.row_count ≡ b.row_count → a.max_extended_state ≡ b.max_extended_state → a ≡ b
same_table_lem a b lp lr np nr rows count mask =
    let p : a.present ≡ b.present = ext_get_or false a.present b.present lp (λ i h. ap (λ (r : Row). r.present) (rows i (omega arith))) in
    let q : a.results ≡ b.results =
    ext_get_or (cpuid_result 0 0 0 0) a.results b.results lr (λ i h. ap (λ (r : Row). r.result) (rows i (omega arith))) in
    λ k. record { present = p k; results = q k; row_count = count k; max_extended_state = mask k }

module _ (chosen : Choices) (s : List ℕ) (e : (answer (with_edition chosen 1) s).verdict ≡ Ok tt) where
  abbrev a : CpuidResults
  a = table_under 1 chosen s

  abbrev b : CpuidResults
  b = table_under 2 chosen s

  plain : Plain a
  plain = accepted_plain (with_edition chosen 1) s e

  second : Second.SecondTable a b
  second = (second_edition chosen s).table e

  -- a table of the code's: 88 flags, 88 registers
  present_places : (n : ℕ) → (answer (with_edition chosen n) s).verdict ≡ Ok tt → length (table_under n chosen s).present ≡ places
  present_places n f = ap (λ (t : CpuidResults). length t.present) (answer_table (with_edition chosen n) s f) ∙ length_tabulate places _

  results_places : (n : ℕ) → (answer (with_edition chosen n) s).verdict ≡ Ok tt → length (table_under n chosen s).results ≡ places
  results_places n f = ap (λ (t : CpuidResults). length t.results) (answer_table (with_edition chosen n) s f) ∙ length_tabulate places _

  accepted : (answer (with_edition chosen 2) s).verdict ≡ Ok tt
  accepted = (second_edition chosen s).verdict ∙ e

  carried_second : carried_table (bits_between 1 2) (Second.has_ymm_state a) a ≡ b
  carried_second =
      same_table_lem (carried_table (bits_between 1 2) (Second.has_ymm_state a) a) b
      (present_places 1 e ∙ sym (present_places 2 accepted))
      (length_tabulate places _ ∙ sym (results_places 2 accepted))
      (present_places 1 e)
      (length_tabulate places _)
      (λ i h. carried_row a plain (Second.has_ymm_state a) i h ∙ sym (second.rows i h))
      (sym second.count)
      (sym second.mask)

  state_row : (k : ℕ) → k < 64 → (row_in b (Place.extended_state k)).result ≡ (row_in a (Place.extended_state k)).result
  state_row k h =
      ap (λ (r : Row). r.result) (second.rows (Place.extended_state k) (omega arith))
      ∙ rw (
        ne_eqb (Place.extended_state k) Place.version_and_features (λ q. omega arith),
        ne_eqb (Place.extended_state k) Place.extended_version_and_features (λ q. omega arith),
      )

  module _ (xcr0 xss : ℕ) where
    moved_verdict : (carry a 1 2 xcr0 xss).verdict ≡ state_verdict (rows_of_table a) xcr0 xss
    unfolding carry carry_verdict known_edition
    moved_verdict = (own_verdict a plain xcr0 xss)

    moved_table : (carry a 1 2 xcr0 xss).verdict ≡ Ok tt → (carry a 1 2 xcr0 xss).table ≡ b
    unfolding carry
    moved_table f =
        ap (λ (v : Verdict). carried_given v (carried_table (bits_between 1 2) (keeps a 1 2) a)) f
        ∙ ap (λ (keep : Bool). carried_table (bits_between 1 2) keep a) (keeps_ymm a plain)
        ∙ carried_second

    moved_answer : (carry_image (image a) 1 2 xcr0 xss).answer ≡ Some (carry a 1 2 xcr0 xss).verdict
    unfolding carry_image
    moved_answer = rw (built_reads_back (with_edition chosen 1) s e)

    moved_bytes : (carry a 1 2 xcr0 xss).verdict ≡ Ok tt → (carry_image (image a) 1 2 xcr0 xss).buffer ≡ image b
    moved_bytes f =
        let back = built_reads_back (with_edition chosen 1) s e in
        let same : (read_image (image a)).table ≡ a = ap (λ (r : ReadImage). r.table) back in
        (carries_in_place (image a) 1 2 xcr0 xss (image_bytes a) (ap (λ (r : ReadImage). r.is_image) back)
        (ap (λ (t : CpuidResults). (carry t 1 2 xcr0 xss).verdict) same ∙ f)
        ).0
        ∙ ap (λ (t : CpuidResults). image (carry t 1 2 xcr0 xss).table) same
        ∙ ap image (moved_table f)

pub moves_to_second : MovesToSecond
moves_to_second chosen s xcr0 xss e = record {
  verdict = moved_verdict chosen s e xcr0 xss;
  table = moved_table chosen s e xcr0 xss;
  save = save_of_state _ _ (state_row chosen s e) xcr0 xss;
  compact = compact_of_state _ _ (state_row chosen s e) xcr0 xss;
  answer = moved_answer chosen s e xcr0 xss;
  bytes = moved_bytes chosen s e xcr0 xss;
}
