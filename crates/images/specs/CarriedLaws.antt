-- The proofs of `CarryKeeps` and `CarriesInPlace`: kept bits change nothing, two rows alone may change, and the length of an image is told by
-- which rows are there.
use Rattle.std.specs.Prelude.{◌≡◌, refl, Bool, true, false, ◌&&◌, List, ℕ, ◌<◌, eqb, length, Ok}
use Rattle.std.proofs.Common.{sym, ◌∙◌, append-nil, le_refl, arith, le-leb, ne_eqb}
use Rattle.std.proofs.Math.Path.{ap}
use Rattle.std.proofs.Math.Seq.{drop-length}
use Rattle.bits.specs.Choice.{pick}
use Rattle.bits.specs.Bits.{clear_unless}
use Rattle.bits.specs.Lists.{tabulate}
use Rattle.bits.specs.ListsLaws.{get_d_tabulate, tabulated}
use Rattle.x86defs.specs.Functions.{cpuid_result}
use Rattle.masking.specs.Kept.{places}
use Rattle.masking.specs.Place
use Rattle.table.specs.declared.CpuidResults.{CpuidResults}
use Rattle.table.specs.declared.edition.EditionBits.{EditionBits}
use Rattle.table.specs.Edition.{bits_between}
use Rattle.table.specs.Rows.{Row}
use Rattle.table.specs.Table.{row_in}
use Rattle.buffer.specs.Front.{write_front}
use Rattle.image.specs.Image.{image}
use Rattle.image.specs.LengthLaws.{image_length}
use Rattle.guest_state.proofs.StateLaws.{save_of_state, compact_of_state}
use Rattle.image_read.specs.ReadImage.{read_image}
use Rattle.image_read.specs.WrittenAgain.{read_has_image}
use Rattle.carry.specs.Carry.{carried_at, carried_table, keeps, carried_given, carry}
use Rattle.carry.specs.CarryLaws.{kept_within}
use Rattle.carry.specs.CarryImage.{carry_image}
use Rattle.images.specs.Carried.{CarryKeeps, CarriesInPlace}
use Rattle.table.specs.Verdict.{Verdict}

-- ---- within one edition

-- bits that are kept change nothing
kept_at : (bits : EditionBits) (i : ℕ) (r : Row) → carried_at bits true i r ≡ r.result
unfolding clear_unless
kept_at bits i r = go (eqb i Place.version_and_features && r.present) (eqb i Place.extended_version_and_features && r.present)
  where
    go : (a b : Bool) → pick a r.result (pick b r.result r.result) ≡ r.result
    go true b = refl
    go false true = refl
    go false false = refl

kept_table : (bits : EditionBits) (t : CpuidResults) → length t.results ≡ places → carried_table bits true t ≡ t
kept_table bits t n =
    let e : t.results ≡ tabulate places (λ i. carried_at bits true i (row_in t i)) =
    tabulated places _ t.results (cpuid_result 0 0 0 0) n (λ i h. sym (kept_at bits i (row_in t i))) in
    λ k. record { present = t.present; results = sym e k; row_count = t.row_count; max_extended_state = t.max_extended_state }

-- ---- two rows alone

other_at : (bits : EditionBits) (keep : Bool) (i : ℕ) (r : Row) → (i ≡ Place.version_and_features → ⊥) → (i ≡ Place.extended_version_and_features → ⊥)
    → carried_at bits keep i r ≡ r.result
other_at bits keep i r p q = rw (ne_eqb i Place.version_and_features p, ne_eqb i Place.extended_version_and_features q)

module _ (bits : EditionBits) (keep : Bool) (t : CpuidResults) where
  other_row : (i : ℕ) → i < places → (i ≡ Place.version_and_features → ⊥) → (i ≡ Place.extended_version_and_features → ⊥)
      → row_in (carried_table bits keep t) i ≡ row_in t i
  other_row i h p q = λ k. record {
    present = (row_in t i).present;
    result = (get_d_tabulate places (λ j. carried_at bits keep j (row_in t j)) i (cpuid_result 0 0 0 0) h ∙ other_at bits keep i (row_in t i) p q) k;
  }

  state_row : (k : ℕ) → k < 64 → (row_in (carried_table bits keep t) (Place.extended_state k)).result ≡ (row_in t (Place.extended_state k)).result
  state_row k h = ap (λ (r : Row). r.result) (other_row (Place.extended_state k) (omega arith) (λ e. omega arith) (λ e. omega arith))

  same_length : length (image (carried_table bits keep t)) ≡ length (image t)
  same_length = image_length (carried_table bits keep t) ∙ sym (image_length t)

-- ---- the table that is given

module _ (t : CpuidResults) (from to xcr0 xss : ℕ) (e : (carry t from to xcr0 xss).verdict ≡ Ok tt) where
  pub given : (carry t from to xcr0 xss).table ≡ carried_table (bits_between from to) (keeps t from to) t
  unfolding carry
  given = ap (λ (v : Verdict). carried_given v (carried_table (bits_between from to) (keeps t from to) t)) e

pub carry_keeps : CarryKeeps
carry_keeps t from to xcr0 xss n e =
    let bits : EditionBits = bits_between from to in
    let keep : Bool = keeps t from to in
    rw (given t from to xcr0 xss e)
    (record {
      present = refl;
      count = refl;
      mask = refl;
      others = other_row bits keep t;
      save = save_of_state _ _ (state_row bits keep t) xcr0 xss;
      compact = compact_of_state _ _ (state_row bits keep t) xcr0 xss;
      same = λ q. ap (λ (b : Bool). carried_table bits b t) (kept_within t from to q) ∙ kept_table bits t n;
    })

-- ---- in place

-- bytes written over as many
written_over : (l s : List ℕ) → length l ≡ length s → (write_front l s).buffer ≡ l
unfolding write_front
written_over l s e = rw (e, le-leb (length s) (length s) (le_refl (length s)), drop-length s, append-nil l)

bytes_given_lem : (s : List ℕ) (from to xcr0 xss : ℕ) → (read_image s).is_image ≡ true
    → (carry (read_image s).table from to xcr0 xss).verdict ≡ Ok tt
    → (carry_image s from to xcr0 xss).buffer ≡ (write_front (image (carry (read_image s).table from to xcr0 xss).table) s).buffer
unfolding carry_image
bytes_given_lem s from to xcr0 xss f e = rw (f, e)

pub carries_in_place : CarriesInPlace
carries_in_place s from to xcr0 xss bytes f e =
    let t : CpuidResults = (read_image s).table in
    let u : CpuidResults = (carry t from to xcr0 xss).table in
    let n : length (image u) ≡ length s =
    ap (λ (w : CpuidResults). length (image w)) (given t from to xcr0 xss e)
    ∙ same_length (bits_between from to) (keeps t from to) t
    ∙ ap length (read_has_image s bytes f) in
    let b : (carry_image s from to xcr0 xss).buffer ≡ image u = bytes_given_lem s from to xcr0 xss f e ∙ written_over (image u) s n in
    (b, ap length b ∙ n)
