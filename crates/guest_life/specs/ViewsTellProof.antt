-- Equal views are those of tables that agree but where views replace, and the other way round.
use Rattle.std.specs.Prelude.{◌≡◌, refl, Bool, true, false, ◌&&◌, ◌≢◌, ℕ, ◌+◌, ◌-◌, ◌^◌, ◌≤◌, ◌<◌, eqb, ltb}
use Rattle.std.proofs.Math.Path.{sym, ap, ap₂}
use Rattle.std.proofs.Common.{◌∙◌, arith, lit<, eqb-true, ltb-true, ltb-false}
use Rattle.std.specs.Int.Bits.{bit_or, bit_and}
use Rattle.std.proofs.lemmas.Bool.{eqb-false}
use Rattle.bits.specs.Choice.{pick}
use Rattle.bits.specs.Lists.{one}
use Rattle.bits.specs.ListsLaws.{sum_ext}
use Rattle.bits.specs.Bits.{bit, has, clear}
use Rattle.bits.specs.WidthLaws.{and_fits, or_fits}
use Rattle.x86defs.specs.declared.CpuidResult.{CpuidResult}
use Rattle.masking.specs.Kept.{places}
use Rattle.masking.specs.Place
use Rattle.table.specs.declared.CpuidResults.{CpuidResults}
use Rattle.table.specs.Rows.{Row, Rows}
use Rattle.table.specs.Table.{count_rows, row_in, rows_of_table}
use Rattle.checks.specs.ExtendedState.{xfem, xss, combined_mask}
use Rattle.build.specs.Build.{answer}
use Rattle.guest_state.specs.State.{state_verdict}
use Rattle.guest.specs.declared.Processor.{Processor}
use Rattle.guest.specs.Guest.{number_seen, osxsave_seen, guest_table}
use Rattle.guest.proofs.GuestPagesLaws.{guest_verdict, given_guest}
use Rattle.guest.proofs.SeenLaws.{seen_there}
use Rattle.guest.specs.SeenExactly.{NumberBits, OsxsaveBit, VersionSeen, LevelSeen, SizeSeen}
use Rattle.guest.proofs.SeenExactlyProof.{seen_exactly}
use Rattle.guest_rise.proofs.GuestExactly.{guest_exactly}
use Rattle.guest_life.specs.Bits32.{bits_32}
use Rattle.guest_life.specs.StatesAgree.{StatesAgree, save_agrees, compact_agrees, verdict_agrees}
use Rattle.guest_life.specs.Sound.{Sound, built_sound}
use Rattle.guest_life.specs.ViewsTell.{VersionAgrees, AgreesButEbx, TablesAgree, SameView, ViewsTell, AgreeGives}

-- what the view makes of 1.EBX and of 1.ECX, of numbers that agree where it leaves them
pub number_agrees : {n x y g h : ℕ} → NumberBits n x g → NumberBits n y h → g < 2 ^ 32 → h < 2 ^ 32 → ((k : ℕ) → k < 24 → bit k x ≡ bit k y) → g ≡ h
number_agrees {n} {x} {y} {g} {h} a b l u f = bits_32 g h l u (λ k d. go k d (ltb k 24) refl)
  where
    go : (k : ℕ) → k < 32 → (c : Bool) → ltb k 24 ≡ c → bit k g ≡ bit k h
    go k d true e = let c : k < 24 = ltb-true k 24 e in a.others k c ∙ f k c ∙ sym (b.others k c)
    go k d false e =
        let c : 24 ≤ k = ltb-false k 24 e in
        let q : 24 + (k - 24) ≡ k = omega arith in
        let j : k - 24 < 8 = omega arith in
        ap (λ (i : ℕ). bit i g) (sym q) ∙ a.number (k - 24) j ∙ sym (b.number (k - 24) j) ∙ ap (λ (i : ℕ). bit i h) q

has_agrees : (k x y : ℕ) → bit k x ≡ bit k y → has k x ≡ has k y
unfolding has
has_agrees k x y e = ap (λ (n : ℕ). eqb n 1) e

pub osxsave_agrees : {on : Bool} {x y g h : ℕ} → OsxsaveBit on x g → OsxsaveBit on y h → g < 2 ^ 32 → h < 2 ^ 32
    → ((k : ℕ) → k < 32 → k ≢ 27 → bit k x ≡ bit k y) → g ≡ h
osxsave_agrees {on} {x} {y} {g} {h} a b l u f = bits_32 g h l u (λ k d. go k d (eqb k 27) refl)
  where
    go : (k : ℕ) → k < 32 → (c : Bool) → eqb k 27 ≡ c → bit k g ≡ bit k h
    go k d true e =
        let q : k ≡ 27 = eqb-true k 27 e in
        let same : has 26 x ≡ has 26 y = has_agrees 26 x y (f 26 (lit< tt) (λ z. omega arith)) in
        ap (λ (i : ℕ). bit i g) q ∙ a.osxsave ∙ ap (λ (c : Bool). pick (on && c) 1 0) same ∙ sym b.osxsave ∙ ap (λ (i : ℕ). bit i h) (sym q)
    go k d false e = let n : k ≢ 27 = eqb-false k 27 e in a.others k d n ∙ f k d n ∙ sym (b.others k d n)

-- both fit 32 bits
pub number_fits : (n x : ℕ) → number_seen n x < 2 ^ 32
unfolding number_seen
number_fits n x = omega arith

pub osxsave_fits : (on : Bool) (x : ℕ) → x < 2 ^ 32 → osxsave_seen on x < 2 ^ 32
unfolding osxsave_seen clear
osxsave_fits on x l = go (on && has 26 x)
  where
    go : (b : Bool) → pick b (bit_or x (2 ^ 27)) (bit_and x (2 ^ 32 - 1 - 2 ^ 27)) < 2 ^ 32
    go true = or_fits l (lit< tt)
    go false = and_fits x (lit< tt)
