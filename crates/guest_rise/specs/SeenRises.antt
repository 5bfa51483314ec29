-- What the guest sees, row by row: a row that compares with A's compares as seen too. crates/guest/specs/SeenLaws.antt has the rows.
use Rattle.std.specs.Prelude.{◌≡◌, Bool, true, false, ◌&&◌, ℕ, ◌-◌, ◌^◌, eqb}
use Rattle.std.proofs.Math.Path.{refl, ap}
use Rattle.std.proofs.Common.{sym, subst, eqb-true}
use Rattle.std.specs.Int.Bits.{bit_or}
use Rattle.bits.specs.Choice.{pick}
use Rattle.bits.specs.ChoiceLaws.{never_both, and_left, and_right, and_both}
use Rattle.bits.specs.Bits.{has, clear, Within}
use Rattle.bits.specs.BitsLaws.{within_or, within_and, within_refl, within_trans, clear_within, or_within_left}
use Rattle.bits.proofs.BitsLaws.{has_mono}
use Rattle.x86defs.specs.declared.CpuidResult.{CpuidResult}
use Rattle.masking.specs.Kept.{kept_leaves, slot}
use Rattle.masking.specs.Place
use Rattle.table.specs.Rows.{row}
use Rattle.finish.specs.Kinds.{register_kinds, kinds_at}
use Rattle.guest.specs.declared.Processor.{Processor}
use Rattle.guest.specs.Guest.{number_seen, osxsave_seen, version_seen, level_seen, size_seen, seen_at}
use Rattle.guest_rise.specs.GuestRise.{RowRises}

-- ---- leaf 1 ECX

pick_ecx : (p q : Bool) {a b : ℕ} → (p ≡ true → q ≡ true) → Within a b
    → Within (pick p (bit_or a (2 ^ 27)) (clear (2 ^ 27) a)) (pick q (bit_or b (2 ^ 27)) (clear (2 ^ 27) b))
unfolding clear
pick_ecx true true f h = within_or h (within_refl (2 ^ 27))
pick_ecx true false f h = absurd (never_both (f refl) refl)
pick_ecx false true {a} {b} f h = within_trans (clear_within (2 ^ 27) a) (within_trans h (or_within_left b (2 ^ 27)))
pick_ecx false false f h = within_and h (within_refl (2 ^ 32 - 1 - 2 ^ 27))

osxsave_rises : (on : Bool) {a b : ℕ} → Within a b → Within (osxsave_seen on a) (osxsave_seen on b)
unfolding osxsave_seen
osxsave_rises on {a} {b} h =
    pick_ecx (on && has 26 a) (on && has 26 b) (λ e. and_both (and_left on _ e) (has_mono 26 h (and_right on _ e))) h

-- ---- each of the five rows

module _ (v : Processor) (r s : CpuidResult) where
  version_rises : RowRises Place.version_and_features r s → RowRises Place.version_and_features (version_seen v r) (version_seen v s)
  unfolding kinds_at register_kinds slot kept_leaves
  version_rises h = record { eax = h.eax; ebx = ap (number_seen v.x2apic) h.ebx; ecx = osxsave_rises v.osxsave h.ecx; edx = h.edx }

  threads_rise : RowRises Place.thread_level r s → RowRises Place.thread_level (level_seen v r) (level_seen v s)
  unfolding kinds_at register_kinds slot kept_leaves
  threads_rise h = record { eax = h.eax; ebx = h.ebx; ecx = h.ecx; edx = refl }

  cores_rise : RowRises Place.core_level r s → RowRises Place.core_level (level_seen v r) (level_seen v s)
  unfolding kinds_at register_kinds slot kept_leaves
  cores_rise h = record { eax = h.eax; ebx = h.ebx; ecx = h.ecx; edx = refl }

module _ {a b : ℕ} (r s : CpuidResult) (e : a ≡ b) where
  state0_rises : RowRises (Place.extended_state 0) r s → RowRises (Place.extended_state 0) (size_seen a r) (size_seen b s)
  unfolding kinds_at register_kinds slot kept_leaves
  state0_rises h = record { eax = h.eax; ebx = e; ecx = h.ecx; edx = h.edx }

  state1_rises : RowRises (Place.extended_state 1) r s → RowRises (Place.extended_state 1) (size_seen a r) (size_seen b s)
  unfolding kinds_at register_kinds slot kept_leaves
  state1_rises h = record { eax = h.eax; ebx = e; ecx = h.ecx; edx = h.edx }

-- ---- what D.0 and D.1 compare

module _ (r s : CpuidResult) where
  pub state0_eax : RowRises (Place.extended_state 0) r s → Within r.eax s.eax
  unfolding kinds_at register_kinds slot kept_leaves
  state0_eax h = h.eax

  pub state1_eax : RowRises (Place.extended_state 1) r s → Within r.eax s.eax
  unfolding kinds_at register_kinds slot kept_leaves
  state1_eax h = h.eax

  pub state1_ecx : RowRises (Place.extended_state 1) r s → Within r.ecx s.ecx
  unfolding kinds_at register_kinds slot kept_leaves
  state1_ecx h = h.ecx

  pub state1_edx : RowRises (Place.extended_state 1) r s → r.edx ≡ s.edx
  unfolding kinds_at register_kinds slot kept_leaves
  state1_edx h = h.edx

-- ---- at any place

-- one choice of `seen_at`, at place k or not
choose : (i k : ℕ) {r s f g h l : CpuidResult} → (i ≡ k → RowRises k r s → RowRises k f g) → RowRises i h l → RowRises i r s
    → RowRises i (pick (eqb i k && true) f h) (pick (eqb i k && true) g l)
choose i k {r} {s} {f} {g} {h} {l} p q c = go (eqb i k) refl
  where
    go : (b : Bool) → eqb i k ≡ b → RowRises i (pick (b && true) f h) (pick (b && true) g l)
    go true e = let at = eqb-true i k e in subst (λ (n : ℕ). RowRises n r s → RowRises n f g) (sym at) (p at) c
    go false e = q

-- the two sizes are asked to be equal where they are seen
pub seen_rises : (v : Processor) {a b c d : ℕ} (i : ℕ) (r s : CpuidResult) → a ≡ b → (i ≡ Place.extended_state 1 → c ≡ d) → RowRises i r s
    → RowRises i (seen_at v a c i (row r)) (seen_at v b d i (row s))
seen_rises v i r s e f h =
    choose i Place.version_and_features (λ _. version_rises v r s)
    (choose i Place.thread_level (λ _. threads_rise v r s)
    (choose i Place.core_level (λ _. cores_rise v r s)
    (choose i (Place.extended_state 0) (λ _. state0_rises r s e)
    (choose i (Place.extended_state 1) (λ q. state1_rises r s (f q)) h h) h) h) h) h
