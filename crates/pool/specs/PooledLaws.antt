-- The answer to a pool, one case for each return of the function.
use Rattle.std.specs.Prelude.{◌≡◌, Bool, true, List, ℕ, Err, Ok}
use Rattle.std.proofs.Math.Path.{refl}
use Rattle.bits.specs.ChoiceLaws.{never_both}
use Rattle.bits.specs.Bits.{mask_of}
use Rattle.bits.specs.BitsLaws.{within_trans, within_of_and, within_zero, and_within_right}
use Rattle.masking.specs.Masks.{extended_state0, extended_state1}
use Rattle.masking.specs.Kept.{kept_leaves, slot}
use Rattle.masking.specs.Place
use Rattle.finish.specs.MeetLaws.{MaskedState}
use Rattle.collect.specs.FirstEntries.{rows_of}
use Rattle.counts.specs.Mask.{register_within, xfem_within, xss_within}
use Rattle.pool.specs.Servers.{is_accepted}
use Rattle.table.specs.Verdict.{Verdict}

-- ---- what all servers accepted says

-- masked first entries of any pages are as the join wants them
pub masked_state : (avic : Bool) (s : List ℕ) → MaskedState (rows_of avic s)
unfolding extended_state0 extended_state1 mask_of slot kept_leaves
masked_state avic s = record {
  xfem = within_trans (xfem_within avic s) (within_of_and refl);
  xss =
      within_trans (xss_within (rows_of avic s))
      (register_within (λ r. r.ecx) avic s (Place.extended_state 1)
      (λ r. within_trans (and_within_right r.ecx extended_state1.ecx) (within_of_and refl)) (within_zero 0x1800));
}

pub is_accepted_lem : (v : Verdict) → is_accepted v ≡ true → v ≡ Ok tt
is_accepted_lem (Ok _) e = refl
is_accepted_lem (Err r) e = absurd (never_both e refl)
