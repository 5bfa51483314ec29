-- Lawful pages: their verdict, one case for each return of the function, and what it says where it accepts.
use Rattle.std.specs.Prelude.{◌≡◌, refl, true, false, List, ℕ, Err, Ok, Result}
use Rattle.std.proofs.Common.{sym}
use Rattle.pages.specs.Layout.{bad_length, counts_fit}
use Rattle.pages.specs.Reserved.{reserved_of, all_clean}
use Rattle.pages.proofs.ReservedLaws.{zero_clean, clean_zero}
use Rattle.table.specs.declared.Refusal.TheVariants.{PagesLength, PageCount}
use Rattle.table.specs.Refusal.{and_then}
use Rattle.checks.specs.ChecksLaws.{then_left, then_right, demanded}
use Rattle.collect.specs.Lawful.{length_verdict, counts_verdict, clean_verdict, reserved_verdict, lawful_verdict}
use Rattle.x86defs.specs.declared.CpuidFunction.{CpuidFunction}

module _ (s : List ℕ) where
  pub lawful_bad_length : bad_length s ≡ true → Err PagesLength ≡ lawful_verdict s
  unfolding lawful_verdict length_verdict
  lawful_bad_length e = rw e

  pub lawful_bad_count : bad_length s ≡ false → counts_fit s ≡ false → Err PageCount ≡ lawful_verdict s
  unfolding lawful_verdict length_verdict counts_verdict
  lawful_bad_count e f = rw (e, f)

  -- b is what the pass over the reserved bytes gives
  pub lawful_reserved : bad_length s ≡ false → counts_fit s ≡ true → {b : Result Unit CpuidFunction} → b ≡ reserved_of s → clean_verdict b ≡ lawful_verdict s
  unfolding lawful_verdict length_verdict counts_verdict reserved_verdict
  lawful_reserved e f g = rw (e, f, g)

  -- ---- where they are lawful

  clean_accepted : (b : Result Unit CpuidFunction) → clean_verdict b ≡ Ok tt → b ≡ Ok tt
  clean_accepted (Ok _) e = refl
  clean_accepted (Err leaf) e = cc

  module _ (e : lawful_verdict s ≡ Ok tt) where
    after_length : and_then (counts_verdict s) (reserved_verdict s) ≡ Ok tt
    unfolding lawful_verdict
    after_length = then_right (length_verdict s) _ e

    pub lawful_counts : counts_fit s ≡ true
    unfolding counts_verdict
    lawful_counts = demanded (counts_fit s) PageCount (then_left (counts_verdict s) _ after_length)

    pub lawful_clean : all_clean s ≡ true
    unfolding reserved_verdict
    lawful_clean = zero_clean s (clean_accepted (reserved_of s) (then_right (counts_verdict s) _ after_length))

  pub clean_lawful : bad_length s ≡ false → counts_fit s ≡ true → all_clean s ≡ true → lawful_verdict s ≡ Ok tt
  clean_lawful e f g = sym (lawful_reserved e f (sym (clean_zero s g)))
