-- What a verdict that is covered says of its checks: neither 15, 1, 2, 17 nor 3 was given.
use Rattle.std.specs.Prelude.{◌≡◌, refl, Bool, true, false, not, List, ℕ, Err, Ok, Result}
use Rattle.std.proofs.Common.{arith}
use Rattle.bits.specs.Search.Failing.{at, none}
use Rattle.bits.specs.Search.{Failing, lowest}
use Rattle.pages.specs.Layout.{bad_length, counts_fit}
use Rattle.pages.specs.Reserved.{reserved_of}
use Rattle.table.specs.declared.Refusal.TheVariants.{UnknownEdition, PagesLength, PageCount}
use Rattle.table.specs.declared.Refusal.{Refusal}
use Rattle.table.specs.Edition.{known_edition}
use Rattle.table.specs.Refusal.{and_then}
use Rattle.table.specs.Rows.{Rows}
use Rattle.checks.specs.Checks.{refuse_at, missing_required, missing_component, required_verdict, components_of, components_verdict, refuse_unless}
use Rattle.checks.specs.ExtendedState.{combined_mask, supplied}
use Rattle.checks.specs.Required.{place_required, required_count}
use Rattle.build.specs.Build.{edition_verdict}
use Rattle.collect.specs.Lawful.{length_verdict, counts_verdict, clean_verdict, reserved_verdict, lawful_verdict}
use Rattle.rise.specs.Added.{Covered}
use Rattle.table.specs.Verdict.{Verdict}
use Rattle.x86defs.specs.declared.CpuidFunction.{CpuidFunction}

-- 15 is not covered
pub edition_found : (n : ℕ) (v : Verdict) → Covered (and_then (edition_verdict n) v) → edition_verdict n ≡ Ok tt
unfolding edition_verdict
edition_found n v = go (known_edition n)
  where
    go : (p : Bool) → Covered (and_then (refuse_unless p UnknownEdition) v) → refuse_unless p UnknownEdition ≡ Ok tt
    go true c = refl
    go false c = absurd (omega (arith, c.1))

-- neither 1, 2 nor 17 is
pub lawful_found : (s : List ℕ) (v : Verdict) → Covered (and_then (lawful_verdict s) v) → lawful_verdict s ≡ Ok tt
unfolding lawful_verdict length_verdict counts_verdict reserved_verdict
lawful_found s v = go (not (bad_length s)) (counts_fit s) (reserved_of s)
  where
    go : (p q : Bool) (b : Result Unit CpuidFunction)
        → Covered (and_then (and_then (refuse_unless p PagesLength) (and_then (refuse_unless q PageCount) (clean_verdict b))) v)
        → and_then (refuse_unless p PagesLength) (and_then (refuse_unless q PageCount) (clean_verdict b)) ≡ Ok tt
    go true true (Ok _) c = refl
    go true true (Err leaf) c = absurd (omega (arith, c.1))
    go true false b c = absurd (omega (arith, c.0))
    go false q b c = absurd (omega (arith, c.0))

-- a search whose refusals are not covered has found nothing
search_passes : (f : Failing) (r : ℕ → Refusal) (v : Verdict) → ((j : ℕ) → Covered (Err (r j)) → ⊥) → Covered (and_then (refuse_at f r) v)
    → refuse_at f r ≡ Ok tt
search_passes (at j) r v not c = absurd (not j c)
search_passes none r v not c = refl

-- nor is 3
pub required_found : (m : Rows) (v : Verdict) → Covered (and_then (required_verdict m) v) → required_verdict m ≡ Ok tt
unfolding required_verdict
required_found m v = search_passes (lowest (λ j. (m (place_required j)).present) 0 required_count) missing_required v (λ j c. omega (arith, c.0))

pub components_found : (m : Rows) (v : Verdict) → Covered (and_then (components_verdict m) v) → components_verdict m ≡ Ok tt
unfolding components_verdict components_of
components_found m v = search_passes (lowest (supplied m (combined_mask m)) 2 62) missing_component v (λ k c. omega (arith, c.0))

-- a check with the same verdict before checks that agree where they are asked
pub then_same : (w v v' : Verdict) → Covered (and_then w v) → (Covered v → v' ≡ v) → and_then w v' ≡ and_then w v
then_same (Ok _) v v' c f = f c
then_same (Err r) v v' c f = refl
