-- A row as the exported lookups give it: of any table with no more than 88 places, and any column of origins beside it.
use Rattle.std.specs.Prelude.{◌≡◌, refl, Bool, true, false, List, ℕ, ◌≤◌, ◌<◌, ltb, length, None, Option, Some}
use Rattle.std.proofs.Common.{sym, ap, ◌∙◌, arith, ltb-true, ltb-false}
use Rattle.std.proofs.Math.ListN.{get_or-eq_default}
use Rattle.bits.specs.Choice.{pick}
use Rattle.bits.specs.ChoiceLaws.{never_both, pick_true}
use Rattle.x86defs.specs.declared.CpuidFunction.{CpuidFunction}
use Rattle.x86defs.specs.declared.CpuidResult.{CpuidResult}
use Rattle.masking.specs.Kept.{places}
use Rattle.table.specs.declared.CpuidResults.{CpuidResults}
use Rattle.table.specs.Rows.{Row}
use Rattle.table.specs.Table.{row_in}
use Rattle.lookup.specs.Lookup.{place_asked, row_result, lookup_origin}
use Rattle.lookup.proofs.LookupLaws.{lookup_at}
use Rattle.answers.specs.declared.SnpCpuidFound.{SnpCpuidFound}
use Rattle.answers.specs.Answers.{found_with, found_given, found_at}
use Rattle.memory.specs.Origin.{origin_read}

module _ (t : CpuidResults) (whole : length t.present ≤ places) (origins : List ℕ) (leaf : CpuidFunction) (subleaf : Option ℕ) (enforce : Bool) where
  abbrev i : ℕ
  i = place_asked leaf subleaf enforce

  abbrev looked : SnpCpuidFound
  looked = found_at t origins leaf.0 subleaf enforce

  -- one read, of the place that is asked for
  as_read : found_given (row_result (row_in t i)) (lookup_origin origins leaf subleaf enforce) ≡ looked
  as_read = ap (λ (x : Option CpuidResult). found_given x (lookup_origin origins leaf subleaf enforce)) (lookup_at t whole leaf subleaf enforce i refl)

  present_of : (n : ℕ) (r : Row) → (found_given (row_result r) n).found ≡ 1 → r.present ≡ true
  present_of n r e = go r.present e
    where
      go : (b : Bool) → (found_given (pick b (Some r.result) None) n).found ≡ 1 → b ≡ true
      go true e = refl
      go false e = absurd (omega arith)

  -- what is found is a row that is there
  pub looked_present : looked.found ≡ 1 → (row_in t i).present ≡ true
  looked_present e = present_of _ (row_in t i) (ap (λ (f : SnpCpuidFound). f.found) as_read ∙ e)

  -- at one of the 88 places
  pub looked_inside : (row_in t i).present ≡ true → i < places
  looked_inside e = go (ltb i places) refl
    where
      go : (b : Bool) → ltb i places ≡ b → i < places
      go true f = ltb-true i places f
      go false f =
          let h : length t.present ≤ i = omega (arith, whole, ltb-false i places f) in
          absurd (never_both e (get_or-eq_default t.present false h))

  -- and a row that is there is found, with its registers and its origin
  pub looked_at : (row_in t i).present ≡ true → looked ≡ found_with (row_in t i).result (origin_read (lookup_origin origins leaf subleaf enforce))
  looked_at e =
      sym as_read ∙ ap (λ (x : Option CpuidResult). found_given x (lookup_origin origins leaf subleaf enforce)) (pick_true _ _ e)

  pub looked_found : (row_in t i).present ≡ true → looked.found ≡ 1
  looked_found e = ap (λ (f : SnpCpuidFound). f.found) (looked_at e)
