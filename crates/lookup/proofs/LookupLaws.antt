-- The leaves with subleaves are those of the table of kept leaves; a lookup is one read, of the place that is asked for.
use Rattle.std.specs.Prelude.{◌≡◌, Bool, ℕ, ◌≤◌, length, None, Option, Some}
use Rattle.std.proofs.Math.Path.{refl, sym}
use Rattle.std.proofs.Common.{◌∙◌, le_of_eq}
use Rattle.std.proofs.Math.Bool.{false}
use Rattle.std.proofs.lemmas.List.{length-replicate}
use Rattle.std.proofs.Math.ListN.{get_or-eq_default}
use Rattle.bits.specs.ChoiceLaws.{pick_false}
use Rattle.x86defs.specs.declared.CpuidFunction.{CpuidFunction}
use Rattle.masking.specs.Kept.{places}
use Rattle.table.specs.declared.CpuidResults.{CpuidResults}
use Rattle.table.specs.Table.{row_in, empty_table}
use Rattle.lookup.specs.Lookup.{place_asked, row_result, lookup}
use Rattle.lookup.specs.LookupLaws.{asked_whole, asked_within, empty_absent}

-- a table has 88 places
module _ (t : CpuidResults) (whole : length t.present ≤ places) where
  past_last : row_result (row_in t places) ≡ None
  past_last = rw (get_or-eq_default t.present false whole)

  lookup_asked : (l : CpuidFunction) (sub : Option ℕ) (enforce : Bool) → lookup t l sub enforce ≡ row_result (row_in t (place_asked l sub enforce))
  lookup_asked l None enforce = asked_whole t past_last l enforce
  lookup_asked l (Some k) enforce = asked_within t past_last l k enforce

  -- so the row of that place is what is found
  pub lookup_at : (l : CpuidFunction) (sub : Option ℕ) (enforce : Bool) (i : ℕ) → i ≡ place_asked l sub enforce
      → row_result (row_in t i) ≡ lookup t l sub enforce
  lookup_at l sub enforce i e = rw e (sym (lookup_asked l sub enforce))

-- "in a refused table it finds nothing"
pub empty_finds_nothing : (l : CpuidFunction) (sub : Option ℕ) (enforce : Bool) → lookup empty_table l sub enforce ≡ None
empty_finds_nothing l sub enforce =
    sym (lookup_at empty_table (le_of_eq (length-replicate places false)) l sub enforce (place_asked l sub enforce) refl)
    ∙ pick_false _ _ (empty_absent (place_asked l sub enforce))
