-- What is found for a processor's guest in lent memory is what a lookup finds in the table that its guest sees of the pages, with the same origin:
-- in a table that was built there, and in the guest's own table.
use Rattle.std.specs.Prelude.{◌≡◌, refl, Bool, List, ℕ, Err, None, Ok, Option}
use Rattle.std.proofs.Common.{sym, ap, ap₂, ◌∙◌}
use Rattle.x86defs.specs.declared.CpuidFunction.{CpuidFunction}
use Rattle.table.specs.declared.Choices.{Choices}
use Rattle.table.specs.declared.CpuidResults.{CpuidResults}
use Rattle.memory.specs.Held.{held_in}
use Rattle.build.specs.Build.{answer, InMemory}
use Rattle.lookup.specs.Lookup.{with_origin, lookup_origin, found}
use Rattle.lookup.proofs.LookupLaws.{empty_finds_nothing}
use Rattle.guest.specs.declared.Processor.{Processor}
use Rattle.guest.specs.declared.GuestAnswer.{GuestAnswer}
use Rattle.guest.specs.Guest.{guest_answer}
use Rattle.guest.specs.Seen.{guest_found_in, SeenIn}
use Rattle.guest.specs.GuestPages.{guest_pages}
use Rattle.guest.proofs.GuestPagesLaws.{accepted_guest, refused_guest}
use Rattle.table.specs.Verdict.{Verdict}
use Rattle.x86defs.specs.declared.CpuidResult.{CpuidResult}

module _ (chosen : Choices) (s : List ℕ) (v : Processor) {d : Verdict} {w o : List ℕ} (l : CpuidFunction) (sub : Option ℕ) (enforce : Bool) where
  -- what `guest_find` answers in memory that `build_into` accepted
  pub guest_from_memory : InMemory (answer chosen s) d w o → d ≡ Ok tt
      → guest_found_in (guest_answer (held_in w o) v) o l sub enforce ≡ guest_found_in (guest_pages chosen s v) (answer chosen s).origins l sub enforce
  guest_from_memory built e =
      ap₂ (λ (t : CpuidResults) (p : List ℕ). guest_found_in (guest_answer t v) p l sub enforce) built.table built.origins
      ∙ ap (λ (g : GuestAnswer). guest_found_in g (answer chosen s).origins l sub enforce) (sym (accepted_guest chosen s v (sym built.verdict ∙ e)))

  -- what `find` answers in memory that `guest_pages` left, refused or not
  pub found_in_pages : SeenIn (guest_pages chosen s v) (answer chosen s).origins d w o
      → found (held_in w o) o l sub enforce ≡ found (guest_pages chosen s v).table (answer chosen s).origins l sub enforce
  found_in_pages seen = ap (λ (t : CpuidResults). found t o l sub enforce) seen.table ∙ go d refl
    where
      go : (x : Verdict) → d ≡ x
          → found (guest_pages chosen s v).table o l sub enforce ≡ found (guest_pages chosen s v).table (answer chosen s).origins l sub enforce
      go (Ok _) e = ap (λ (p : List ℕ). found (guest_pages chosen s v).table p l sub enforce) (seen.origins e)
      go (Err r) e = none o ∙ sym (none (answer chosen s).origins)
        where
          none : (p : List ℕ) → found (guest_pages chosen s v).table p l sub enforce ≡ None
          none p =
              ap (λ (g : GuestAnswer). found g.table p l sub enforce) (refused_guest chosen s v r (sym seen.verdict ∙ e))
              ∙ ap (λ (q : Option CpuidResult). with_origin q (lookup_origin p l sub enforce)) (empty_finds_nothing l sub enforce)
