-- What a processor's guest sees, as the exported functions take and give it.
use Rattle.std.specs.Prelude.{◌≡◌, refl, Bool, List, ℕ, Err, Ok, Option}
use Rattle.std.proofs.Common.{sym, ap, ◌∙◌}
use Rattle.x86defs.specs.Functions.{function}
use Rattle.table.specs.declared.Choices.{Choices}
use Rattle.table.specs.Refusal.{and_then}
use Rattle.table.specs.Table.{rows_of_table}
use Rattle.lookup.specs.Lookup.{lookup_origin}
use Rattle.lookup.proofs.LookupLaws.{empty_finds_nothing}
use Rattle.guest_state.specs.State.{state_verdict}
use Rattle.guest.specs.Guest.{answer_for}
use Rattle.build.specs.Build.{answer}
use Rattle.guest.specs.declared.Processor.{Processor}
use Rattle.guest.specs.declared.GuestAnswer.{GuestAnswer}
use Rattle.guest.specs.Seen.{SeenIn}
use Rattle.guest.specs.GuestPages.{guest_pages}
use Rattle.answers.specs.declared.SnpCpuidBuilt.{SnpCpuidBuilt}
use Rattle.answers.specs.declared.SnpCpuidFound.{SnpCpuidFound}
use Rattle.answers.specs.Answers.{held_numbers, found_given, found_at}
use Rattle.table.specs.Verdict.{Verdict}
use Rattle.x86defs.specs.declared.CpuidResult.{CpuidResult}

abbrev pub guest_numbers : GuestAnswer → SnpCpuidBuilt
guest_numbers g = held_numbers g.verdict g.table

-- the lookup in the guest's table, with the origin of the paravisor's row
abbrev pub guest_found : Choices → List ℕ → Processor → ℕ → Option ℕ → Bool → SnpCpuidFound
guest_found chosen s v leaf subleaf enforce = found_at (guest_pages chosen s v).table (answer chosen s).origins leaf subleaf enforce

-- the memory w, o is the guest's table, whose rows came from where `found` says
abbrev pub GuestIn : GuestAnswer → List ℕ → List ℕ → List ℕ → Type 0
GuestIn g found w o = SeenIn g found g.verdict w o

-- what is found in the guest's table with origins o is what is found with q, if they are the same where the guest is given its table: in a refused
-- one nothing is found
pub found_seen : (chosen : Choices) (s : List ℕ) (v : Processor) (o q : List ℕ) (leaf : ℕ) (subleaf : Option ℕ) (enforce : Bool)
    → ((guest_pages chosen s v).verdict ≡ Ok tt → o ≡ q)
    → found_at (guest_pages chosen s v).table o leaf subleaf enforce ≡ found_at (guest_pages chosen s v).table q leaf subleaf enforce
unfolding guest_pages
found_seen chosen s v o q leaf subleaf enforce =
    go (and_then (answer chosen s).verdict (state_verdict (rows_of_table (answer chosen s).table) v.xcr0 v.xss))
  where
    go : (w : Verdict) → ((answer_for w (answer chosen s).table v).verdict ≡ Ok tt → o ≡ q)
        → found_at (answer_for w (answer chosen s).table v).table o leaf subleaf enforce
        ≡ found_at (answer_for w (answer chosen s).table v).table q leaf subleaf enforce
    go (Ok _) h = ap (λ (k : List ℕ). found_at (answer_for (Ok tt) (answer chosen s).table v).table k leaf subleaf enforce) (h refl)
    go (Err r) h =
        let none = empty_finds_nothing (function leaf) subleaf enforce in
        ap (λ (x : Option CpuidResult). found_given x (lookup_origin o (function leaf) subleaf enforce)) none
        ∙ sym (ap (λ (x : Option CpuidResult). found_given x (lookup_origin q (function leaf) subleaf enforce)) none)
