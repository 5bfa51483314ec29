-- What one walk over any bytes gives: whether they are lawful pages; where they are, the masked first entries and where each stands; else no rows.
use Rattle.std.specs.Prelude.{◌≡◌, Bool, true, List, ℕ, Ok, Result}
use Rattle.std.proofs.Common.{sym, ◌∙◌, arith}
use Rattle.collect.specs.FirstEntries.{mask_row}
use Rattle.memory.specs.Memory.{rows_in, layout}
use Rattle.collect.specs.Walked.{Walked}
use Rattle.pages.specs.Reserved.{all_clean}
use Rattle.collect.specs.Mask.{Unmasked}
use Rattle.collect.proofs.MaskLaws.{firsts_unmasked, firsts_masked}
use Rattle.collect.specs.Lawful.{lawful_verdict}
use Rattle.collect.proofs.LawfulLaws.{lawful_clean}
use Rattle.collect.specs.WalkedPages.{WalkedPages}
use Rattle.x86defs.specs.declared.CpuidFunction.{CpuidFunction}

-- what the walk collects of lawful pages is ready to be masked, and is then the masked first entries
module _ (s w o : List ℕ) {b : Result Unit CpuidFunction} (e : (Ok tt) ≡ lawful_verdict s) (k : Walked s b w o) where
  clean : all_clean s ≡ true
  clean = lawful_clean s (sym e)

  pub walk_unmasked : Unmasked w o
  walk_unmasked = rw (k.rows clean, k.stands clean) (firsts_unmasked s)

  pub accepted_walk : (avic : Bool) (v : List ℕ) → v ≡ layout (λ i. (mask_row avic i (rows_in w o i)).result) → WalkedPages avic s (Ok tt) v o
  accepted_walk avic v m = record {
    verdict = e;
    rows = λ _. m ∙ rw (k.rows clean, k.stands clean) (firsts_masked s avic);
    stands = λ _. k.stands clean;
    refused = λ x f. absurd (let z : ◌≡◌ {A = ℕ} 0 1 = cc in omega arith);
  }
