-- Document 02, P8: "Answers: 16 from edition 2 back to 1, after 15 for either edition and before 13 and 14, which P3's rules give on the handed
-- table's own rows." Each is given if and only if its condition holds and no earlier one does.
use Rattle.std.specs.Prelude.{◌≡◌, ◌↔◌, ◌⊎◌, ℕ, ◌≤◌, ◌<◌, Err, Ok}
use Rattle.table.specs.declared.CpuidResults.{CpuidResults}
use Rattle.table.specs.declared.Refusal.TheVariants.{StateBeyondTable, CompactSizeTooLarge}
use Rattle.table.specs.Edition.{editions}
use Rattle.table.specs.Table.{empty_table}
use Rattle.refusals.specs.Conditions.{EditionFault}
use Rattle.guest_rise.specs.StateExactly.{Allowed, SizeFault}
use Rattle.guest_rise.specs.StateExactly.StateAnswers.{beyond, large, given}
use Rattle.table.specs.declared.Refusal.{Refusal}
use Rattle.table.specs.declared.Refusal.TheVariants.{UnknownEdition, EditionBack}
use Rattle.carry.specs.Carry.{own_rows, carry}

-- 15 for either edition
abbrev pub EitherFault : ℕ → ℕ → Type 0
EitherFault from to = EditionFault from ⊎ EditionFault to

-- 16: both are editions, and the one wanted is the earlier one
abbrev pub Back : ℕ → ℕ → Type 0
Back from to = (1 ≤ to) × (to < from) × (from ≤ editions)

-- neither 15 nor 16: from an edition to the same or a later one
abbrev pub Forward : ℕ → ℕ → Type 0
Forward from to = (1 ≤ from) × (from ≤ to) × (to ≤ editions)

pub record CarryExactly (t : CpuidResults) (from to xcr0 xss : ℕ) : Type 0 where
  pub unknown : ((carry t from to xcr0 xss).verdict ≡ Err UnknownEdition) ↔ EitherFault from to
  pub back : ((carry t from to xcr0 xss).verdict ≡ Err EditionBack) ↔ Back from to
  pub beyond : ((carry t from to xcr0 xss).verdict ≡ Err StateBeyondTable) ↔ (Forward from to × (Allowed (own_rows t) xcr0 xss → ⊥))
  pub large : ((carry t from to xcr0 xss).verdict ≡ Err CompactSizeTooLarge)
      ↔ (Forward from to × Allowed (own_rows t) xcr0 xss × SizeFault (own_rows t) xcr0 xss)
  pub given : ((carry t from to xcr0 xss).verdict ≡ Ok tt)
      ↔ (Forward from to × Allowed (own_rows t) xcr0 xss × (SizeFault (own_rows t) xcr0 xss → ⊥))
  pub empty : (r : Refusal) → (carry t from to xcr0 xss).verdict ≡ Err r → (carry t from to xcr0 xss).table ≡ empty_table
