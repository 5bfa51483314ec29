-- Refusals of what a guest sees, from pages: building's first, then 13 and 14, each if and only if its condition holds.
use Rattle.std.specs.Prelude.{◌≡◌, List, ◌↔◌, ℕ, ◌≤◌, ◌<◌, Err, Ok}
use Rattle.std.proofs.Math.Path.{refl}
use Rattle.std.proofs.Common.{sym, ap, ◌∙◌, subst}
use Rattle.bits.specs.ChoiceLaws.{impossible}
use Rattle.table.specs.declared.Choices.{Choices}
use Rattle.table.specs.declared.Refusal.{Refusal}
use Rattle.table.specs.declared.Refusal.TheVariants.{BufferTooShort, StateBeyondTable, CompactSizeTooLarge}
use Rattle.table.specs.Refusal.{details}
use Rattle.table.specs.Rows.{Rows}
use Rattle.table.specs.Table.{empty_table, rows_of_table}
use Rattle.build.specs.Build.{answer}
use Rattle.buffer.specs.WritesExactly.{FrontExactly}
use Rattle.buffer.specs.WritesExactlyProof.{front_exactly}
use Rattle.image.specs.Image.{image}
use Rattle.refusals.specs.Exactly.{FirstFault, BuildsExactly}
use Rattle.refusals.proofs.ExactlyProof.{not_built_lem}
use Rattle.guest.specs.declared.Processor.{Processor}
use Rattle.guest.specs.declared.GuestAnswer.{GuestAnswer}
use Rattle.guest.specs.Guest.{guest_table, refused_answer}
use Rattle.guest.specs.GuestPages.{guest_pages, write_guest}
use Rattle.guest.proofs.GuestPagesLaws.{building_first, guest_verdict, refused_guest, given_guest}
use Rattle.guest_rise.specs.StateExactly.{Allowed, SizeFault, StateAnswers}
use Rattle.guest_rise.specs.StateExactly.StateAnswers.{beyond, large, given}
use Rattle.table.specs.Verdict.{Verdict}

-- the rows of the table that was built
abbrev pub table_rows : Choices → List ℕ → Rows
table_rows chosen s = rows_of_table (answer chosen s).table

-- a refusal holds the empty table
pub record GuestExactly (chosen : Choices) (s : List ℕ) (v : Processor) : Type 0 where
  pub built : (r : Refusal) → (answer chosen s).verdict ≡ Err r → guest_pages chosen s v ≡ refused_answer r
  pub beyond : ((guest_pages chosen s v).verdict ≡ Err StateBeyondTable)
      ↔ (((answer chosen s).verdict ≡ Ok tt) × (Allowed (table_rows chosen s) v.xcr0 v.xss → ⊥))
  pub large : ((guest_pages chosen s v).verdict ≡ Err CompactSizeTooLarge)
      ↔ (((answer chosen s).verdict ≡ Ok tt) × Allowed (table_rows chosen s) v.xcr0 v.xss × SizeFault (table_rows chosen s) v.xcr0 v.xss)
  pub given : ((guest_pages chosen s v).verdict ≡ Ok tt)
      ↔ (((answer chosen s).verdict ≡ Ok tt) × Allowed (table_rows chosen s) v.xcr0 v.xss × (SizeFault (table_rows chosen s) v.xcr0 v.xss → ⊥))
  pub empty : (r : Refusal) → (guest_pages chosen s v).verdict ≡ Err r → (guest_pages chosen s v).table ≡ empty_table
  pub table : (guest_pages chosen s v).verdict ≡ Ok tt → (guest_pages chosen s v).table ≡ guest_table (answer chosen s).table v
