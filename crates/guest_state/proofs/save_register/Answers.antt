-- `guest_state::save_register` meets its contract: the size if it fits, else all ones.
use mathlib.Core.Path.{◌≡◌, refl, ◌∙◌}
use Prim.Native.Nat.{ℕ}
use Rattle.std.specs.Prelude.{Option, Some, None, unwrap_or}
use Rattle.table.specs.Rows.{Rows}
use Rattle.checks.specs.ExtendedState.{save_area, size_of}
use Rattle.rows.specs.Checked.{registers_in}
use Rattle.guest_state.specs.State.{save_register}
use Rattle.guest_state.specs.StateLaws.{save_bytes, save_large}
use Rattle.guest_state.proofs.save_register.Goals as goal

saved : (m : Rows) (x : ℕ) (size : Option ℕ) → size ≡ size_of (save_area m x) → unwrap_or size 0xFFFFFFFF ≡ save_register m x
saved m x (Some n) e = save_bytes m x e refl
saved m x None e = save_large m x e refl

pub returns : goal.returns
returns c = c.unwrap_or.ensures ∙ saved (registers_in c.args.registers.now) c.args.xcr0 _ c.xsave_size.ensures
