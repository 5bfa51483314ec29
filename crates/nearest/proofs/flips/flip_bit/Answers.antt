-- `nearest::flips::flip_bit` meets its contract: one law a register.
use native.Mathlib.Omega.{arith}
use Rattle.nearest.specs.OneBitLaws.{flip_eax, flip_ebx, flip_ecx, flip_edx}
use Rattle.nearest.proofs.flips.flip_bit.Goals as goal

pub returns-then-register-eq0 : goal.returns-then-register-eq0
returns-then-register-eq0 c = flip_eax c.args.x c.args.n c.if-register-eq0.true

pub returns-then-register-eq1 : goal.returns-then-register-eq1
returns-then-register-eq1 c = flip_ebx c.args.x c.args.n c.if-register-eq1.true

pub returns-then-register-eq2 : goal.returns-then-register-eq2
returns-then-register-eq2 c = flip_ecx c.args.x c.args.n c.if-register-eq2.true

pub returns : goal.returns
returns c =
    flip_edx c.args.x c.args.n (omega (arith, c.requires, c.if-register-eq0.false, c.if-register-eq1.false, c.if-register-eq2.false))
