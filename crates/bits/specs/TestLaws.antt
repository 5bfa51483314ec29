-- A test as a number: what the library's `from` of a test gives is `one`.
use Rattle.std.specs.Prelude.{◌≡◌, refl, Bool, true, false, ℕ, ◌≤◌}
use Rattle.std.proofs.Common.{arith}
use Rattle.std.specs.Int.{from_bool}
use Rattle.bits.specs.Lists.{one}

pub from_bool_one : (b : Bool) → from_bool b ≡ one b
from_bool_one true = refl
from_bool_one false = refl

pub from_bool_few : (b : Bool) → from_bool b ≤ 1
from_bool_few true = omega arith
from_bool_few false = omega arith
