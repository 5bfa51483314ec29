-- `x86defs::mt_per_socket` meets its contract, by the law of a bit by shift and mask.
use Rattle.x86defs.specs.FieldsLaws.{bit_out}
use Rattle.x86defs.proofs.mt_per_socket.Goals as goal

pub returns : goal.returns
returns c = let both = bit_out _ _ in record { value = both.0; small = both.1 }
