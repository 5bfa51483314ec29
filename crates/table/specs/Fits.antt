-- Registers of 32 bits.
use Rattle.std.specs.Prelude.{◌^◌, ◌<◌}
use Rattle.x86defs.specs.declared.CpuidResult.{CpuidResult}

pub record Fits (r : CpuidResult) : Type 0 where
  pub eax : r.eax < 2 ^ 32
  pub ebx : r.ebx < 2 ^ 32
  pub ecx : r.ecx < 2 ^ 32
  pub edx : r.edx < 2 ^ 32
