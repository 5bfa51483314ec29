-- The places of the table of kept leaves by leaf and subleaf.
use Rattle.std.specs.Prelude.{ℕ, None, Option, Some}
use Rattle.bits.specs.Choice.{pick}
use Rattle.x86defs.specs.Functions.{function}
use Rattle.masking.specs.Kept.{place_of, subleaf_at, indexed_at}

-- leaf and subleaf of the 88 places
abbrev pub sub_at : ℕ → Option ℕ
sub_at i = pick (indexed_at i) (Some (subleaf_at i)) None

abbrev pub place_for : ℕ → Option ℕ → ℕ
place_for l None = place_of (function l) 0
place_for l (Some k) = place_of (function l) k
