-- The nearest bit as the exported function gives it: number 0 with the bit's place, or a refusal's numbers and no place.
use Rattle.table.specs.Numbers.{refusal_numbers}
use Rattle.answers.specs.declared.nearest_bit.SnpCpuidNearest.{SnpCpuidNearest}
use Rattle.std.specs.Prelude.{Err, Ok, Result}
use Rattle.nearest.specs.declared.flips.Flip.{Flip}
use Rattle.table.specs.declared.Refusal.{Refusal}

abbrev pub nearest_numbers : Result Flip Refusal → SnpCpuidNearest
nearest_numbers (Ok f) = record {
  number = 0;
  leaf = 0;
  has_subleaf = 0;
  subleaf = 0;
  s = 0;
  entry = f.entry;
  page = f.page;
  register_index = f.register;
  bit = f.bit;
}
nearest_numbers (Err r) = record {
  number = (refusal_numbers r).number;
  leaf = (refusal_numbers r).leaf;
  has_subleaf = (refusal_numbers r).has_subleaf;
  subleaf = (refusal_numbers r).subleaf;
  s = (refusal_numbers r).s;
  entry = 0;
  page = 0;
  register_index = 0;
  bit = 0;
}
