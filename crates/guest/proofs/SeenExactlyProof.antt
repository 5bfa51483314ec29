-- What a guest sees differs from the table exactly as SeenExactly.antt says.
use Rattle.std.specs.Prelude.{refl}
use Rattle.std.proofs.Common.{lit<}
use Rattle.masking.specs.Place
use Rattle.table.specs.declared.CpuidResults.{CpuidResults}
use Rattle.table.specs.Table.{row_in}
use Rattle.guest.specs.declared.Processor.{Processor}
use Rattle.guest.proofs.SeenLaws.{seen_there, elsewhere, absent_stays}
use Rattle.guest.specs.SeenExactly.{SeenExactly}
use Rattle.guest.specs.SeenExactlyProof.{number_bits, osxsave_bit, version_eax}

-- ---- the statement

pub seen_exactly : (t : CpuidResults) (v : Processor) → SeenExactly t v
seen_exactly t v = record {
  present = λ i. refl;
  count = refl;
  mask = refl;
  version = λ p. rw (seen_there t v Place.version_and_features (lit< tt) p)
      (record { eax = version_eax v (row_in t Place.version_and_features).result; ebx = number_bits v.x2apic _; ecx = osxsave_bit v.osxsave _; edx = refl });
  threads = λ p. rw (seen_there t v Place.thread_level (lit< tt) p) (record { eax = refl; ebx = refl; ecx = refl; edx = refl });
  cores = λ p. rw (seen_there t v Place.core_level (lit< tt) p) (record { eax = refl; ebx = refl; ecx = refl; edx = refl });
  state0 = λ p. rw (seen_there t v (Place.extended_state 0) (lit< tt) p) (record { eax = refl; ebx = refl; ecx = refl; edx = refl });
  state1 = λ p. rw (seen_there t v (Place.extended_state 1) (lit< tt) p) (record { eax = refl; ebx = refl; ecx = refl; edx = refl });
  elsewhere = elsewhere t v;
  absent = absent_stays t v;
}
