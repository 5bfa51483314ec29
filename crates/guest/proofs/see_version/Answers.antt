-- `guest::see_version` meets its contract: EBX by masks and a shift, ECX by its own function.
use Rattle.guest.specs.Guest.{number_seen}
use Rattle.guest.specs.GuestLaws.{version_ebx}
use Rattle.guest.proofs.see_version.Goals as goal

pub returns-then-present : goal.returns-then-present
unfolding number_seen
returns-then-present c = rw (version_ebx, c.see_osxsave-ecx.ensures, c.if-present.true)
