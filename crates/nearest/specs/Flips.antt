-- Document 02, P13: "Among single flips of result bits in entries below their counts, ordered by page, entry, register (EAX, EBX, ECX, EDX) and
-- bit from 0". s is the list of the page bytes.
use Rattle.std.specs.Prelude.{List, [], ◌∷◌, ◌++◌, ℕ, ◌+◌, ◌*◌, ◌/◌, ◌%◌, ◌^◌, get_or, set}
use Rattle.std.specs.Int.Bits.{bit_xor}
use Rattle.bits.specs.Lists.{tabulate}
use Rattle.pages.specs.Layout.{Entry, entry_start}
use Rattle.pages.specs.Entries.{entries}
use Rattle.nearest.specs.declared.flips.Flip.{Flip}

abbrev pub flip : ℕ → ℕ → ℕ → ℕ → Flip
flip p q r k = record { page = p; entry = q; register = r; bit = k }

-- the byte that holds the bit. Document 01, "Page bytes": of an entry "EAX 24, EBX 28, ECX 32, EDX 36", little-endian
abbrev pub flipped_byte : Flip → ℕ
flipped_byte f = entry_start f.page f.entry + 24 + 4 * f.register + f.bit / 8

-- the pages with that one bit flipped
unfoldable pub flipped : List ℕ → Flip → List ℕ
flipped s f = set s (flipped_byte f) (bit_xor (get_or s (flipped_byte f) 0) (2 ^ (f.bit % 8)))

-- the 128 flips of an entry: EAX bit 0 first, EDX bit 31 last
unfoldable pub flips_of : Entry → List Flip
flips_of e = tabulate 128 (λ n. flip e.page e.position (n / 32) (n % 32))

unfoldable pub flips_in : List Entry → List Flip
flips_in [] = []
flips_in (e ∷ es) = flips_of e ++ flips_in es

-- of a page set: those of every entry below its page's count, in page and entry order
unfoldable pub flips : List ℕ → List Flip
flips s = flips_in (entries s)
