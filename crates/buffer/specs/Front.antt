-- Bytes at the front of a lent buffer: numbers as bytes, and what a write answers and leaves. Document 01, "Image and lookup": 4 bytes each,
-- little-endian; 9 where the lent buffer is shorter; bytes beyond what is written stay, and a refused write changes no lent byte.
use Rattle.std.specs.Prelude.{List, [], ◌∷◌, ◌++◌, ℕ, ◌/◌, ◌%◌, leb, length, drop, Err, Ok}
use Rattle.bits.specs.Choice.{pick}
use Rattle.x86defs.specs.declared.CpuidResult.{CpuidResult}
use Rattle.table.specs.declared.Refusal.TheVariants.{BufferTooShort}
use Rattle.buffer.specs.Written.{Written}
use Rattle.table.specs.Verdict.{Verdict}

-- a 32-bit number as four bytes, the lowest first
abbrev pub bytes_of : ℕ → List ℕ
bytes_of n = n % 256 ∷ n / 256 % 256 ∷ n / 65536 % 256 ∷ n / 16777216 % 256 ∷ []

-- EAX, EBX, ECX, EDX
abbrev pub result_bytes : CpuidResult → List ℕ
result_bytes r = bytes_of r.eax ++ bytes_of r.ebx ++ bytes_of r.ecx ++ bytes_of r.edx

-- the same, kept opaque, so that a contract shows one list and not its bytes
unfoldable pub word_bytes : ℕ → List ℕ
word_bytes n = bytes_of n

unfoldable pub register_bytes : CpuidResult → List ℕ
register_bytes r = result_bytes r

-- what a write answers, and what the lent buffer then holds
pub record AfterWrite : Type 0 where
  pub answer : Written
  pub buffer : List ℕ

-- bytes written at the front of a buffer, if they fit
unfoldable pub write_front : List ℕ → List ℕ → AfterWrite
write_front bytes buffer =
    pick (leb (length bytes) (length buffer))
    (record { answer = Ok (length bytes); buffer = bytes ++ drop (length bytes) buffer })
    (record { answer = Err BufferTooShort; buffer = buffer })

-- the refusals of what the bytes are made of come first
abbrev pub write_verdict : Verdict → List ℕ → List ℕ → AfterWrite
write_verdict (Ok _) bytes buffer = write_front bytes buffer
write_verdict (Err r) bytes buffer = record { answer = Err r; buffer = buffer }
