-- Document 01, "Page bytes (SEV-SNP Firmware ABI)": 4,096 bytes, little-endian. Count: 4 bytes at 0; 12 reserved; 64 entries of 48
-- bytes from 16; the rest reserved. Entry: EAX_IN at 0, ECX_IN 4, XCR0_IN 8, XSS_IN 16, EAX 24, EBX 28, ECX 32, EDX 36, 8 reserved at 40.
use Rattle.std.specs.Prelude.{Bool, not, ◌||◌, List, ℕ, ◌+◌, ◌*◌, ◌/◌, ◌%◌, eqb, leb, length, get_or}
use Rattle.bits.specs.Search.{every}
use Rattle.x86defs.specs.declared.CpuidFunction.{CpuidFunction}
use Rattle.x86defs.specs.declared.CpuidResult.{CpuidResult}
use Rattle.x86defs.specs.Functions.{function, cpuid_result}

abbrev pub page_size : ℕ
page_size = 4096

abbrev pub entry_size : ℕ
entry_size = 48

abbrev pub entries_at : ℕ
entries_at = 16

abbrev pub most_entries : ℕ
most_entries = 64

-- the four bytes at offset o, little-endian
abbrev pub word_at : List ℕ → ℕ → ℕ
word_at s o = get_or s o 0 + 256 * get_or s (o + 1) 0 + 65536 * get_or s (o + 2) 0 + 16777216 * get_or s (o + 3) 0

-- the four registers at offset o: EAX, EBX, ECX, EDX
unfoldable pub registers_at : List ℕ → ℕ → CpuidResult
registers_at s o = cpuid_result (word_at s o) (word_at s (o + 4)) (word_at s (o + 8)) (word_at s (o + 12))

-- how many whole pages there are; pages are counted from 0
abbrev pub pages_in : List ℕ → ℕ
pages_in s = length s / page_size

-- the count of page p
abbrev pub count_of : List ℕ → ℕ → ℕ
count_of s p = word_at s (page_size * p)

-- where the entry at position q of page p begins
abbrev pub entry_start : ℕ → ℕ → ℕ
entry_start p q = page_size * p + entries_at + entry_size * q

-- an entry, with the page and the position that it stands at
pub record Entry : Type 0 where
  pub page : ℕ
  pub position : ℕ
  pub leaf : CpuidFunction
  pub subleaf : ℕ
  pub registers : CpuidResult

unfoldable pub entry_at : List ℕ → ℕ → ℕ → Entry
entry_at s p q =
    let o : ℕ = entry_start p q in
    record {
      page = p;
      position = q;
      leaf = function (word_at s o);
      subleaf = word_at s (o + 4);
      registers = cpuid_result (word_at s (o + 24)) (word_at s (o + 28)) (word_at s (o + 32)) (word_at s (o + 36));
    }

-- refusal 1: the length is 0, or not a multiple of 4,096
unfoldable pub bad_length : List ℕ → Bool
bad_length s = eqb (length s) 0 || not (eqb (length s % page_size) 0)

-- whether no page's count is above 64: refusal 2 where one is
unfoldable pub counts_fit : List ℕ → Bool
counts_fit s = every (λ p. leb (count_of s p) most_entries) (pages_in s)
