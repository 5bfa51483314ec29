-- Document 02, P2: "struct kvm_cpuid2: a count and a zero word, then 40 bytes a row (function, index, flags, EAX, EBX, ECX, EDX, three
-- zero words)". Words are little-endian.
use Rattle.std.specs.Prelude.{List, [], ◌∷◌, ◌++◌, ℕ, ◌+◌, ◌*◌, length}
use Rattle.bits.specs.Lists.{tabulate}
use Rattle.x86defs.specs.declared.CpuidResult.{CpuidResult}
use Rattle.x86defs.specs.Functions.{cpuid_result}
use Rattle.pages.specs.Layout.{word_at}
use Rattle.kvm_list.specs.Words.{bytes_of_words}

-- struct kvm_cpuid_entry2
pub record ListRow : Type 0 where
  pub leaf : ℕ
  pub index : ℕ
  pub flags : ℕ
  pub registers : CpuidResult
  pub padding0 : ℕ
  pub padding1 : ℕ
  pub padding2 : ℕ

-- its ten words
abbrev pub row_words : ListRow → List ℕ
row_words r =
    r.leaf
    ∷ r.index
    ∷ r.flags
    ∷ r.registers.eax
    ∷ r.registers.ebx
    ∷ r.registers.ecx
    ∷ r.registers.edx
    ∷ r.padding0
    ∷ r.padding1
    ∷ r.padding2
    ∷ []

-- and a row of ten words
abbrev pub row_from : (ℕ → ℕ) → ListRow
row_from f = record {
  leaf = f 0;
  index = f 1;
  flags = f 2;
  registers = cpuid_result (f 3) (f 4) (f 5) (f 6);
  padding0 = f 7;
  padding1 = f 8;
  padding2 = f 9;
}

-- ---- rows as bytes

unfoldable pub all_words : List ListRow → List ℕ
all_words [] = []
all_words (r ∷ rs) = row_words r ++ all_words rs

unfoldable pub list_bytes : List ListRow → List ℕ
list_bytes rs = bytes_of_words (length rs ∷ 0 ∷ all_words rs)

-- ---- bytes as rows

abbrev pub head_size : ℕ
head_size = 8

abbrev pub row_size : ℕ
row_size = 40

-- the count, and the word that is to be zero
abbrev pub row_count : List ℕ → ℕ
row_count l = word_at l 0

abbrev pub zero_word : List ℕ → ℕ
zero_word l = word_at l 4

-- row q of a list of bytes
unfoldable pub row_at : List ℕ → ℕ → ListRow
row_at l q = row_from (λ j. word_at l (head_size + row_size * q + 4 * j))

unfoldable pub rows_listed : List ℕ → List ListRow
rows_listed l = tabulate (row_count l) (row_at l)
