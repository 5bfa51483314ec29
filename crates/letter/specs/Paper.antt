-- Document 01 in its own figures: its sections, each sentence quoted, and under it the definition that says it. "Page bytes" stands first, because
-- the rest reads through it; then the paper's order. No figure is taken from another definition by its name: what is imported are words (a row, a
-- bit, a choice by a test), which docs/REVIEW.md lists and counts. crates/theorems/specs/Document01.antt has the theorems: the code's answers are
-- these. Where document 02 changes a rule, its request is quoted beside it.
use Rattle.std.specs.Prelude.{◌≡◌, Bool, true, false, not, ◌&&◌, ◌||◌, List, [], ◌∷◌, ◌++◌, map, ℕ, zero, suc, ◌+◌, ◌-◌, ◌*◌, ◌/◌, ◌%◌, ◌^◌, max, eqb, ltb, leb, length, get_or, drop, replicate, Err, None, Ok, Option, Some}
use Rattle.std.specs.Int.Bits.{bit_and, bit_or}
use Rattle.bits.specs.Choice.{pick}
use Rattle.bits.specs.Lists.{tabulate, keep_if, sum_to, one}
use Rattle.bits.specs.Search.{every}
use Rattle.bits.specs.Bits.{has}
use Rattle.x86defs.specs.declared.CpuidResult.{CpuidResult}
use Rattle.x86defs.specs.Functions.{function, cpuid_result}
use Rattle.pages.specs.Layout.{Entry}
use Rattle.topology.specs.Topology.{Inputs}
use Rattle.topology.specs.declared.TopologyError.TheVariants.{Hyperthreading, ProcessorCount, ThreadsPerUnit}
use Rattle.table.specs.declared.Refusal.{Refusal}
use Rattle.table.specs.declared.Refusal.TheVariants.{PagesLength, PageCount, MissingRequiredResult, InvlpgbUnavailable, SaveAreaOverflow, TopologyInconsistent, BufferTooShort, ListLength, ListRows, ListFields, StateBeyondTable, CompactSizeTooLarge, UnknownEdition, EditionBack, ReservedBytes, PoolSets, PoolDiffers, NothingDecides}
use Rattle.table.specs.declared.Choices.{Choices}
use Rattle.table.specs.declared.CpuidResults.{CpuidResults}
use Rattle.table.specs.Rows.{Row, row, vacant}
use Rattle.table.specs.Refusal.{Details}
use Rattle.buffer.specs.Front.{AfterWrite}
use Rattle.finish.specs.Kinds.{Kinds, kinds}
use Rattle.finish.specs.Kinds.Kind.{feature, feature_but28, area as save_area, freed, other}
use Rattle.table.specs.Verdict.{Verdict}

-- ======== "Page bytes (SEV-SNP Firmware ABI)"

-- "4,096 bytes, little-endian."
abbrev word : List ℕ → ℕ → ℕ
word s o = get_or s o 0 + 256 * get_or s (o + 1) 0 + 65536 * get_or s (o + 2) 0 + 16777216 * get_or s (o + 3) 0

-- "Count: 4 bytes at 0; 12 reserved; 64 entries of 48 bytes from 16; the rest reserved." "Pages are counted from 0."
abbrev pub count : List ℕ → ℕ → ℕ
count s p = word s (4096 * p)

-- "Entry: EAX_IN at 0, ECX_IN 4, XCR0_IN 8 (8 bytes), XSS_IN 16 (8 bytes), EAX 24, EBX 28, ECX 32, EDX 36, 8 reserved at 40. Only the two IN numbers
-- and four results are read."
abbrev pub entry : List ℕ → ℕ → ℕ → Entry
entry s p q = record {
  page = p;
  position = q;
  leaf = function (word s (4096 * p + 16 + 48 * q));
  subleaf = word s (4096 * p + 16 + 48 * q + 4);
  registers =
      cpuid_result (word s (4096 * p + 16 + 48 * q + 24)) (word s (4096 * p + 16 + 48 * q + 28)) (word s (4096 * p + 16 + 48 * q + 32))
      (word s (4096 * p + 16 + 48 * q + 36));
}

-- Document 02, P10: whether "the eight reserved bytes" of an entry are zero
abbrev clean : List ℕ → Entry → Bool
clean s e = every (λ k. eqb (get_or s (4096 * e.page + 16 + 48 * e.position + 40 + k) 0) 0) 8

-- ======== "Corners of snp.rs"

-- "Entries at positions below the page's count are read, pages in order. Empty pages are passed over, also first, last and several running."
-- The n entries of page p from position q on; those of the n pages from p on; all.
unfoldable pub on_page : List ℕ → ℕ → ℕ → ℕ → List Entry
on_page s p q zero = []
on_page s p q (suc n) = entry s p q ∷ on_page s p (suc q) n

unfoldable pub on_pages : List ℕ → ℕ → ℕ → List Entry
on_pages s p zero = []
on_pages s p (suc n) = on_page s p 0 (count s p) ++ on_pages s (suc p) n

abbrev pub read_entries : List ℕ → List Entry
read_entries s = on_pages s 0 (length s / 4096)

-- "Pages are counted from 0. A Dh entry counts only on page 1; on page 0, 2 and later it is skipped. So a single page is never accepted."
abbrev pub counted : List ℕ → List Entry
counted s = keep_if (λ (e : Entry). not (eqb e.leaf.0 0xD) || eqb e.page 1) (read_entries s)

-- "A count above 64 makes the Rust index out of range: refusal 2 here. An empty or uneven length trips its assert: refusal 1." Whether neither is so:
abbrev pub counts_lawful : List ℕ → Bool
counts_lawful s = every (λ p. leb (count s p) 64) (length s / 4096)

abbrev pub length_lawful : List ℕ → Bool
length_lawful s = not (eqb (length s) 0 || not (eqb (length s % 4096) 0))

-- "Topology inputs: s = 80000008h.ECX bits 12-15, nc = its bits 0-7, lps = 1.EBX bits 16-23, mt = 1.EDX bit 28, t = 8000001Eh.EBX bits 8-15. All are
-- read after masking." m has the first entries as masked, by leaf and subleaf.
abbrev pub given : (ℕ → Option ℕ → CpuidResult) → Inputs
given m = record {
  s = (m 0x80000008 None).ecx / 2 ^ 12 % 2 ^ 4;
  nc = (m 0x80000008 None).ecx / 2 ^ 0 % 2 ^ 8;
  lps = (m 0x1 None).ebx / 2 ^ 16 % 2 ^ 8;
  mt = (m 0x1 None).edx / 2 ^ 28 % 2;
  t = (m 0x8000001E None).ebx / 2 ^ 8 % 2 ^ 8;
}

-- refusals 6 and 7, which name s
abbrev pub hyperthreading : ℕ → Verdict
hyperthreading s = Err (TopologyInconsistent (Hyperthreading s))

abbrev pub processor_count : ℕ → Verdict
processor_count s = Err (TopologyInconsistent (ProcessorCount s))

-- "t above 1, or t at least v: refusal 8."
abbrev threads : ℕ → ℕ → Verdict
threads v t = pick (ltb 1 t || leb v t) (Err (TopologyInconsistent ThreadsPerUnit)) (Ok tt)

-- "s = 0, mt = 0: nc must be 0 and lps at most 1, else 6; v = 1. s = 0, mt = 1: lps must equal nc + 1, else 7; v = lps."
-- "s = 1 to 7: v = 2^s; nc + 1 at most v and lps = v, else 7; then mt = 1, else 6. s = 8 to 15: v = 2^s and nothing is compared."
-- "The Rust adds nc + 1 in eight bits and overflows at 255. The AMD manual means 256, and that decides. With s = 1 to 7 the unchecked Rust would
-- accept it." Here nc + 1 is a sum of unbounded numbers.
unfoldable pub topology : Inputs → Verdict
topology i =
    pick (eqb i.s 0)
    (pick (eqb i.mt 0)
    (pick (eqb i.nc 0 && leb i.lps 1) (threads 1 i.t) (hyperthreading i.s))
    (pick (eqb i.lps (i.nc + 1)) (threads i.lps i.t) (processor_count i.s)))
    (pick (ltb i.s 8)
    (pick (leb (i.nc + 1) (2 ^ i.s) && eqb i.lps (2 ^ i.s))
    (pick (eqb i.mt 1) (threads (2 ^ i.s) i.t) (hyperthreading i.s))
    (processor_count i.s))
    (threads (2 ^ i.s) i.t))

-- v of the same sentences
abbrev pub processors : Inputs → ℕ
processors i = pick (eqb i.s 0) (pick (eqb i.mt 0) 1 i.lps) (2 ^ i.s)

-- "SMT is on if t = 1." "B.0 becomes EAX 1 or 0 (SMT on, off), EBX 2 or 1, ECX 100h, EDX 0."
abbrev level_b0 : Inputs → CpuidResult
level_b0 i = pick (eqb i.t 1) (cpuid_result 1 2 0x100 0) (cpuid_result 0 1 0x100 0)

-- "B.1 becomes EAX the shift, EBX v, ECX 201h, EDX 0. As in the Rust, the shift is the place of the highest one bit of v. Where the manuals want
-- another shift, docs/DIFFERENCES.md says so." Document 02, P5: "The shift in B.1 becomes the least k with 2^k at least v": of the n + 1 numbers from
-- k on.
unfoldable pub least_from : ℕ → ℕ → ℕ → ℕ
least_from v k zero = k
least_from v k (suc n) = pick (leb v (2 ^ k)) k (least_from v (suc k) n)

abbrev level_b1 : ℕ → CpuidResult
level_b1 v = cpuid_result (least_from v 0 32) v 0x201 0

-- ======== "Corners of mod.rs"

-- "The first counted, kept entry of a leaf and subleaf wins. A leaf without subleaves takes its first entry for any ECX_IN." Demand 3's section says
-- the same: "A counted entry stands below its page's count and, for leaf Dh, on page 1; pages and positions in order give the first."
abbrev pub is_of : ℕ → Option ℕ → Entry → Bool
is_of l None e = eqb e.leaf.0 l
is_of l (Some k) e = eqb e.leaf.0 l && eqb e.subleaf k

unfoldable pub first : List Entry → ℕ → Option ℕ → Row
first [] l k = vacant
first (e ∷ es) l k = pick (is_of l k e) (row e.registers) (first es l k)

-- "Rows 0 and 80000000h are made here: EAX is `max_function` or `extended_max_function`, the vendor is AMD's (EBX 68747541h, EDX 69746E65h, ECX
-- 444D4163h). Page entries for them are filtered. The two maxima come from x86defs at the same commit, as two named constants; nothing else rests on
-- their value." docs/DECISIONS.md has the maxima, Dh and 8000001Fh.
abbrev made_here : ℕ → CpuidResult
made_here maximum = cpuid_result maximum 0x68747541 0x444D4163 0x69746E65

-- "clear": the bits of c, unless the test holds
abbrev unless : Bool → ℕ → ℕ → ℕ
unless keep c x = pick keep x (bit_and x (0xFFFFFFFF - c))

-- Document 02, P7: "Edition 2 also clears 1.ECX bit 29 and 80000001h.ECX bits 11 (XOP) and 16 (FMA4) when XFEM lacks bit 2." What edition n clears then
-- of 1.ECX and of 80000001h.ECX:
abbrev pub version_clears : ℕ → ℕ
version_clears n = pick (eqb n 2) (0x10001000 + 2 ^ 29) 0x10001000

abbrev pub extended_clears : ℕ → ℕ
extended_clears n = pick (eqb n 2) (2 ^ 11 + 2 ^ 16) 0

-- m has the first entries as masked, by leaf and subleaf
module _ (m : ℕ → Option ℕ → CpuidResult) where
  -- "D.0.EAX gets bits 0 and 1 set after masking. XFEM is then D.0.EAX."
  abbrev pub xfem : ℕ
  xfem = bit_or (m 0xD (Some 0)).eax (2 ^ 0 + 2 ^ 1)

  -- "XSS is D.1.ECX if D.1.EAX has both bit 1 (XSAVEC) and bit 3 (XSAVES), else 0."
  abbrev pub xss : ℕ
  xss = pick (has 1 (m 0xD (Some 1)).eax && has 3 (m 0xD (Some 1)).eax) (m 0xD (Some 1)).ecx 0

  -- "The combined mask is XFEM or XSS; after masking only bits 0, 1, 2, 5, 6, 7, 11, 12 can be set. It is part of the result."
  abbrev pub combined : ℕ
  combined = bit_or xfem xss

  -- "Each combined bit from 2 up needs its subleaf. Subleaves from 2 up without their bit are dropped."
  abbrev pub stays : ℕ → Bool
  stays k = has k combined

  -- "D.0.ECX becomes the largest of 576 and EAX + EBX over subleaves from 2 up in XFEM, not in XSS." Here over the n subleaves from 2 on.
  unfoldable pub area : ℕ → ℕ
  area zero = 576
  area (suc n) = max (area n) (pick (has (2 + n) xfem) ((m 0xD (Some (2 + n))).eax + (m 0xD (Some (2 + n))).ebx) 0)

  -- "A sum above 4,294,967,295 makes the checked Rust panic: refusal 5."
  abbrev pub fits : Bool
  fits = ltb (area 62) 4294967296

  abbrev row_d0 : CpuidResult
  row_d0 = cpuid_result xfem (m 0xD (Some 0)).ebx (area 62) (m 0xD (Some 0)).edx

  -- "If XSS is 0, D.1.ECX and D.1.EDX become 0."
  abbrev row_d1 : CpuidResult
  row_d1 =
      cpuid_result (m 0xD (Some 1)).eax (m 0xD (Some 1)).ebx (pick (eqb xss 0) 0 (m 0xD (Some 1)).ecx) (pick (eqb xss 0) 0 (m 0xD (Some 1)).edx)

  -- "Unless XSS has bits 11 and 12 both, 7.0.ECX bit 7 (CET_SS) is cleared."
  abbrev cet : Bool
  cet = has 11 xss && has 12 xss

  -- "Without XFEM bit 2: clear 1.ECX 10001000h, 7.0.EBX 20h, 7.0.ECX 700h. Without it, or without bits 5, 6 and 7 all: clear 7.0.EBX D0230000h,
  -- 7.0.ECX 5842h, 7.0.EDX 800100h. Nothing else is cleared for this."
  abbrev ymm : Bool
  ymm = has 2 xfem

  abbrev pub avx512 : Bool
  avx512 = has 2 xfem && (has 5 xfem && (has 6 xfem && has 7 xfem))

  -- "Without 8000001Fh.EAX bit 9, 80000001h.EDX bit 27 and 7.0.ECX bit 22 are cleared."
  abbrev tsc_aux : Bool
  tsc_aux = has 9 (m 0x8000001F None).eax

  -- "1.ECX bit 31 is set." Here and in row 80000001h, n is the edition.
  abbrev row1 : ℕ → CpuidResult
  row1 n =
      cpuid_result (m 0x1 None).eax (m 0x1 None).ebx
      (bit_or (unless ymm (version_clears n) (m 0x1 None).ecx) (2 ^ 31))
      (m 0x1 None).edx

  abbrev row7 : CpuidResult
  row7 =
      cpuid_result (m 0x7 (Some 0)).eax
      (unless avx512 0xD0230000 (unless ymm 0x20 (m 0x7 (Some 0)).ebx))
      (unless tsc_aux (2 ^ 22) (unless avx512 0x5842 (unless ymm 0x700 (unless cet (2 ^ 7) (m 0x7 (Some 0)).ecx))))
      (unless avx512 0x800100 (m 0x7 (Some 0)).edx)

  abbrev row80000001 : ℕ → CpuidResult
  row80000001 n =
      cpuid_result (m 0x80000001 None).eax (m 0x80000001 None).ebx
      (unless ymm (extended_clears n) (m 0x80000001 None).ecx)
      (unless tsc_aux (2 ^ 27) (m 0x80000001 None).edx)

  -- "80000008h.EBX: bit 29 (BTC_NO) is set; without bit 12 (IBPB), bits 14 and 15 are cleared."
  abbrev row80000008 : CpuidResult
  row80000008 =
      cpuid_result (m 0x80000008 None).eax
      (unless (has 12 (m 0x80000008 None).ebx) (2 ^ 14 + 2 ^ 15) (bit_or (m 0x80000008 None).ebx (2 ^ 29)))
      (m 0x80000008 None).ecx (m 0x80000008 None).edx

-- ======== "Corners of masking.rs"

-- a kept leaf, its subleaf or none, and the masks of EAX, EBX, ECX and EDX
pub record Mask : Type 0 where
  pub leaf : ℕ
  pub subleaf : Option ℕ
  pub masks : CpuidResult

abbrev mask : ℕ → Option ℕ → CpuidResult → Mask
mask l k r = record { leaf = l; subleaf = k; masks = r }

-- all 32 bits of a register
abbrev all : ℕ
all = 0xFFFFFFFF

abbrev joined : (ℕ → ℕ → ℕ) → CpuidResult → CpuidResult → CpuidResult
joined f r q = cpuid_result (f r.eax q.eax) (f r.ebx q.ebx) (f r.ecx q.ecx) (f r.edx q.edx)

-- "Kept: leaves 1, 5, 7.0, B.0, B.1, D.0 to D.63, 80000001h to 80000008h, 8000000Ah, 80000019h, 8000001Ah, 8000001Dh.0 to .3, 8000001Eh, 8000001Fh.
-- All others are filtered." "80000001h and 80000008h get both their masks, joined by or. The secure-AVIC choice, yes or no, adds one bit to
-- 8000001Fh.EAX." "Names are in 001 and 002; places of bits come from AMD64 APM volume 3, Intel SDM where it has none, and are compared with x86defs;
-- where they differ x86defs decides and docs/DIFFERENCES.md says so. Check: 1.ECX 7EDA3203h, 1.EDX 178BFBFFh, D.0.EAX E7h, D.1.EAX Bh, D.1.ECX
-- 1800h." All but D.2 to D.63:
abbrev pub kept : Bool → List Mask
kept avic =
    mask 0x1 None (cpuid_result 0x0FFF3FFF all 0x7EDA3203 0x178BFBFF)
    ∷ mask 0x5 None (cpuid_result all all all all)
    ∷ mask 0x7 (Some 0) (cpuid_result all 0xF1BF27A9 0x1A405FE6 0x00804110)
    ∷ mask 0xB (Some 0) (cpuid_result all all all all)
    ∷ mask 0xB (Some 1) (cpuid_result all all all all)
    ∷ mask 0xD (Some 0) (cpuid_result 0xE7 all all 0)
    ∷ mask 0xD (Some 1) (cpuid_result 0xB all 0x1800 0)
    ∷ mask 0x80000001 None (joined bit_or (cpuid_result 0x0FFF3FFF 0xF000FFFF 0x00410DF3 0xEDD3FBFF) (cpuid_result 0 0 0 0x02000000))
    ∷ mask 0x80000002 None (cpuid_result all all all all)
    ∷ mask 0x80000003 None (cpuid_result all all all all)
    ∷ mask 0x80000004 None (cpuid_result all all all all)
    ∷ mask 0x80000005 None (cpuid_result all all all all)
    ∷ mask 0x80000006 None (cpuid_result all all all all)
    ∷ mask 0x80000007 None (cpuid_result all all all all)
    ∷ mask 0x80000008 None (joined bit_or (cpuid_result 0xFFFF 0 0 0) (cpuid_result 0 0x3112D21F 0xF0FF all))
    ∷ mask 0x8000000A None (cpuid_result 0xFF 0 0 0)
    ∷ mask 0x80000019 None (cpuid_result all all 0 0)
    ∷ mask 0x8000001A None (cpuid_result 0x7 0 0 0)
    ∷ mask 0x8000001D (Some 0) (cpuid_result all all all all)
    ∷ mask 0x8000001D (Some 1) (cpuid_result all all all all)
    ∷ mask 0x8000001D (Some 2) (cpuid_result all all all all)
    ∷ mask 0x8000001D (Some 3) (cpuid_result all all all all)
    ∷ mask 0x8000001E None (cpuid_result all all all 0)
    ∷ mask 0x8000001F None (cpuid_result (0x27F + pick avic (2 ^ 26) 0) 0xFFFF all all)
    ∷ []

abbrev same_subleaf : Option ℕ → Option ℕ → Bool
same_subleaf None None = true
same_subleaf None (Some k) = false
same_subleaf (Some j) None = false
same_subleaf (Some j) (Some k) = eqb j k

-- the masks of a leaf and subleaf; 0, where there are none, is never asked for
abbrev masks_in : List Mask → ℕ → Option ℕ → CpuidResult
masks_in [] l k = cpuid_result 0 0 0 0
masks_in (x ∷ xs) l k = pick (eqb x.leaf l && same_subleaf x.subleaf k) x.masks (masks_in xs l k)

-- D.2 to D.63: every bit
abbrev pub from_d2 : ℕ → Option ℕ → Bool
from_d2 l None = false
from_d2 l (Some k) = eqb l 0xD && (leb 2 k && leb k 63)

-- whether a leaf and subleaf are kept: D.2 to D.63 and those of the list
abbrev listed : List Mask → ℕ → Option ℕ → Bool
listed [] l k = false
listed (x ∷ xs) l k = (eqb x.leaf l && same_subleaf x.subleaf k) || listed xs l k

abbrev pub is_kept : ℕ → Option ℕ → Bool
is_kept l k = from_d2 l k || listed (kept false) l k

abbrev pub masks_of : Bool → ℕ → Option ℕ → CpuidResult
masks_of avic l k = pick (from_d2 l k) (cpuid_result all all all all) (masks_in (kept avic) l k)

-- "Each kept register is joined with its mask by and." e has the first counted entries, by leaf and subleaf.
abbrev pub masked : Bool → (ℕ → Option ℕ → CpuidResult) → ℕ → Option ℕ → CpuidResult
masked avic e l k = joined bit_and (e l k) (masks_of avic l k)

-- ======== The table: "An accepted table has 17 rows without subleaf, 9 with, and one for each combined bit from 2 up: 26 to 32."

-- a row of the table: its leaf, its subleaf or none, whether it is there, and its registers
pub record Line : Type 0 where
  pub leaf : ℕ
  pub subleaf : Option ℕ
  pub row : Row

abbrev line : ℕ → Option ℕ → CpuidResult → Line
line l k r = record { leaf = l; subleaf = k; row = row r }

-- the rows by rising leaf and subleaf, as document 02's P1 wants them; v is the number of processors, `there` says which of D.2 to D.63 stay
module _ (n : ℕ) (m : ℕ → Option ℕ → CpuidResult) where
  abbrev pub lines_with : ℕ → (ℕ → Bool) → List Line
  lines_with v there =
      line 0x0 None (made_here 0xD)
      ∷ line 0x1 None (row1 m n)
      ∷ line 0x5 None (m 0x5 None)
      ∷ line 0x7 (Some 0) (row7 m)
      ∷ line 0xB (Some 0) (level_b0 (given m))
      ∷ line 0xB (Some 1) (level_b1 v)
      ∷ line 0xD (Some 0) (row_d0 m)
      ∷ line 0xD (Some 1) (row_d1 m)
      ∷ tabulate 62 (λ j. record { leaf = 0xD; subleaf = Some (2 + j); row = pick (there (2 + j)) (row (m 0xD (Some (2 + j)))) vacant })
      ++ line 0x80000000 None (made_here 0x8000001F)
      ∷ line 0x80000001 None (row80000001 m n)
      ∷ line 0x80000002 None (m 0x80000002 None)
      ∷ line 0x80000003 None (m 0x80000003 None)
      ∷ line 0x80000004 None (m 0x80000004 None)
      ∷ line 0x80000005 None (m 0x80000005 None)
      ∷ line 0x80000006 None (m 0x80000006 None)
      ∷ line 0x80000007 None (m 0x80000007 None)
      ∷ line 0x80000008 None (row80000008 m)
      ∷ line 0x8000000A None (m 0x8000000A None)
      ∷ line 0x80000019 None (m 0x80000019 None)
      ∷ line 0x8000001A None (m 0x8000001A None)
      ∷ line 0x8000001D (Some 0) (m 0x8000001D (Some 0))
      ∷ line 0x8000001D (Some 1) (m 0x8000001D (Some 1))
      ∷ line 0x8000001D (Some 2) (m 0x8000001D (Some 2))
      ∷ line 0x8000001D (Some 3) (m 0x8000001D (Some 3))
      ∷ line 0x8000001E None (m 0x8000001E None)
      ∷ line 0x8000001F None (m 0x8000001F None)
      ∷ []

-- of the first counted entries e
abbrev pub lines : ℕ → Bool → (ℕ → Option ℕ → CpuidResult) → List Line
lines n avic e = lines_with n (masked avic e) (processors (given (masked avic e))) (stays (masked avic e))

-- of page bytes, under what the caller chooses: the first entries, the rows and the combined mask
abbrev pub entry_of : List ℕ → ℕ → Option ℕ → CpuidResult
entry_of s l k = (first (counted s) l k).result

abbrev pub lines_of : Choices → List ℕ → List Line
lines_of chosen s = lines chosen.edition chosen.secure_avic (entry_of s)

abbrev pub combined_of : Choices → List ℕ → ℕ
combined_of chosen s = combined (masked chosen.secure_avic (entry_of s))

-- a row without subleaf
abbrev pub without : Option ℕ → Bool
without None = true
without (Some k) = false

-- n and the rows that pass a test, counted
abbrev pub count_from : ℕ → (Line → Bool) → List Line → ℕ
count_from n test [] = n
count_from n test (l ∷ ls) = count_from (n + one (test l)) test ls

-- the combined bits from 2 up, counted
abbrev pub further_bits : ℕ → ℕ
further_bits x = sum_to (λ k. one (has (2 + k) x)) 62

-- the whole table
abbrev pub table_with : ℕ → List Line → CpuidResults
table_with x ls = record {
  present = map (λ (l : Line). l.row.present) ls;
  results = map (λ (l : Line). l.row.result) ls;
  row_count = count_from 0 (λ l. l.row.present) ls;
  max_extended_state = x;
}

-- each column of a table by itself, register by register
pub record Equations (chosen : Choices) (s : List ℕ) (t : CpuidResults) : Type 0 where
  pub present : t.present ≡ map (λ (l : Line). l.row.present) (lines_of chosen s)
  pub eax : map (λ (r : CpuidResult). r.eax) t.results ≡ map (λ (l : Line). l.row.result.eax) (lines_of chosen s)
  pub ebx : map (λ (r : CpuidResult). r.ebx) t.results ≡ map (λ (l : Line). l.row.result.ebx) (lines_of chosen s)
  pub ecx : map (λ (r : CpuidResult). r.ecx) t.results ≡ map (λ (l : Line). l.row.result.ecx) (lines_of chosen s)
  pub edx : map (λ (r : CpuidResult). r.edx) t.results ≡ map (λ (l : Line). l.row.result.edx) (lines_of chosen s)
  pub rows : t.row_count ≡ count_from 0 (λ l. l.row.present) (lines_of chosen s)
  pub mask : t.max_extended_state ≡ combined_of chosen s

-- ======== "Where each check stands"

-- "Place, in order": the first check that fails decides
infixr 5 ◌then◌
abbrev pub ◌then◌ : Verdict → Verdict → Verdict
◌then◌ (Ok tt) v = v
◌then◌ (Err r) v = Err r

abbrev given_unless : Bool → Refusal → Verdict
given_unless ok r = pick ok (Ok tt) (Err r)

-- a leaf and its subleaf or none
pub record Name : Type 0 where
  pub leaf : ℕ
  pub subleaf : Option ℕ

abbrev pub name : ℕ → Option ℕ → Name
name l k = record { leaf = l; subleaf = k }

-- 3: "`COMMON_REQUIRED_LEAVES`, then `SNP_REQUIRED_LEAVES`, in list order"
abbrev pub required : List Name
required =
    name 0x1 None
    ∷ name 0x5 None
    ∷ name 0x7 (Some 0)
    ∷ name 0xB (Some 0)
    ∷ name 0xB (Some 1)
    ∷ name 0x80000001 None
    ∷ name 0x80000005 None
    ∷ name 0x80000006 None
    ∷ name 0x80000007 None
    ∷ name 0x80000008 None
    ∷ name 0x80000002 None
    ∷ name 0x80000003 None
    ∷ name 0x80000004 None
    ∷ name 0xD (Some 0)
    ∷ name 0xD (Some 1)
    ∷ name 0x8000001F None
    ∷ name 0x8000000A None
    ∷ name 0x80000019 None
    ∷ name 0x8000001A None
    ∷ name 0x8000001D (Some 0)
    ∷ name 0x8000001D (Some 1)
    ∷ name 0x8000001D (Some 2)
    ∷ name 0x8000001D (Some 3)
    ∷ name 0x8000001E None
    ∷ []

-- f: the first counted entry of a leaf and subleaf, if there is one
module _ (avic : Bool) (f : ℕ → Option ℕ → Row) where
  -- as masked
  abbrev pub as_masked : ℕ → Option ℕ → CpuidResult
  as_masked = masked avic (λ l k. (f l k).result)

  -- 3: "no such row; names leaf and subleaf"
  abbrev pub first_missing : List Name → Verdict
  first_missing [] = Ok tt
  first_missing (n ∷ ns) = pick (f n.leaf n.subleaf).present (first_missing ns) (Err (MissingRequiredResult (function n.leaf) n.subleaf))

  -- 3: "extended state, ascending", "a needed D subleaf is absent": the n subleaves from k on. "Refusal 3 names the lowest needed subleaf without an
  -- entry; 5 is given where none is missing and a masked EAX + EBX over B's XFEM from 2 up is too large." (demand 3's section)
  unfoldable pub components : ℕ → ℕ → Verdict
  components k zero = Ok tt
  components k (suc n) =
      pick (pick (stays as_masked k) (f 0xD (Some k)).present true) (components (suc k) n)
      (Err (MissingRequiredResult (function 0xD) (Some k)))

  -- 3; 4, "after these", "80000008h.EBX bit 3 (INVLPGB) clear"; 3; 5, "area size", "a sum overflows"; 6, 7, 8, "topology, as above", "6
  -- `Hyperthreading`, 7 `ProcessorCount`, both with s; 8 `ThreadsPerUnit`"
  abbrev pub rows_verdict : Verdict
  rows_verdict =
      first_missing required
      then (given_unless (has 3 (as_masked 0x80000008 None).ebx) InvlpgbUnavailable
      then (components 2 62
      then (given_unless (fits as_masked) SaveAreaOverflow
      then topology (given as_masked))))

-- 17, document 02, P10: "naming leaf EAX_IN with no subleaf, first in page and entry order, after 2 and before 3"
unfoldable pub first_unclean : List ℕ → List Entry → Verdict
first_unclean s [] = Ok tt
first_unclean s (e ∷ es) = pick (clean s e) (first_unclean s es) (Err (ReservedBytes e.leaf))

-- 15, document 02, P7: "an edition other than 1 or 2, before 1"; 1, "length", "0, or not a multiple of 4,096"; 2, "counts", "some page's count is
-- above 64"; 17; 3 to 8
abbrev pub verdict : Choices → List ℕ → Verdict
verdict chosen s =
    given_unless (eqb chosen.edition 1 || eqb chosen.edition 2) UnknownEdition
    then (given_unless (length_lawful s) PagesLength
    then (given_unless (counts_lawful s) PageCount
    then (first_unclean s (read_entries s)
    then rows_verdict chosen.secure_avic (first (counted s)))))

-- "A refusal carries leaf, subleaf or none, and s; those not named are 0 or none." Numbers from 10 up are document 02's.
abbrev numbered : ℕ → ℕ → Option ℕ → ℕ → Details
numbered n l k s = record { number = n; leaf = l; subleaf = k; s = s }

abbrev pub carried : Refusal → Details
carried PagesLength = numbered 1 0 None 0
carried PageCount = numbered 2 0 None 0
carried (MissingRequiredResult l k) = numbered 3 l.0 k 0
carried InvlpgbUnavailable = numbered 4 0 None 0
carried SaveAreaOverflow = numbered 5 0 None 0
carried (TopologyInconsistent (Hyperthreading s)) = numbered 6 0 None s
carried (TopologyInconsistent (ProcessorCount s)) = numbered 7 0 None s
carried (TopologyInconsistent ThreadsPerUnit) = numbered 8 0 None 0
carried BufferTooShort = numbered 9 0 None 0
carried ListLength = numbered 10 0 None 0
carried ListRows = numbered 11 0 None 0
carried ListFields = numbered 12 0 None 0
carried StateBeyondTable = numbered 13 0 None 0
carried CompactSizeTooLarge = numbered 14 0 None 0
carried UnknownEdition = numbered 15 0 None 0
carried EditionBack = numbered 16 0 None 0
carried (ReservedBytes l) = numbered 17 l.0 None 0
carried PoolSets = numbered 18 0 None 0
carried PoolDiffers = numbered 19 0 None 0
carried NothingDecides = numbered 20 0 None 0

-- "Its table has row count 0, all rows zero and mask 0."
abbrev pub table_after : Verdict → CpuidResults → CpuidResults
table_after (Ok _) t = t
table_after (Err r) t =
    record { present = replicate 88 false; results = replicate 88 (cpuid_result 0 0 0 0); row_count = 0; max_extended_state = 0 }

abbrev pub table : Choices → List ℕ → CpuidResults
table chosen s = table_after (verdict chosen s) (table_with (combined_of chosen s) (lines_of chosen s))

-- ======== "Feature registers of demand 3"

-- "Length and counts are lawful where neither 1 nor 2 applies; a set is accepted where building refuses nothing, and the tables and refusals demand 3
-- speaks of are the port's, each the one that demand 2's definition gives. B's own XFEM, XSS and combined mask are what the rules above make of its
-- masked first entries D.0 and D.1, also where B is refused." P10: "the pages of P9 and of servers A and B must be clean".
abbrev pub lawful : List ℕ → Verdict
lawful s = given_unless (length_lawful s) PagesLength then (given_unless (counts_lawful s) PageCount then first_unclean s (read_entries s))

-- "Should the mask leave D.1.EDX any bit, then where A's XSS is 0 its D.1.EDX was cleared, and B's is its masked entry if B's XSS isn't 0: the one
-- exception to equal registers." The mask leaves it none (`kept`), so there is no exception.
-- the kinds of EAX, EBX, ECX and EDX of a row
pub record Kinded : Type 0 where
  pub leaf : ℕ
  pub subleaf : Option ℕ
  pub kinds : Kinds

abbrev kinded : ℕ → Option ℕ → Kinds → Kinded
kinded l k t = record { leaf = l; subleaf = k; kinds = t }

-- "1.ECX; 1.EDX but bit 28; 7.0.EBX, ECX, EDX; 80000001h.ECX, EDX; 80000008h.EBX; D.0.EAX; D.1.EAX, ECX; 8000001Ah.EAX; 8000001Fh.EAX. The combined
-- mask counts as one. The save area is D.0.ECX. Freed, so that entries may differ: D.0.ECX and all of B.0 and B.1." Of rows 0 and 80000000h, which
-- are made here, no entry is asked.
abbrev pub registers : List Kinded
registers =
    kinded 0x0 None (kinds freed freed freed freed)
    ∷ kinded 0x1 None (kinds other other feature feature_but28)
    ∷ kinded 0x5 None (kinds other other other other)
    ∷ kinded 0x7 (Some 0) (kinds other feature feature feature)
    ∷ kinded 0xB (Some 0) (kinds freed freed freed freed)
    ∷ kinded 0xB (Some 1) (kinds freed freed freed freed)
    ∷ kinded 0xD (Some 0) (kinds feature other save_area other)
    ∷ kinded 0xD (Some 1) (kinds feature other feature other)
    ∷ tabulate 62 (λ j. kinded 0xD (Some (2 + j)) (kinds other other other other))
    ++ kinded 0x80000000 None (kinds freed freed freed freed)
    ∷ kinded 0x80000001 None (kinds other other feature feature)
    ∷ kinded 0x80000002 None (kinds other other other other)
    ∷ kinded 0x80000003 None (kinds other other other other)
    ∷ kinded 0x80000004 None (kinds other other other other)
    ∷ kinded 0x80000005 None (kinds other other other other)
    ∷ kinded 0x80000006 None (kinds other other other other)
    ∷ kinded 0x80000007 None (kinds other other other other)
    ∷ kinded 0x80000008 None (kinds other feature other other)
    ∷ kinded 0x8000000A None (kinds other other other other)
    ∷ kinded 0x80000019 None (kinds other other other other)
    ∷ kinded 0x8000001A None (kinds feature other other other)
    ∷ kinded 0x8000001D (Some 0) (kinds other other other other)
    ∷ kinded 0x8000001D (Some 1) (kinds other other other other)
    ∷ kinded 0x8000001D (Some 2) (kinds other other other other)
    ∷ kinded 0x8000001D (Some 3) (kinds other other other other)
    ∷ kinded 0x8000001E None (kinds other other other other)
    ∷ kinded 0x8000001F None (kinds feature other other other)
    ∷ []

-- ======== "Image and lookup"

abbrev pub little : ℕ → List ℕ
little n = n % 256 ∷ n / 256 % 256 ∷ n / 65536 % 256 ∷ n / 16777216 % 256 ∷ []

-- "Added here: byte 1, then leaf, EAX, EBX, ECX, EDX (4 bytes each, little-endian) for a row without subleaf; byte 2, leaf, subleaf and the four for
-- one with."
abbrev row_bytes : ℕ → Option ℕ → CpuidResult → List ℕ
row_bytes l None r = 1 ∷ little l ++ little r.eax ++ little r.ebx ++ little r.ecx ++ little r.edx
row_bytes l (Some k) r = 2 ∷ little l ++ little k ++ little r.eax ++ little r.ebx ++ little r.ecx ++ little r.edx

abbrev line_bytes : Line → List ℕ
line_bytes l = pick l.row.present (row_bytes l.leaf l.subleaf l.row.result) []

-- "Leaves stand in any order, as in `to_leaves`; subleaves of a leaf ascend." Document 02, P1: "Rows of the image shall ascend by leaf as an unsigned
-- number, then by subleaf."
abbrev pub written : List Line → List ℕ
written [] = []
written (l ∷ ls) = line_bytes l ++ written ls

-- "Length 582 + 25 for each combined bit from 2 up, which a successful write returns. Bytes beyond it stay." "Writing starts from pages and gives
-- building's refusals before 9." 9: "writing", "lent buffer shorter than the image"; "a refused write changes no lent byte" (demand 1)
abbrev pub wrote : Verdict → List ℕ → List ℕ → AfterWrite
wrote (Ok _) bytes buffer =
    pick (leb (length bytes) (length buffer))
    (record { answer = Ok (length bytes); buffer = bytes ++ drop (length bytes) buffer })
    (record { answer = Err BufferTooShort; buffer = buffer })
wrote (Err r) bytes buffer = record { answer = Err r; buffer = buffer }

-- "Lookup answers as `leaf_result_ref`, enforcing or not; in a refused table it finds nothing.": a row without subleaf where the caller names none or
-- does not enforce, one with where the caller names it
abbrev pub asked : ℕ → Option ℕ → Bool → Option ℕ → ℕ → Bool
asked l None enforce None k = eqb k l
asked l (Some j) enforce None k = eqb k l && not enforce
asked l None enforce (Some h) k = false
asked l (Some j) enforce (Some h) k = eqb k l && eqb j h

abbrev pub find : List Line → ℕ → Option ℕ → Bool → Option CpuidResult
find [] l k enforce = None
find (r ∷ rs) l k enforce = pick (asked l k enforce r.subleaf r.leaf) (pick r.row.present (Some r.row.result) None) (find rs l k enforce)

abbrev pub find_after : Verdict → List Line → ℕ → Option ℕ → Bool → Option CpuidResult
find_after (Ok _) rs l k enforce = find rs l k enforce
find_after (Err r) rs l k enforce = None

abbrev pub subleaf_or : Option ℕ → ℕ
subleaf_or None = 0xFFFFFFFF
subleaf_or (Some k) = k

-- "A program reads up to 65,536 bytes, secure AVIC off, and writes the image; on a refusal, byte 3, the number (1 byte), leaf, subleaf (4 bytes each,
-- little-endian, none FFFFFFFFh), s (1 byte); on longer input, byte 4." Document 02, P7: "The program keeps edition 1."
abbrev refusal_bytes : Details → List ℕ
refusal_bytes d = 3 ∷ d.number ∷ little d.leaf ++ little (subleaf_or d.subleaf) ++ (d.s ∷ [])

abbrev pub answer_bytes : Verdict → List ℕ → List ℕ
answer_bytes (Ok _) bytes = bytes
answer_bytes (Err r) bytes = refusal_bytes (carried r)

abbrev pub programs : Choices
programs = record { secure_avic = false; edition = 1 }

abbrev pub program : List ℕ → List ℕ
program s = pick (leb (length s) 65536) (answer_bytes (verdict programs s) (written (lines_of programs s))) (4 ∷ [])
