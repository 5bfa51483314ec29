-- Page sets, written entry by entry: document 01, "Page bytes".
use Rattle.std.specs.Prelude.{List, [], ◌∷◌, ◌++◌, ℕ, ◌-◌, ◌/◌, ◌%◌, length, replicate}

abbrev pub word : ℕ → List ℕ
word n = n % 256 ∷ n / 256 % 256 ∷ n / 65536 % 256 ∷ n / 16777216 % 256 ∷ []

-- EAX_IN, ECX_IN, then EAX, EBX, ECX, EDX
abbrev pub entry : ℕ → ℕ → ℕ → ℕ → ℕ → ℕ → List ℕ
entry leaf subleaf a b c d = word leaf ++ word subleaf ++ replicate 16 0 ++ word a ++ word b ++ word c ++ word d ++ replicate 8 0

abbrev pub page : ℕ → List ℕ → List ℕ
page count entries = word count ++ replicate 12 0 ++ entries ++ replicate (4080 - length entries) 0

-- every required leaf but Dh, with the given 1.ECX, 7.0.EBX and 8000001Fh.EAX; one processor
abbrev pub required_entries : ℕ → ℕ → ℕ → List ℕ
required_entries version_ecx features_ebx sevEax =
    entry 1 0 0xA00F11 0x10000 version_ecx 0x178BFBFF
    ++ entry 5 0 0x40 0x40 3 0x11
    ++ entry 7 0 0 features_ebx 0x40069C 0x10
    ++ entry 0xB 0 0 0 0 0
    ++ entry 0xB 1 0 0 0 0
    ++ entry 0x80000001 0 0xA00F11 0x40000000 0x4003F3 0x2FD3FBFF
    ++ entry 0x80000002 0 1 2 3 4
    ++ entry 0x80000003 0 5 6 7 8
    ++ entry 0x80000004 0 9 10 11 12
    ++ entry 0x80000005 0 0xFF40FF40 0xFF40FF40 0x20080140 0x20080140
    ++ entry 0x80000006 0 0x48002200 0x68004200 0x2006140 0x8009140
    ++ entry 0x80000007 0 0 0x3B 0 0x6799
    ++ entry 0x80000008 0 0x3030 0x111ED21F 0 0x10007
    ++ entry 0x8000000A 0 1 0x8000 0 0x119B9CFF
    ++ entry 0x80000019 0 0xF040F040 0xF0400000 0 0
    ++ entry 0x8000001A 0 6 0 0 0
    ++ entry 0x8000001D 0 0x121 0x1C0003F 0x3F 0
    ++ entry 0x8000001D 1 0x122 0x1C0003F 0x3F 0
    ++ entry 0x8000001D 2 0x143 0x1C0003F 0x3FF 2
    ++ entry 0x8000001D 3 0x163 0x3C0003F 0x7FFF 1
    ++ entry 0x8000001E 0 0 0 0 0
    ++ entry 0x8000001F 0 sevEax 0x4173 0x1FD 1

-- page 0 of these
abbrev pub first_page : ℕ → ℕ → ℕ → List ℕ
first_page version_ecx features_ebx sevEax = page 22 (required_entries version_ecx features_ebx sevEax)

-- D.0 with its EAX, D.1 with its EAX and ECX, D.2
abbrev pub state_entries : ℕ → ℕ → ℕ → List ℕ
state_entries xfem xsaves xss = entry 0xD 0 xfem 0x340 0x340 0 ++ entry 0xD 1 xsaves 0x340 xss 0 ++ entry 0xD 2 0x100 0x240 0 0

-- D.5, D.6 with the given size, D.7: the AVX-512 components
abbrev avx512_entries : ℕ → List ℕ
avx512_entries size = entry 0xD 5 0x40 0x340 0 0 ++ entry 0xD 6 size 0x380 0 0 ++ entry 0xD 7 0x400 0x580 0 0

-- server A: AVX state alone
unfoldable pub server_a : List ℕ
server_a = first_page 0x3ED83203 0x219C07A9 0x3F ++ page 3 (state_entries 0x7 0x7 0)

-- server W: the same without YMM state, and so without D.2
unfoldable pub server_w : List ℕ
server_w = first_page 0x3ED83203 0x219C07A9 0x3F ++ page 2 (entry 0xD 0 0x3 0x340 0x340 0 ++ entry 0xD 1 0x7 0x340 0 0)

-- server A with an entry before its others on page 0
abbrev pub with_first : List ℕ → List ℕ
with_first e = page 23 (e ++ required_entries 0x3ED83203 0x219C07A9 0x3F) ++ page 3 (state_entries 0x7 0x7 0)

-- server B: AVX-512 and CET state besides, more bits in 1.ECX, 7.0.EBX and 8000001Fh.EAX
unfoldable pub server_b : List ℕ
server_b =
    first_page 0x7EDA3203 0xF1BF07A9 0x27F
    ++ page 8 (state_entries 0xE7 0xF 0x1800 ++ avx512_entries 0x200 ++ entry 0xD 11 0x10 0 1 0 ++ entry 0xD 12 0x18 0 1 0)

-- the same, without D.12
unfoldable pub server_without_d12 : List ℕ
server_without_d12 =
    first_page 0x7EDA3203 0xF1BF07A9 0x27F ++ page 7 (state_entries 0xE7 0xF 0x1800 ++ avx512_entries 0x200 ++ entry 0xD 11 0x10 0 1 0)

-- the same as B, with a D.6 that is too large
unfoldable pub server_with_large_d6 : List ℕ
server_with_large_d6 =
    first_page 0x7EDA3203 0xF1BF07A9 0x27F
    ++ page 8 (state_entries 0xE7 0xF 0x1800 ++ avx512_entries 0xFFFFFFFF ++ entry 0xD 11 0x10 0 1 0 ++ entry 0xD 12 0x18 0 1 0)
