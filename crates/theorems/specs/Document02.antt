-- Document 02's figures: where each is said.
--
-- Each stands in a theorem or an instance in literal numbers, so that it cannot change in definition and code together unseen. What only a definition
-- said is said below once more.
--
--   P1   rows ascend by leaf, then subleaf            `rows_ascend` (BuildingTheorems), the list of rows itself (crates/letter/specs/Paper.antt)
--   P2   8 + 40 bytes, 64 rows, 8,192 bytes, flags    `kvm_reads_exactly`, `flags_by_place`, `indexes_by_place`, `row_of_d_2_listed`, `two_rows_read`
--                                                     (ListTheorems); the words of a row, `list_words` below
--   P3   bits 24-31, 27 and 26; 576, 64 and bit 1     `no_other_register_differs` (GuestTheorems); sizes, 13 and places below
--   P5   the least k with 2^k at least v              `shift_is_least` (TopologyTheorems), `table_by_the_letter` (Document01)
--   P6   digits, spaces and newline; what is named    `missing_d12_line`, `longest_length`, `line_of_7` and more (LineTheorems),
--                                                     `numbers_by_the_letter` (Document01)
--   P7   1.ECX bit 29, 80000001h.ECX bits 11 and 16   `edition_2_clears` (EditionTheorems), `table_by_the_letter` (Document01)
--   P8   the same bits; 15, 16, 13, 14                `carrying_clears_exactly`, `each_carry_exactly` (EditionTheorems)
--   P9   refused by 4 to 8                            `added_entries_change_nothing` (RiseTheorems)
--   P10  bytes 40 to 47; 17 after 2 and before 3      `verdict_by_the_letter` (Document01)
--   P11  made here: 0, 80000000h, B.0 and B.1         below, with the numbers of origins
--   P12  2 to 16 servers                              `each_pool_answer_exactly` (PoolTheorems); how registers are joined and held equal, below
--   P13  page, entry, register, bit from 0            below, with the byte that is flipped
--   P14  1,019, 511 and 508, 5,095 bytes              `topologies_1019`, `topologies_5095_bytes` (TopologyTheorems); which inputs are accepted, below
use Rattle.std.specs.Prelude.{◌≡◌, refl, Bool, true, false, ◌&&◌, ◌||◌, List, [], ◌∷◌, ◌++◌, map, ℕ, zero, suc, ◌+◌, ◌*◌, ◌/◌, ◌%◌, ◌^◌, max, eqb, leb, get_or, set, None, Some}
use Rattle.std.proofs.Common.{ap, ◌∙◌}
use Rattle.std.specs.Int.Bits.{bit_and, bit_or, bit_xor}
use Rattle.bits.specs.Choice.{pick}
use Rattle.bits.specs.Bits.{bit, has}
use Rattle.bits.specs.Lists.{tabulate, keep_if}
use Rattle.x86defs.specs.declared.CpuidResult.{CpuidResult}
use Rattle.x86defs.specs.Functions.{cpuid_result}
use Rattle.pages.specs.Layout.{Entry}
use Rattle.nearest.specs.declared.flips.Flip.{Flip}
use Rattle.nearest.specs.Flips.{flip, flipped, flips_of}
use Rattle.masking.specs.Kept.{slot, kept_leaves, leaf_at}
use Rattle.masking.specs.Place
use Rattle.topology.specs.Topology.{Inputs, topology_of}
use Rattle.table.specs.Rows.{Rows}
use Rattle.checks.specs.Checks.{topology_refusal}
use Rattle.checks.specs.ExtendedState.{xfem, xss, area_below, save_area}
use Rattle.memory.specs.Origin.{origin_number, is_made_here}
use Rattle.memory.specs.Origin.Origin.{neither, made_here, not_known, entry}
use Rattle.finish.specs.Kinds.Kind.{feature, feature_but28, area, freed, other}
use Rattle.register_masks.specs.Join.{joined_register}
use Rattle.register_masks.specs.Alike.{Alike}
use Rattle.kvm_list.specs.Format.{row_at}
use Rattle.guest_state.specs.State.{compacts, allowed}
use Rattle.guest_state.specs.Compact.{component_start, placed, compact_below, compact_size}
use Rattle.letter.specs.Paper.{Name, topology}
use Rattle.letter.specs.Names.{sub_at}
use Rattle.letter.proofs.VerdictProof.{topology_same}

abbrev name_at : ℕ → Name
name_at i = record { leaf = (leaf_at i).0; subleaf = sub_at i }

abbrev word : List ℕ → ℕ → ℕ
word s o = get_or s o 0 + 256 * get_or s (o + 1) 0 + 65536 * get_or s (o + 2) 0 + 16777216 * get_or s (o + 3) 0

-- ---- the places that statements name: their leaves and subleaves

pub named_places :
    map name_at
    (Place.version_and_features
    ∷ Place.thread_level
    ∷ Place.core_level
    ∷ Place.extended_state 0
    ∷ Place.extended_state 1
    ∷ Place.extended_state 2
    ∷ Place.extended_state 63
    ∷ Place.extended_version_and_features
    ∷ Place.extended_address_space_sizes
    ∷ [])
    ≡ record { leaf = 0x1; subleaf = None }
    ∷ record { leaf = 0xB; subleaf = Some 0 }
    ∷ record { leaf = 0xB; subleaf = Some 1 }
    ∷ record { leaf = 0xD; subleaf = Some 0 }
    ∷ record { leaf = 0xD; subleaf = Some 1 }
    ∷ record { leaf = 0xD; subleaf = Some 2 }
    ∷ record { leaf = 0xD; subleaf = Some 63 }
    ∷ record { leaf = 0x80000001; subleaf = None }
    ∷ record { leaf = 0x80000008; subleaf = None }
    ∷ []
unfolding slot kept_leaves
named_places = refl

-- ---- P2: "40 bytes a row (function, index, flags, EAX, EBX, ECX, EDX, three zero words)", after "a count and a zero word"

pub list_words : (l : List ℕ) (q : ℕ)
    → row_at l q
    ≡ record {
      leaf = word l (8 + 40 * q + 0);
      index = word l (8 + 40 * q + 4);
      flags = word l (8 + 40 * q + 8);
      registers = cpuid_result (word l (8 + 40 * q + 12)) (word l (8 + 40 * q + 16)) (word l (8 + 40 * q + 20)) (word l (8 + 40 * q + 24));
      padding0 = word l (8 + 40 * q + 28);
      padding1 = word l (8 + 40 * q + 32);
      padding2 = word l (8 + 40 * q + 36);
    }
unfolding row_at
list_words l q = refl

-- ---- P3: "D.0.EBX is the size rule of D.0.ECX taken over XCR0": the largest of 576 and EAX + EBX over subleaves from 2 up; d has the rows of Dh

unfoldable pub largest : (ℕ → CpuidResult) → ℕ → ℕ → ℕ
largest d x zero = 576
largest d x (suc k) = max (largest d x k) (pick (leb 2 k && has k x) ((d k).eax + (d k).ebx) 0)

area_same : (m : Rows) (x n : ℕ) → area_below m x n ≡ largest (λ k. (m (6 + k)).result) x n
unfolding area_below largest
area_same m x zero = refl
area_same m x (suc k) =
    ap (λ (n : ℕ). max n (pick (leb 2 k && has k x) ((m (6 + k)).result.eax + (m (6 + k)).result.ebx) 0)) (area_same m x k)

pub standard_size : (m : Rows) (x : ℕ) → save_area m x ≡ largest (λ k. (m (6 + k)).result) x 64
standard_size m x = area_same m x 64

-- "D.1.EBX is 576 plus the EAX of each subleaf from 2 up in XCR0 or XSS, ascending, each start raised to a multiple of 64 where that row's ECX bit 1
-- is set"
unfoldable pub behind : (ℕ → CpuidResult) → ℕ → ℕ → ℕ
behind d x zero = 576
behind d x (suc k) =
    pick (leb 2 k && has k x) (pick (has 1 (d k).ecx) ((behind d x k + 63) / 64 * 64) (behind d x k) + (d k).eax) (behind d x k)

compact_same : (m : Rows) (x n : ℕ) → compact_below m x n ≡ behind (λ k. (m (6 + k)).result) x n
unfolding compact_below behind placed component_start
compact_same m x zero = refl
compact_same m x (suc k) =
    go (leb 2 k && has k x)
    ∙ ap (λ (n : ℕ). pick (leb 2 k && has k x) (pick (has 1 (m (6 + k)).result.ecx) ((n + 63) / 64 * 64) n + (m (6 + k)).result.eax) n)
    (compact_same m x k)
  where
    go : (b : Bool) → placed b (m (6 + k)).result (compact_below m x k)
        ≡ pick b (pick (has 1 (m (6 + k)).result.ecx) ((compact_below m x k + 63) / 64 * 64) (compact_below m x k) + (m (6 + k)).result.eax)
        (compact_below m x k)
    go true = refl
    go false = refl

pub compacted_size : (m : Rows) (x : ℕ) → compact_size m x ≡ behind (λ k. (m (6 + k)).result) x 64
compacted_size m x = compact_same m x 64

-- "it is 0 if D.1.EAX has neither bit 1 nor bit 3"; 13: "XCR0 lacks bit 0 or has a bit beyond XFEM, or the given XSS has one beyond the table's"
pub compacted_by_bits : (eax : ℕ) → compacts eax ≡ (has 1 eax || has 3 eax)
unfolding compacts
compacted_by_bits eax = refl

pub allowed_states : (m : Rows) (x s : ℕ)
    → allowed (xfem m) (xss m) x s
    ≡ (has 0 x
    && (eqb (bit_and x (m 6).result.eax) x
    && eqb (bit_and s (pick (has 1 (m 7).result.eax && has 3 (m 7).result.eax) (m 7).result.ecx 0)) s))
unfolding allowed xfem xss
allowed_states m x s = refl

-- ---- P11: ""made here" for 0, 80000000h, B.0 and B.1", by rising leaf; and the numbers of origins

pub made_here_lem :
    map name_at (keep_if is_made_here (tabulate 88 (λ i. i)))
    ≡ record { leaf = 0x0; subleaf = None }
    ∷ record { leaf = 0xB; subleaf = Some 0 }
    ∷ record { leaf = 0xB; subleaf = Some 1 }
    ∷ record { leaf = 0x80000000; subleaf = None }
    ∷ []
unfolding slot kept_leaves keep_if tabulate is_made_here
made_here_lem = refl

pub origin_numbers : (page position : ℕ)
    → origin_number neither ∷ origin_number made_here ∷ origin_number not_known ∷ origin_number (entry page position) ∷ []
    ≡ 0 ∷ 1 ∷ 3 ∷ (4 + 64 * page + position) ∷ []
origin_numbers page position = refl

-- ---- P12

-- "joins the feature registers of their first entries by and, keeps all else from the first"; "19 where rows that all tables have, B.0 and B.1 apart,
-- differ elsewhere than in feature registers or D.0.ECX": a feature register, 1.EDX, the save area, one that is freed and any other

pub pool_joins : (a b : ℕ)
    → joined_register feature a b ∷ joined_register feature_but28 a b ∷ joined_register area a b ∷ joined_register freed a b ∷ joined_register other a b ∷ []
    ≡ bit_and a b ∷ bit_and a (bit_or b (2 ^ 28)) ∷ a ∷ a ∷ a ∷ []
pool_joins a b = refl

pub pool_holds_equal : (a b : ℕ)
    → Alike feature a b ∷ Alike feature_but28 a b ∷ Alike area a b ∷ Alike freed a b ∷ Alike other a b ∷ []
    ≡ Unit {0} ∷ (bit 28 a ≡ bit 28 b) ∷ Unit {0} ∷ Unit {0} ∷ (a ≡ b) ∷ []
pool_holds_equal a b = refl

-- ---- P13: "ordered by page, entry, register (EAX, EBX, ECX, EDX) and bit from 0": the flips of an entry in order, and the byte and bit of a flip

pub flips_in_order : (e : Entry)
    → flips_of e
    ≡ tabulate 32 (λ k. flip e.page e.position 0 k)
    ++ tabulate 32 (λ k. flip e.page e.position 1 k)
    ++ tabulate 32 (λ k. flip e.page e.position 2 k)
    ++ tabulate 32 (λ k. flip e.page e.position 3 k)
unfolding flips_of tabulate
flips_in_order e = refl

abbrev flipped_at : Flip → ℕ
flipped_at f = 4096 * f.page + 16 + 48 * f.entry + 24 + 4 * f.register + f.bit / 8

pub flip_of_a_bit : (s : List ℕ) (f : Flip) → flipped s f ≡ set s (flipped_at f) (bit_xor (get_or s (flipped_at f) 0) (2 ^ (f.bit % 8)))
unfolding flipped
flip_of_a_bit s f = refl

-- ---- P14: the inputs that are accepted are document 01's (crates/letter/specs/Paper.antt)

pub topology_by_the_letter : (i : Inputs) → topology_refusal (topology_of i) ≡ topology i
topology_by_the_letter = topology_same
