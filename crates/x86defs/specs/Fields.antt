-- Fields of more than one bit, under the names of x86defs, from AMD64 APM volume 3, appendix E.
use Rattle.std.specs.Prelude.{List, [], ◌∷◌, ℕ, ◌+◌}
use Rattle.bits.specs.Bits.{field, field_mask}

-- `width` bits from bit `shift` up
pub record FieldBits : Type 0 where
  pub shift : ℕ
  pub width : ℕ

abbrev bits : ℕ → ℕ → FieldBits
bits s w = record { shift = s; width = w }

pub data Field : Type 0 where
  -- 1.EAX and 80000001h.EAX
  processor_stepping processor_model processor_family processor_type extended_model extended_family : Field
  -- 1.EBX
  brand_index clflush_line_size lps_per_package initial_apic_id : Field
  -- 80000001h.EBX
  brand_id pkg_type : Field
  -- 80000008h.EAX, ECX, EDX
  physical_address_size virtual_address_size : Field
  nc apic_core_id_size : Field
  invlpgb_count_max rdpru_max_ecx : Field
  -- 8000000Ah.EAX
  svm_rev : Field
  -- 8000001Eh.EBX
  threads_per_compute_unit : Field
  -- 8000001Fh.EBX
  cbit_position encryption_physical_bits_used number_of_vmpls : Field
  -- B.0 and B.1: EAX, EBX, ECX
  x2_apic_shift num_lps level_number level_type : Field

abbrev pub span : Field → FieldBits
span processor_stepping = bits 0 4
span processor_model = bits 4 4
span processor_family = bits 8 4
span processor_type = bits 12 2
span extended_model = bits 16 4
span extended_family = bits 20 8
span brand_index = bits 0 8
span clflush_line_size = bits 8 8
span lps_per_package = bits 16 8
span initial_apic_id = bits 24 8
span brand_id = bits 0 16
span pkg_type = bits 28 4
span physical_address_size = bits 0 8
span virtual_address_size = bits 8 8
span nc = bits 0 8
span apic_core_id_size = bits 12 4
span invlpgb_count_max = bits 0 16
span rdpru_max_ecx = bits 16 16
span svm_rev = bits 0 8
span threads_per_compute_unit = bits 8 8
span cbit_position = bits 0 6
span encryption_physical_bits_used = bits 6 6
span number_of_vmpls = bits 12 4
span x2_apic_shift = bits 0 5
span num_lps = bits 0 16
span level_number = bits 0 8
span level_type = bits 8 8

-- a field of a register
abbrev pub cut : Field → ℕ → ℕ
cut f n = field (span f).shift (span f).width n

-- the mask of several fields: the sum of theirs
unfoldable pub fields_mask : List Field → ℕ
fields_mask [] = 0
fields_mask (f ∷ fs) = field_mask (span f).shift (span f).width + fields_mask fs
