-- The bounds on what building's refusals name, and with them their lines.
use Rattle.std.specs.Prelude.{◌≡◌, refl, Bool, true, ◌&&◌, List, ℕ, ◌+◌, ◌^◌, ◌≤◌, ◌<◌, ltb, length, Ok, Some}
use Rattle.std.proofs.Common.{ap, arith, lit<, ltb-true}
use Rattle.std.proofs.lemmas.List.Edits.{sets}
use Rattle.bits.specs.ChoiceLaws.{and_left, and_right}
use Rattle.bits.specs.Search.{every}
use Rattle.bits.specs.SearchLaws.{every_at}
use Rattle.bits.specs.BitsLaws.{field_lt}
use Rattle.pages.specs.Bytes.{AreBytes}
use Rattle.pages.specs.Layout.{word_at, entry_start, entry_at}
use Rattle.topology.specs.declared.TopologyError.TheVariants.{ThreadsPerUnit}
use Rattle.table.specs.declared.Choices.{Choices}
use Rattle.table.specs.declared.Refusal.{Refusal}
use Rattle.table.specs.declared.Refusal.TheVariants.{PagesLength, PageCount, MissingRequiredResult, InvlpgbUnavailable, SaveAreaOverflow, TopologyInconsistent, UnknownEdition}
use Rattle.table.specs.Refusal.{details}
use Rattle.table.specs.RefusalLaws.{refusal_told}
use Rattle.table.specs.Numbers.{subleaf_or0}
use Rattle.checks.specs.Required.{common_required_leaves, snp_required_leaves, required_at, required_count}
use Rattle.checks.specs.TopologyInputs.{inputs_of}
use Rattle.build.specs.Build.{rows_for}
use Rattle.lines.specs.declared.bytes.LineDetails.{LineDetails}
use Rattle.lines.specs.Line.{LineFits, most_s, writable, line}
use Rattle.lines.proofs.LineLaws.{at_most_22}
use Rattle.lines.specs.WriteLine.{AfterLine, leaves, write_line}
use Rattle.lines.specs.WriteLineLaws.{write_whole}
use Rattle.lines.proofs.LinePromises.{every_refusal, read_written, write_then_read}
use Rattle.refusals.specs.Conditions.{Check, Fault}
use Rattle.refusals.specs.Conditions.Check.{edition, length_of_pages, page_counts, reserved_bytes, required_leaves, invlpgb, components, save_area, processor_count, hyperthreading, threads_per_unit}
use Rattle.refusals.specs.Lined.{told_of, Lined}

-- ---- bounds

-- what a line wants of a refusal
pub record Small (r : Refusal) : Type 0 where
  pub fits : LineFits (told_of r)
  pub s : (details r).s ≤ most_s

word_fits : (s : List ℕ) → AreBytes s → (o : ℕ) → word_at s o < 2 ^ 32
word_fits s h o = omega (arith, h o, h (o + 1), h (o + 2), h (o + 3))

leaf_fits : (s : List ℕ) → AreBytes s → (p q : ℕ) → (entry_at s p q).leaf.0 < 2 ^ 32
unfolding entry_at
leaf_fits s h p q = word_fits s h (entry_start p q)

-- the required leaves and subleaves, by one test
abbrev required_test : ℕ → Bool
required_test j = ltb (required_at j).leaf.0 (2 ^ 32) && ltb (subleaf_or0 (required_at j).subleaf) (2 ^ 32)

all_required : every required_test required_count ≡ true
unfolding required_at common_required_leaves snp_required_leaves
all_required = refl

required_small : (j : ℕ) → j < required_count → Small (MissingRequiredResult (required_at j).leaf (required_at j).subleaf)
required_small j l =
    let t : required_test j ≡ true = every_at required_test required_count all_required j l in
    record {
      fits = record {
        leaf = ltb-true _ _ (and_left _ _ t);
        subleaf = ltb-true _ _ (and_right (ltb (required_at j).leaf.0 (2 ^ 32)) _ t);
      };
      s = omega arith;
    }

alone_small : (r : Refusal) → (told_of r).leaf ≡ 0 → subleaf_or0 (told_of r).subleaf ≡ 0 → (details r).s ≤ most_s → Small r
alone_small r a b c = record { fits = record { leaf = omega arith; subleaf = omega arith }; s = c }

size_small : (chosen : Choices) (s : List ℕ) → (inputs_of (rows_for chosen s)).s ≤ most_s
unfolding inputs_of
size_small chosen s =
    let l : (inputs_of (rows_for chosen s)).s < 2 ^ 4 = field_lt 12 4 _ in
    omega arith

pub fault_small : (chosen : Choices) (s : List ℕ) → AreBytes s → (c : Check) (r : Refusal) → Fault chosen s c r → Small r
fault_small chosen s h edition r f = rw f.1 (alone_small UnknownEdition refl refl (omega arith))
fault_small chosen s h length_of_pages r f = rw f.1 (alone_small PagesLength refl refl (omega arith))
fault_small chosen s h page_counts r f = rw f.1 (alone_small PageCount refl refl (omega arith))
fault_small chosen s h reserved_bytes r f =
    rw f.3 (record { fits = record { leaf = leaf_fits s h f.0 f.1; subleaf = lit< tt }; s = omega arith })
fault_small chosen s h required_leaves r f = rw f.2 (required_small f.0 f.1.listed)
fault_small chosen s h invlpgb r f = rw f.1 (alone_small InvlpgbUnavailable refl refl (omega arith))
fault_small chosen s h components r f =
    rw f.2 (record { fits = record { leaf = lit< tt; subleaf = omega (arith, f.1.lacking.below) }; s = omega arith })
fault_small chosen s h save_area r f = rw f.1 (alone_small SaveAreaOverflow refl refl (omega arith))
fault_small chosen s h processor_count r f = rw f.1 (alone_small _ refl refl (size_small chosen s))
fault_small chosen s h hyperthreading r f = rw f.1 (alone_small _ refl refl (size_small chosen s))
fault_small chosen s h threads_per_unit r f = rw f.1 (alone_small (TopologyInconsistent ThreadsPerUnit) refl refl (omega arith))

-- ---- the lines

pub small_lined : (r : Refusal) → Small r → Lined r
small_lined r z = record {
  fits = z.fits;
  is_writable = w;
  read_back = read_written d z.fits w;
  tells = refusal_told r;
  room = at_most_22 d;
  written = λ buffer h. ap (λ (o : AfterLine). o.answer) (whole buffer h);
  from_buffer = λ buffer h.
      write_then_read d buffer (write_line d buffer).buffer (length (line d)) z.fits
      (λ i. leaves (ap (λ (o : AfterLine). o.answer) (whole buffer h) i) (write_line d buffer).buffer);
}
  where
    d : LineDetails
    d = told_of r

    w : writable (told_of r) ≡ true
    w = every_refusal r z.s

    whole : (buffer : List ℕ) → 22 ≤ length buffer
        → write_line (told_of r) buffer ≡ leaves (Some (Ok (length (line (told_of r))))) (sets buffer 0 (line (told_of r)))
    whole buffer h = write_whole (told_of r) buffer w (omega (arith, at_most_22 (told_of r)))

-- and each refusal that names nothing, whoever gives it
pub plain_lined : (r : Refusal) → (told_of r).leaf ≡ 0 → subleaf_or0 (told_of r).subleaf ≡ 0 → (details r).s ≡ 0 → Lined r
plain_lined r a b c = small_lined r (alone_small r a b (omega arith))
