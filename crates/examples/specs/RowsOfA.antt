-- Examples: rows of server A in figures, looked up by the paper's own search, and the program's bytes for a server that 3 refuses.
use Rattle.std.specs.Prelude.{◌≡◌, refl, Bool, true, false, List, [], ◌∷◌, ℕ, leb, length, None, Option, Some}
use Rattle.std.proofs.Common.{sym, ap, ap₂, ◌∙◌}
use Rattle.std.proofs.Math.Path.{fun_ext}
use Rattle.bits.specs.Choice.{pick}
use Rattle.x86defs.specs.Functions.{function, cpuid_result}
use Rattle.table.specs.declared.CpuidResults.{CpuidResults}
use Rattle.build.specs.Build.{answer}
use Rattle.lookup.specs.Lookup.{lookup, with_subleaves, place_whole}
use Rattle.page_sets.specs.PageSets.{server_a, server_without_d12}
use Rattle.page_sets.specs.PassLaws.{table_passed}
use Rattle.page_sets.specs.Evaluation.{first_edition, passed}
use Rattle.letter.specs.Paper.{lines_of, find, find_after, written, answer_bytes, program}
use Rattle.letter.proofs.VerdictProof.{verdict_by_figures}
use Rattle.letter.proofs.LookupProof.{lookup_by_the_letter}
use Rattle.examples.specs.Computed.{server_a_accepted, without_refused}
use Rattle.table.specs.Verdict.{Verdict}
use Rattle.x86defs.specs.declared.CpuidResult.{CpuidResult}

-- what a lookup finds for rows 0, 1, 7.0, D.0 and 80000008h, and for 80000000h under a subleaf that is enforced
abbrev pub asked : (ℕ → Option ℕ → Bool → Option CpuidResult) → List (Option CpuidResult)
asked f =
    f 0x0 None true
    ∷ f 0x1 (Some 9) false
    ∷ f 0x7 (Some 0) true
    ∷ f 0xD (Some 0) true
    ∷ f 0x80000008 None true
    ∷ f 0x80000000 (Some 0) true
    ∷ []

abbrev pub figures : List (Option CpuidResult)
figures =
    Some (cpuid_result 0xD 0x68747541 0x444D4163 0x69746E65)
    ∷ Some (cpuid_result 0xA00F11 0x10000 0xBED83203 0x178BFBFF)
    ∷ Some (cpuid_result 0 0x219C07A9 0x604 0x10)
    ∷ Some (cpuid_result 0x7 0x340 832 0)
    ∷ Some (cpuid_result 0x3030 0x3112D21F 0 0x10007)
    ∷ None
    ∷ []

looked_up : asked (λ l k enforce. lookup (answer first_edition server_a).table (function l) k enforce) ≡ figures
unfolding passed server_a lookup with_subleaves place_whole
looked_up = ap (λ (t : CpuidResults). asked (λ l k enforce. lookup t (function l) k enforce)) (table_passed first_edition server_a server_a_accepted)

pub by_the_letter : asked (find (lines_of first_edition server_a)) ≡ figures
by_the_letter = ap asked (fun_ext (λ l. fun_ext (λ k. fun_ext (λ enforce. sym (same l k enforce))))) ∙ looked_up
  where
    same : (l : ℕ) (k : Option ℕ) (enforce : Bool)
        → lookup (answer first_edition server_a).table (function l) k enforce ≡ find (lines_of first_edition server_a) l k enforce
    same l k enforce =
        lookup_by_the_letter first_edition server_a l k enforce
        ∙ ap (λ (v : Verdict). find_after v (lines_of first_edition server_a) l k enforce) (sym (verdict_by_figures first_edition server_a) ∙ server_a_accepted)

-- byte 3, number 3, leaf Dh, subleaf 12, s 0
without_length : length server_without_d12 ≡ 8192
unfolding server_without_d12
without_length = refl

pub without_d12_bytes : program server_without_d12 ≡ 3 ∷ 3 ∷ 0xD ∷ 0 ∷ 0 ∷ 0 ∷ 12 ∷ 0 ∷ 0 ∷ 0 ∷ 0 ∷ []
without_d12_bytes =
    ap₂ (λ (n : ℕ) (v : Verdict). pick (leb n 65536) (answer_bytes v (written (lines_of first_edition server_without_d12))) (4 ∷ [])) without_length
    (sym (verdict_by_figures first_edition server_without_d12) ∙ without_refused)
