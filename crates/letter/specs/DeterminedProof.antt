-- The paper's equations, register by register, determine the table of an accepted page set.
use Rattle.std.specs.Prelude.{◌≡◌, refl, List, [], ◌∷◌, map, ◌↔◌, ℕ}
use Rattle.std.proofs.Common.{sym, ap, ◌∙◌, subst}
use Rattle.x86defs.specs.declared.CpuidResult.{CpuidResult}
use Rattle.table.specs.declared.Choices.{Choices}
use Rattle.table.specs.declared.CpuidResults.{CpuidResults}
use Rattle.build.specs.Build.{answer}
use Rattle.letter.specs.Paper.{Line, Equations, lines_of, combined_of, table_with}

pub column : (f : CpuidResult → ℕ) (ls : List Line) → map f (map (λ (l : Line). l.row.result) ls) ≡ map (λ (l : Line). f l.row.result) ls
column f [] = refl
column f (l ∷ ls) = ap (◌∷◌ (f l.row.result)) (column f ls)

-- four columns make the rows
pub results_same : (r q : List CpuidResult) → map (λ (x : CpuidResult). x.eax) r ≡ map (λ (x : CpuidResult). x.eax) q
    → map (λ (x : CpuidResult). x.ebx) r ≡ map (λ (x : CpuidResult). x.ebx) q → map (λ (x : CpuidResult). x.ecx) r ≡ map (λ (x : CpuidResult). x.ecx) q
    → map (λ (x : CpuidResult). x.edx) r ≡ map (λ (x : CpuidResult). x.edx) q → r ≡ q
results_same [] [] a b c d = refl
results_same [] (y ∷ q) a b c d = cc
results_same (x ∷ r) [] a b c d = cc
results_same (x ∷ r) (y ∷ q) a b c d =
    let e : x.eax ≡ y.eax = cc in
    let f : x.ebx ≡ y.ebx = cc in
    let g : x.ecx ≡ y.ecx = cc in
    let h : x.edx ≡ y.edx = cc in
    let same : r ≡ q = results_same r q (cc) (cc) (cc) (cc) in
    λ t. record { eax = e t; ebx = f t; ecx = g t; edx = h t } ∷ same t
