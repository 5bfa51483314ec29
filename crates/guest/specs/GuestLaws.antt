-- The guest's table as the code stores it.
use Rattle.std.specs.Prelude.{◌≡◌, refl, List, ℕ, ◌+◌, ◌*◌, ◌%◌, ◌^◌, set}
use Rattle.std.proofs.Common.{◌∙◌, mod-lt, arith, pow_pos}
use Rattle.std.specs.Int.Bits.{bit_and, bit_or, or_shifted_r}
use Rattle.std.proofs.lemmas.Nat.{and_mask}
use Rattle.bits.specs.Choice.{pick}
use Rattle.bits.specs.Lists.{tabulate}
use Rattle.x86defs.specs.declared.CpuidResult.{CpuidResult}
use Rattle.masking.specs.Kept.{places}
use Rattle.table.specs.Rows.{Row, Rows}
use Rattle.guest.specs.declared.Processor.{Processor}
use Rattle.guest.specs.Guest.{seen_at}

-- ---- leaf 1 EBX by masks and a shift

pub version_ebx : (x n : ℕ) → bit_or (bit_and x 16777215) (bit_and n 255 * 16777216 % 4294967296) ≡ x % 2 ^ 24 + n % 2 ^ 8 * 2 ^ 24
version_ebx x n =
    let p : bit_and x 16777215 ≡ x % 2 ^ 24 = and_mask x 24 in
    let q : bit_and n 255 ≡ n % 2 ^ 8 = and_mask n 8 in
    let r : n % 2 ^ 8 * 2 ^ 24 % 2 ^ 32 ≡ n % 2 ^ 8 * 2 ^ 24 = omega arith in
    rw (p, q, r) (or_shifted_r (n % 2 ^ 8) 24 (x % 2 ^ 24) (mod-lt x (pow_pos 24)) ∙ omega arith)

-- ---- the five stores

abbrev pub storing : CpuidResult → CpuidResult → CpuidResult → CpuidResult → CpuidResult → List CpuidResult → List CpuidResult
storing a b c d e l = set (set (set (set (set l 1 a) 4 b) 5 c) 6 d) 7 e

abbrev pub storing_all : (ℕ → CpuidResult) → List CpuidResult → List CpuidResult
storing_all g = storing (g 1) (g 4) (g 5) (g 6) (g 7)

pub stores : (m : Rows) (v : Processor) (a c : ℕ)
    → storing_all (λ i. seen_at v a c i (m i)) (tabulate places (λ i. (m i).result)) ≡ tabulate places (λ i. seen_at v a c i (m i))
unfolding tabulate
stores m v a c = refl

-- a row that is there, as seen; else as it is
abbrev pub if_there : Row → (CpuidResult → CpuidResult) → CpuidResult
if_there r f = pick r.present (f r.result) r.result
