-- Document 02, P12: "19 where rows that all tables have, B.0 and B.1 apart, differ elsewhere than in feature registers or D.0.ECX, by masked
-- entry". B.0 and B.1 are of kind `freed` in every register, and so are rows 0 and 80000000h, which come from no entry.
use Rattle.std.specs.Prelude.{◌≡◌, Bool, true, ℕ, ◌≤◌, ◌<◌, eqb}
use Rattle.bits.specs.Choice.{pick}
use Rattle.bits.specs.Search.{every}
use Rattle.bits.specs.Bits.{bit}
use Rattle.x86defs.specs.declared.CpuidResult.{CpuidResult}
use Rattle.masking.specs.Kept.{places}
use Rattle.table.specs.Rows.{Rows}
use Rattle.finish.specs.Finish.{finished}
use Rattle.finish.specs.Kinds.{Kind, Kinds, Registers, all_registers, kinds_at}
use Rattle.finish.specs.Kinds.Kind.{feature, feature_but28, area, freed, other}
use Rattle.register_masks.specs.Join.{all_to}

-- a register of the first server's masked entry and of another's
abbrev pub Alike : Kind → ℕ → ℕ → Type 0
Alike feature a b = Unit {0}
Alike feature_but28 a b = bit 28 a ≡ bit 28 b
Alike area a b = Unit {0}
Alike freed a b = Unit {0}
Alike other a b = a ≡ b

-- the same, computed
abbrev pub alike_test : Kind → ℕ → ℕ → Bool
alike_test feature a b = true
alike_test feature_but28 a b = eqb (bit 28 a) (bit 28 b)
alike_test area a b = true
alike_test freed a b = true
alike_test other a b = eqb a b

abbrev pub registers_alike : Kinds → CpuidResult → CpuidResult → Bool
registers_alike k a b = all_registers alike_test k a b

-- whether the tables of servers 0 to n, under an edition, all have the row of place i
unfoldable pub all_have : ℕ → (ℕ → Rows) → ℕ → ℕ → Bool
all_have edition f n i = all_to (λ k. (finished edition (f k) i).present) n

-- whether the entries of servers 0 to n at place i are each like the first's
unfoldable pub alike_to : (ℕ → Rows) → ℕ → ℕ → Bool
alike_to f n i = all_to (λ k. registers_alike (kinds_at i) (f 0 i).result (f k i).result) n

-- 19 is not due: decided over the rows that all n + 1 tables have, so a further server may lift it
unfoldable pub all_alike : ℕ → (ℕ → Rows) → ℕ → Bool
all_alike edition f n = every (λ i. pick (all_have edition f n i) (alike_to f n i) true) places

-- the same in words
pub record AlikeAt (f : ℕ → Rows) (n i : ℕ) : Type 0 where
  pub with : (k : ℕ) → k ≤ n → Registers Alike (kinds_at i) (f 0 i).result (f k i).result

abbrev pub AllAlike : ℕ → (ℕ → Rows) → ℕ → Type 0
AllAlike edition f n = (i : ℕ) → i < places → all_have edition f n i ≡ true → AlikeAt f n i
