-- Document 02, P3, on rows alone: the two sizes of extended state in use, and refusals 13 and 14. P8 wants the refusals "on the handed
-- table's own rows"; an absent row reads as zeros.
use Rattle.std.specs.Prelude.{Bool, ◌&&◌, ◌||◌, ℕ, ◌-◌, ◌^◌, min, eqb, ltb}
use Rattle.std.specs.Int.Bits.{bit_and, bit_or}
use Rattle.bits.specs.Choice.{pick}
use Rattle.bits.specs.Bits.{has}
use Rattle.x86defs.specs.ExtendedStateEnumerationSubleaf1Eax as Subleaf1Eax
use Rattle.x86defs.specs.ExtendedStateEnumerationSubleaf1Eax.ExtendedStateEnumerationSubleaf1Eax.{xsave_c, xsave_s}
use Rattle.masking.specs.Place
use Rattle.table.specs.declared.Refusal.TheVariants.{StateBeyondTable, CompactSizeTooLarge}
use Rattle.table.specs.Refusal.{and_then}
use Rattle.table.specs.Rows.{Rows}
use Rattle.checks.specs.Checks.{refuse_unless}
use Rattle.checks.specs.ExtendedState.{xfem, xss as maxXss, save_area}
use Rattle.guest_state.specs.Compact.{compact_size}
use Rattle.table.specs.Verdict.{Verdict}

-- ---- the two sizes

-- "D.0.EBX is the size rule of D.0.ECX taken over XCR0." A built table's never passes 32 bits (guest_rise); any other's is held to them.
unfoldable pub save_register : Rows → ℕ → ℕ
save_register m xcr0 = min (save_area m xcr0) (2 ^ 32 - 1)

-- "D.1.EAX has bit 1 or 3"
unfoldable pub compacts : ℕ → Bool
compacts eax = has (Subleaf1Eax.position xsave_c) eax || has (Subleaf1Eax.position xsave_s) eax

-- D.1.EBX: the compacted size over "XCR0 or XSS"; "it is 0 if D.1.EAX has neither bit 1 nor bit 3"
unfoldable pub compact_register : Rows → ℕ → ℕ → ℕ
compact_register m xcr0 xss = pick (compacts (m (Place.extended_state 1)).result.eax) (compact_size m (bit_or xcr0 xss)) 0

-- ---- the refusals

-- whether y has every bit of x, over all bits
abbrev pub within_test : ℕ → ℕ → Bool
within_test x y = eqb (bit_and x y) x

-- 13 is given unless: XCR0 has bit 0 and none beyond XFEM, and XSS has none beyond the table's
unfoldable pub allowed : ℕ → ℕ → ℕ → ℕ → Bool
allowed f s xcr0 xss = has 0 xcr0 && (within_test xcr0 f && within_test xss s)

unfoldable pub allowed_verdict : Rows → ℕ → ℕ → Verdict
allowed_verdict m xcr0 xss = refuse_unless (allowed (xfem m) (maxXss m) xcr0 xss) StateBeyondTable

-- 14: D.1.EBX passes 32 bits. It is 0 where D.1.EAX has neither bit.
unfoldable pub compact_verdict : Rows → ℕ → ℕ → Verdict
compact_verdict m xcr0 xss = refuse_unless (ltb (compact_register m xcr0 xss) (2 ^ 32)) CompactSizeTooLarge

-- "Answers: 13 .. then 14"
unfoldable pub state_verdict : Rows → ℕ → ℕ → Verdict
state_verdict m xcr0 xss = and_then (allowed_verdict m xcr0 xss) (compact_verdict m xcr0 xss)
