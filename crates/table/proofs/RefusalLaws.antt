-- A refusal is known by its number and details, and no refusal has number 0.
use Rattle.std.specs.Prelude.{◌≡◌, ℕ}
use Rattle.std.proofs.Common.{sym, ap, ◌∙◌, arith}
use Rattle.table.specs.declared.Refusal.{Refusal}
use Rattle.table.specs.declared.Refusal.TheVariants.{PagesLength}
use Rattle.table.specs.Refusal.{details, refusal_with}
use Rattle.table.specs.RefusalLaws.{refusal_told}

pub refusal_numbered : (r : Refusal) → (details r).number ≡ 0 → ⊥
refusal_numbered r e =
    let first : PagesLength ≡ r =
    sym (ap (λ (n : ℕ). refusal_with (record { number = n; leaf = (details r).leaf; subleaf = (details r).subleaf; s = (details r).s })) e)
    ∙ refusal_told r in
    omega (arith, e, ap (λ (q : Refusal). (details q).number) first)
