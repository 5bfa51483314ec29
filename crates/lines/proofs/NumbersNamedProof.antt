-- The table of numbers names exactly what the refusals set.
use Rattle.std.specs.Prelude.{◌≡◌, refl, Bool, true, false, ◌&&◌, ◌||◌, not, ℕ, eqb, ltb, length}
use Rattle.std.proofs.Common.{subst, eqb-true, ltb-true, ltb-false}
use Rattle.bits.specs.Choice.{pick}
use Rattle.bits.specs.ChoiceLaws.{and_left, and_right, if_holds}
use Rattle.bits.specs.SearchLaws.{every_at}
use Rattle.table.specs.declared.Refusal.{Refusal}
use Rattle.table.specs.Refusal.{details}
use Rattle.lines.specs.NumbersInUse.{rows, names}
use Rattle.lines.specs.NumbersInUseLaws.{beyond}
use Rattle.lines.specs.Line.{is_none}
use Rattle.lines.specs.NumbersNamed.{NamesExactly}
use Rattle.lines.specs.NumbersNamedProof.{SetsNamed, all_sampled, not_zero, only_named_lem, sample, sample_test, set_named, some_named, some_subleaf}

pub sets_named : (r : Refusal) → SetsNamed (names (details r).number) (details r)
sets_named r =
    let d = details r in
    let k = names d.number in
    let leaf = k.leaf || eqb d.leaf 0 in
    let subleaf = k.subleaf || is_none d.subleaf in
    let e₁ = and_right k.used _ (only_named_lem r) in
    let e₂ = and_right leaf _ e₁ in
    record {
      used = and_left k.used _ (only_named_lem r);
      leaf = and_left leaf _ e₁;
      subleaf = and_left subleaf _ e₂;
      s = and_right subleaf _ e₂;
    }

sampled : (n : ℕ) → sample_test (sample n) n (names n) ≡ true
sampled n = go (ltb n (length rows)) refl
  where
    go : (b : Bool) → ltb n (length rows) ≡ b → sample_test (sample n) n (names n) ≡ true
    go true e = every_at (λ m. sample_test (sample m) m (names m)) (length rows) all_sampled n (ltb-true n (length rows) e)
    go false e = rw (beyond n (ltb-false n (length rows) e))

pub names_exactly : (n : ℕ) → NamesExactly n
names_exactly n = at (sample n) (sampled n)
  where
    at : (r : Refusal) → sample_test r n (names n) ≡ true → NamesExactly n
    at r t =
        let u = pick (names n).used (eqb (details r).number n) true in
        let a = pick (names n).leaf (eqb (details r).number n && not (eqb (details r).leaf 0)) true in
        let b = pick (names n).subleaf (eqb (details r).number n && not (is_none (details r).subleaf)) true in
        let t₁ = and_right u _ t in
        let t₂ = and_right a _ t₁ in
        record {
          used = (
            λ e. (r, eqb-true _ n (if_holds (names n).used _ (and_left u _ t) e)),
            λ p. subst (λ (m : ℕ). (names m).used ≡ true) p.1 (sets_named p.0).used,
          );
          leaf = (
            λ e.
                let h = if_holds (names n).leaf _ (and_left a _ t₁) e in
                (r, eqb-true _ n (and_left _ _ h), not_zero (details r).leaf (and_right (eqb (details r).number n) _ h)),
            λ p. subst (λ (m : ℕ). (names m).leaf ≡ true) p.1 (set_named _ _ (sets_named p.0).leaf p.2),
          );
          subleaf = (
            λ e.
                let h = if_holds (names n).subleaf _ (and_left b _ t₂) e in
                (r, eqb-true _ n (and_left _ _ h), some_subleaf (details r).subleaf (and_right (eqb (details r).number n) _ h)),
            λ p. subst (λ (m : ℕ). (names m).subleaf ≡ true) p.1 (some_named _ _ p.2.0 (sets_named p.0).subleaf p.2.1),
          );
          s = (
            λ e.
                let h = if_holds (names n).s _ (and_right b _ t₂) e in
                (r, eqb-true _ n (and_left _ _ h), not_zero (details r).s (and_right (eqb (details r).number n) _ h)),
            λ p. subst (λ (m : ℕ). (names m).s ≡ true) p.1 (set_named _ _ (sets_named p.0).s p.2),
          );
        }
