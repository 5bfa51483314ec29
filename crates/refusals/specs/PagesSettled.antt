-- Checks 15, 1 and 2: the verdicts on the edition, on a page set's length and on its counts decide their conditions.
use Rattle.std.specs.Prelude.{◌≡◌, refl, Bool, true, false, not, ◌&&◌, ◌||◌, List, ℕ, ◌%◌, eqb, leb, length}
use Rattle.std.proofs.Common.{inl, inr, arith, eqb-true, leb-true, leb-false}
use Rattle.std.proofs.lemmas.Bool.{eqb-false}
use Rattle.bits.specs.Search.{every}
use Rattle.bits.specs.SearchLaws.{every_at, every_fails}
use Rattle.pages.specs.Layout.{page_size, most_entries, pages_in, count_of, bad_length, counts_fit}
use Rattle.table.specs.declared.Refusal.TheVariants.{PagesLength, PageCount, UnknownEdition}
use Rattle.table.specs.Edition.{editions, known_edition}
use Rattle.checks.specs.Checks.{refuse_unless}
use Rattle.build.specs.Build.{edition_verdict}
use Rattle.collect.specs.Lawful.{length_verdict, counts_verdict}
use Rattle.refusals.specs.Conditions.{EditionFault, LengthFault, CountFault}
use Rattle.refusals.specs.Settles.{Settles, never, holds}

pub edition_decides : (n : ℕ) → Settles (λ q. EditionFault n × (q ≡ UnknownEdition)) (edition_verdict n)
unfolding edition_verdict known_edition
edition_decides n = go (leb 1 n) (leb n editions) refl refl
  where
    go : (low high : Bool) → leb 1 n ≡ low → leb n editions ≡ high
        → Settles (λ q. EditionFault n × (q ≡ UnknownEdition)) (refuse_unless (low && high) UnknownEdition)
    go false high p q = holds (inl (leb-false _ _ p))
    go true false p q = holds (inr (leb-false _ _ q))
    go true true p q =
        never (elim [ inl f ↦ omega (arith, f, leb-true 1 n p) | inr f ↦ omega (arith, f, leb-true n editions q) ])

pub length_decides : (s : List ℕ) → Settles (λ q. LengthFault s × (q ≡ PagesLength)) (length_verdict s)
unfolding length_verdict bad_length
length_decides s = go (eqb (length s) 0) (eqb (length s % page_size) 0) refl refl
  where
    go : (none even : Bool) → eqb (length s) 0 ≡ none → eqb (length s % page_size) 0 ≡ even
        → Settles (λ q. LengthFault s × (q ≡ PagesLength)) (refuse_unless (not (none || not even)) PagesLength)
    go true even p q = holds (inl (eqb-true _ _ p))
    go false true p q = never (elim [ inl e ↦ eqb-false _ _ p e | inr n ↦ n (eqb-true _ _ q) ])
    go false false p q = holds (inr (eqb-false _ _ q))

pub counts_decide : (s : List ℕ) → Settles (λ q. CountFault s × (q ≡ PageCount)) (counts_verdict s)
unfolding counts_verdict counts_fit
counts_decide s = go (every fits (pages_in s)) refl
  where
    fits : ℕ → Bool
    fits p = leb (count_of s p) most_entries

    go : (b : Bool) → every fits (pages_in s) ≡ b → Settles (λ q. CountFault s × (q ≡ PageCount)) (refuse_unless b PageCount)
    go true e =
        never (λ f. omega (arith, f.above, leb-true (count_of s f.page) most_entries (every_at fits (pages_in s) e f.page f.inside)))
    go false e =
        let (p, l, f) = every_fails fits (pages_in s) e in
        holds (record { page = p; inside = l; above = leb-false _ _ f })
