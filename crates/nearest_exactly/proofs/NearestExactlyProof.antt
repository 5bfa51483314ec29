-- Each answer exactly: what the verdicts on edition, length, counts and reserved bytes decide, then what the search comes to.
use Rattle.std.specs.Prelude.{◌≡◌, refl, List, ℕ, Err, Ok, Result}
use Rattle.std.proofs.Common.{sym, ap, ◌∙◌, subst}
use Rattle.pages.specs.Layout.{entry_at}
use Rattle.table.specs.declared.Choices.{Choices}
use Rattle.table.specs.declared.Refusal.{Refusal}
use Rattle.table.specs.declared.Refusal.TheVariants.{PagesLength, PageCount, MissingRequiredResult, InvlpgbUnavailable, SaveAreaOverflow, TopologyInconsistent, BufferTooShort, ListLength, ListRows, ListFields, StateBeyondTable, CompactSizeTooLarge, UnknownEdition, EditionBack, ReservedBytes, PoolSets, PoolDiffers, NothingDecides}
use Rattle.table.specs.Refusal.{and_then}
use Rattle.build.specs.Build.{edition_verdict, front_verdict}
use Rattle.collect.specs.Lawful.{length_verdict, counts_verdict, reserved_verdict, lawful_verdict}
use Rattle.refusals.specs.Conditions.{EditionFault, LengthFault, CountFault, ReservedFault}
use Rattle.refusals.specs.Settles.{Settles}
use Rattle.refusals.specs.Settles.Settles.{passes, refuses}
use Rattle.refusals.specs.PagesSettled.{edition_decides, length_decides, counts_decide}
use Rattle.refusals.specs.ReservedSettled.{reserved_decides}
use Rattle.nearest.specs.Flips.{flips}
use Rattle.nearest.specs.Changes.{changes}
use Rattle.nearest.specs.Nearest.{first_that, unless_refused, nearest}
use Rattle.nearest_exactly.specs.NearestExactly.{LawfulPages, GivenFor, Answers, NearestExactly}
use Rattle.nearest_exactly.specs.FirstLaws.{Searched, searched, none_found, first_found}
use Rattle.nearest_exactly.specs.FirstLaws.Searched.{found, none}
use Rattle.nearest_exactly.specs.NearestExactlyProof.{settled_accepts, settled_refuses}
use Rattle.nearest.specs.declared.flips.Flip.{Flip}
use Rattle.table.specs.Verdict.{Verdict}

module _ (c : Choices) (s : List ℕ) where
  abbrev search : Result Flip Refusal
  search = first_that (changes c s) (flips s)

  -- the answer by the four verdicts
  by_verdicts : {e l n r : Verdict} → edition_verdict c.edition ≡ e → length_verdict s ≡ l → counts_verdict s ≡ n → reserved_verdict s ≡ r
      → nearest c s ≡ unless_refused (and_then e (and_then l (and_then n r))) search
  unfolding nearest lawful_verdict
  by_verdicts e l n r = λ k. unless_refused (and_then (e k) (and_then (l k) (and_then (n k) (r k)))) search

  -- ---- the condition of the answer holds

  searched_answers : LawfulPages c s → Searched (changes c s) (flips s) → Answers c s search
  searched_answers w (found f e first) = subst (Answers c s) (sym e) (w, first)
  searched_answers w (none e k) = subst (Answers c s) (sym e) (w, k)

  holds : Answers c s (nearest c s)
  holds = edition (edition_decides c.edition)
    where
      reserved : edition_verdict c.edition ≡ Ok tt → length_verdict s ≡ Ok tt → counts_verdict s ≡ Ok tt
          → (EditionFault c.edition → ⊥) → (LengthFault s → ⊥) → (CountFault s → ⊥)
          → Settles (λ r. (p : ℕ) × (q : ℕ) × ReservedFault s p q × (r ≡ ReservedBytes (entry_at s p q).leaf)) (reserved_verdict s)
          → Answers c s (nearest c s)
      reserved e l n a b d (refuses r f (p, q, g, h) one) =
          subst (Answers c s) (sym (by_verdicts e l n (f ∙ ap Err h))) (a, b, d, p, q, g, refl)
      reserved e l n a b d (passes f g) =
          subst (Answers c s) (sym (by_verdicts e l n f))
          (searched_answers (record { edition = a; pages_length = b; counts = d; reserved = λ p q h. g _ (p, q, h, refl) })
          (searched (changes c s) (flips s)))

      counts : edition_verdict c.edition ≡ Ok tt → length_verdict s ≡ Ok tt → (EditionFault c.edition → ⊥) → (LengthFault s → ⊥)
          → Settles (λ r. CountFault s × (r ≡ PageCount)) (counts_verdict s) → Answers c s (nearest c s)
      counts e l a b (refuses r f (g, h) one) = subst (Answers c s) (sym (by_verdicts e l (f ∙ ap Err h) refl)) (a, b, g)
      counts e l a b (passes f g) = reserved e l f a b (λ h. g PageCount (h, refl)) (reserved_decides s)

      pages_length : edition_verdict c.edition ≡ Ok tt → (EditionFault c.edition → ⊥)
          → Settles (λ r. LengthFault s × (r ≡ PagesLength)) (length_verdict s)
          → Answers c s (nearest c s)
      pages_length e a (refuses r f (g, h) one) = subst (Answers c s) (sym (by_verdicts e (f ∙ ap Err h) refl refl)) (a, g)
      pages_length e a (passes f g) = counts e f a (λ h. g PagesLength (h, refl)) (counts_decide s)

      edition : Settles (λ r. EditionFault c.edition × (r ≡ UnknownEdition)) (edition_verdict c.edition) → Answers c s (nearest c s)
      edition (refuses r f (g, h) one) = subst (Answers c s) (sym (by_verdicts (f ∙ ap Err h) refl refl refl)) g
      edition (passes f g) = pages_length f (λ h. g UnknownEdition (h, refl)) (length_decides s)

  -- ---- the answer whose condition holds is given

  edition_ok : (EditionFault c.edition → ⊥) → edition_verdict c.edition ≡ Ok tt
  edition_ok n = settled_accepts (edition_decides c.edition) (λ r f. n f.0)

  length_ok : (LengthFault s → ⊥) → length_verdict s ≡ Ok tt
  length_ok n = settled_accepts (length_decides s) (λ r f. n f.0)

  counts_ok : (CountFault s → ⊥) → counts_verdict s ≡ Ok tt
  counts_ok n = settled_accepts (counts_decide s) (λ r f. n f.0)

  reserved_ok : ((p q : ℕ) → ReservedFault s p q → ⊥) → reserved_verdict s ≡ Ok tt
  reserved_ok n = settled_accepts (reserved_decides s) (λ r f. n f.0 f.1 f.2)

  lawful_searched : LawfulPages c s → nearest c s ≡ search
  lawful_searched w = by_verdicts (edition_ok w.edition) (length_ok w.pages_length) (counts_ok w.counts) (reserved_ok w.reserved)

  pub front_accepts : LawfulPages c s → front_verdict c s ≡ Ok tt
  unfolding lawful_verdict
  front_accepts w = rw (edition_ok w.edition, length_ok w.pages_length, counts_ok w.counts, reserved_ok w.reserved)

  refusal_given : (r : Refusal) → GivenFor c s r → nearest c s ≡ Err r
  refusal_given UnknownEdition f = by_verdicts (settled_refuses UnknownEdition (edition_decides c.edition) (f, refl)) refl refl refl
  refusal_given PagesLength (a, f) = by_verdicts (edition_ok a) (settled_refuses PagesLength (length_decides s) (f, refl)) refl refl
  refusal_given PageCount (a, b, f) = by_verdicts (edition_ok a) (length_ok b) (settled_refuses PageCount (counts_decide s) (f, refl)) refl
  refusal_given (ReservedBytes leaf) (a, b, d, p, q, f, e) =
      by_verdicts (edition_ok a) (length_ok b) (counts_ok d) (settled_refuses (ReservedBytes leaf) (reserved_decides s) (p, q, f, ap ReservedBytes e))
  refusal_given NothingDecides (w, f) = lawful_searched w ∙ none_found (changes c s) (flips s) f
  refusal_given (MissingRequiredResult leaf subleaf) f = absurd f
  refusal_given InvlpgbUnavailable f = absurd f
  refusal_given SaveAreaOverflow f = absurd f
  refusal_given (TopologyInconsistent e) f = absurd f
  refusal_given BufferTooShort f = absurd f
  refusal_given ListLength f = absurd f
  refusal_given ListRows f = absurd f
  refusal_given ListFields f = absurd f
  refusal_given StateBeyondTable f = absurd f
  refusal_given CompactSizeTooLarge f = absurd f
  refusal_given EditionBack f = absurd f
  refusal_given PoolSets f = absurd f
  refusal_given PoolDiffers f = absurd f

  given : (x : Result Flip Refusal) → Answers c s x → nearest c s ≡ x
  given (Ok f) (w, first) = lawful_searched w ∙ first_found (changes c s) (flips s) f first
  given (Err r) f = refusal_given r f

  pub nearest_exactly : NearestExactly c s
  nearest_exactly x = (λ e. subst (Answers c s) e holds, given x)
