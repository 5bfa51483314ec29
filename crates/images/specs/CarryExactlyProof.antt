-- Each answer of carrying is given exactly as CarryExactly.antt says.
use Rattle.std.specs.Prelude.{◌≡◌, refl, Bool, true, false, ◌&&◌, ℕ, ◌≤◌, ◌<◌, leb, Err, Ok}
use Rattle.std.proofs.Math.Path.{ap}
use Rattle.std.proofs.Common.{◌∙◌, inl, inr, arith, leb-true, leb-false}
use Rattle.bits.specs.Choice.{pick}
use Rattle.bits.specs.ChoiceLaws.{impossible}
use Rattle.table.specs.declared.CpuidResults.{CpuidResults}
use Rattle.table.specs.declared.Refusal.TheVariants.{StateBeyondTable, CompactSizeTooLarge}
use Rattle.table.specs.Edition.{editions, known_edition, bits_between}
use Rattle.table.specs.Table.{empty_table}
use Rattle.guest_state.specs.State.{state_verdict}
use Rattle.refusals.specs.Conditions.{EditionFault}
use Rattle.guest_rise.specs.StateExactly.{StateAnswers}
use Rattle.guest_rise.proofs.StateExactlyProof.{state_answers}
use Rattle.guest_rise.specs.StateExactly.StateAnswers.{beyond, large, given}
use Rattle.table.specs.declared.Refusal.{Refusal}
use Rattle.table.specs.declared.Refusal.TheVariants.{UnknownEdition, EditionBack}
use Rattle.carry.specs.Carry.{own_rows, carried_table, keeps, carry_verdict, carried_given, carry}
use Rattle.images.specs.CarryExactly.{EitherFault, Back, Forward, CarryExactly}
use Rattle.table.specs.Verdict.{Verdict}

-- ---- the proof

-- an edition by its number
data Which (n : ℕ) (b : Bool) : Type 0 where
  known : 1 ≤ n → n ≤ editions → b ≡ true → Which n b
  other : EditionFault n → b ≡ false → Which n b

which : (n : ℕ) → Which n (known_edition n)
unfolding known_edition
which n = go (leb 1 n) refl (leb n editions) refl
  where
    go : (p : Bool) → leb 1 n ≡ p → (q : Bool) → leb n editions ≡ q → Which n (p && q)
    go false e q f = other (inl (leb-false 1 n e)) refl
    go true e false f = other (inr (leb-false n editions f)) refl
    go true e true f = known (leb-true 1 n e) (leb-true n editions f) refl

-- the verdict by both editions, where the state's is v
data Editions (from to : ℕ) (v : Verdict) (w : Verdict) : Type 0 where
  unknown : EitherFault from to → w ≡ Err UnknownEdition → Editions from to v w
  back : Back from to → w ≡ Err EditionBack → Editions from to v w
  forward : Forward from to → w ≡ v → Editions from to v w

by_editions : (t : CpuidResults) (from to xcr0 xss : ℕ) → Editions from to (state_verdict (own_rows t) xcr0 xss) (carry t from to xcr0 xss).verdict
unfolding carry carry_verdict
by_editions t from to xcr0 xss = go (which from) (which to)
  where
    v : Verdict
    v = state_verdict (own_rows t) xcr0 xss

    ordered : (b : Bool) → leb from to ≡ b → 1 ≤ from → from ≤ editions → 1 ≤ to → to ≤ editions
        → Editions from to v (pick b v (Err EditionBack))
    ordered true e p q r s = forward (p, leb-true from to e, s) refl
    ordered false e p q r s = back (r, leb-false from to e, q) refl

    go : Which from (known_edition from) → Which to (known_edition to) → Editions from to v (carry t from to xcr0 xss).verdict
    go (other f e) w = unknown (inl f) (rw e)
    go (known p q e) (other g h) = unknown (inr g) (rw (e, h))
    go (known p q e) (known r s h) = rw (e, h) (ordered (leb from to) refl p q r s)

-- the three exclude each other
fault_forward : {from to : ℕ} → EitherFault from to → Forward from to → ⊥
fault_forward (inl (inl f)) (p, q, r) = omega arith
fault_forward (inl (inr f)) (p, q, r) = omega arith
fault_forward (inr (inl f)) (p, q, r) = omega arith
fault_forward (inr (inr f)) (p, q, r) = omega arith

fault_back : {from to : ℕ} → EitherFault from to → Back from to → ⊥
fault_back (inl (inl f)) (p, q, r) = omega arith
fault_back (inl (inr f)) (p, q, r) = omega arith
fault_back (inr (inl f)) (p, q, r) = omega arith
fault_back (inr (inr f)) (p, q, r) = omega arith

back_forward : {from to : ℕ} → Back from to → Forward from to → ⊥
back_forward (p, q, r) (u, v, w) = omega arith

module _ (t : CpuidResults) (from to xcr0 xss : ℕ) where
  empty_table_lem : (r : Refusal) → (carry t from to xcr0 xss).verdict ≡ Err r → (carry t from to xcr0 xss).table ≡ empty_table
  unfolding carry
  empty_table_lem r e = ap (λ (v : Verdict). carried_given v (carried_table (bits_between from to) (keeps t from to) t)) e

  pub carry_exactly : CarryExactly t from to xcr0 xss
  carry_exactly = go (by_editions t from to xcr0 xss) (state_answers (own_rows t) xcr0 xss)
    where
      go : Editions from to (state_verdict (own_rows t) xcr0 xss) (carry t from to xcr0 xss).verdict
          → StateAnswers (own_rows t) xcr0 xss (state_verdict (own_rows t) xcr0 xss) → CarryExactly t from to xcr0 xss
      go (unknown f e) w = record {
        unknown = (λ p. f, λ q. e);
        back = (λ p. impossible (cc), λ q. absurd (fault_back f q));
        beyond = (λ p. impossible (cc), λ q. absurd (fault_forward f q.0));
        large = (λ p. impossible (cc), λ q. absurd (fault_forward f q.0));
        given = (λ p. impossible (cc), λ q. absurd (fault_forward f q.0));
        empty = empty_table_lem;
      }
      go (back f e) w = record {
        unknown = (λ p. impossible (cc), λ q. absurd (fault_back q f));
        back = (λ p. f, λ q. e);
        beyond = (λ p. impossible (cc), λ q. absurd (back_forward f q.0));
        large = (λ p. impossible (cc), λ q. absurd (back_forward f q.0));
        given = (λ p. impossible (cc), λ q. absurd (back_forward f q.0));
        empty = empty_table_lem;
      }
      go (forward f e) (beyond h g) =
          let o : (carry t from to xcr0 xss).verdict ≡ Err StateBeyondTable = e ∙ g in
          record {
            unknown = (λ p. impossible (cc), λ q. absurd (fault_forward q f));
            back = (λ p. impossible (cc), λ q. absurd (back_forward q f));
            beyond = (λ p. (f, h), λ q. o);
            large = (λ p. impossible (cc), λ q. absurd (h q.1));
            given = (λ p. impossible (cc), λ q. absurd (h q.1));
            empty = empty_table_lem;
          }
      go (forward f e) (large h k g) =
          let o : (carry t from to xcr0 xss).verdict ≡ Err CompactSizeTooLarge = e ∙ g in
          record {
            unknown = (λ p. impossible (cc), λ q. absurd (fault_forward q f));
            back = (λ p. impossible (cc), λ q. absurd (back_forward q f));
            beyond = (λ p. impossible (cc), λ q. absurd (q.1 h));
            large = (λ p. (f, h, k), λ q. o);
            given = (λ p. impossible (cc), λ q. absurd (q.2 k));
            empty = empty_table_lem;
          }
      go (forward f e) (given h k g) =
          let o : (carry t from to xcr0 xss).verdict ≡ (Ok tt) = e ∙ g in
          record {
            unknown = (λ p. impossible (cc), λ q. absurd (fault_forward q f));
            back = (λ p. impossible (cc), λ q. absurd (back_forward q f));
            beyond = (λ p. impossible (cc), λ q. absurd (q.1 h));
            large = (λ p. impossible (cc), λ q. absurd (k q.2));
            given = (λ p. (f, h, k), λ q. o);
            empty = empty_table_lem;
          }
