-- The order of the servers beyond the first does not matter: two pools with the same first server, each of whose servers are the other's, join to the
-- same rows, and 19 is due in both or in neither.
use Rattle.std.specs.Prelude.{◌≡◌, refl, Bool, true, false, List, eqb, length, Err, Ok}
use Rattle.std.proofs.Common.{sym, ◌∙◌, subst, inl, inr, arith, eqb-true}
use Rattle.std.proofs.Math.Path.{ap, ap₂, fun_ext}
use Prim.Native.Nat.{ℕ, zero, suc, ◌-◌, ◌≤◌, ◌<◌, ◌^◌}
use Rattle.std.specs.Int.Bits.{bit_and, bit_or}
use Rattle.std.proofs.lemmas.Bool.{eqb-false}
use Rattle.bits.specs.Choice.{pick}
use Rattle.bits.specs.Search.{every}
use Rattle.bits.specs.Bits.{bit, Within}
use Rattle.bits.specs.BitsLaws.{bit_and_lem, bits_ext, within_trans, within_eq, within_antisym}
use Rattle.x86defs.specs.declared.CpuidResult.{CpuidResult}
use Rattle.masking.specs.Kept.{places}
use Rattle.table.specs.declared.Choices.{Choices}
use Rattle.table.specs.declared.CpuidResults.{CpuidResults}
use Rattle.table.specs.declared.Refusal.TheVariants.{PoolDiffers}
use Rattle.table.specs.Rows.{Row, Rows}
use Rattle.finish.specs.Finish.{finished}
use Rattle.finish.specs.Kinds.{Kind, Kinds, Registers, kinds_at}
use Rattle.finish.specs.Kinds.Kind.{feature, feature_but28, area, freed, other}
use Rattle.finish.specs.RowsBuilt.{table_for}
use Rattle.build.specs.Build.{rows_for, origins_in, answer}
use Rattle.register_masks.specs.Join.{joined_register, with_server, pool, and_to, all_to}
use Rattle.register_masks.specs.Alike.{registers_alike, all_have, alike_to, all_alike, AlikeAt, AllAlike}
use Rattle.register_masks.specs.RegisterRunLaws.{all_at, all_of, and_to_within, and_to_greatest}
use Rattle.register_masks.specs.JoinedEntryLaws.{keeps_28, joins_others}
use Rattle.register_masks.specs.AlikeLaws.{same_truth, alike_of_test, test_of_alike}
use Rattle.pool.specs.Sets.{set_at, last_of, lawful_sets}
use Rattle.pool.proofs.SetsLaws.{at_least_two}
use Rattle.pool.specs.Servers.{server_verdict, server_rows, pool_rows}
use Rattle.pool.specs.declared.Pooled.{Pooled}
use Rattle.pool.specs.Pool.{alike_verdict}
use Rattle.pool.proofs.PooledLaws.{pooled_by, pooled_alike}
use Rattle.pool_laws.specs.RowsPool.{PoolAmong}
use Rattle.pool_laws.specs.PoolRight.{SetsAmong, OrderFree}
use Rattle.table.specs.Verdict.{Verdict}

-- ---- a joined register, said without the order

-- z is the join of x 0 to x n
abbrev Joins : Kind → ℕ → (ℕ → ℕ) → ℕ → Type 0
Joins feature z x n = z ≡ and_to x n
Joins feature_but28 z x n = (bit 28 z ≡ bit 28 (x 0)) × ((j : ℕ) → (j ≡ 28 → ⊥) → bit j z ≡ bit j (and_to x n))
Joins area z x n = z ≡ x 0
Joins freed z x n = z ≡ x 0
Joins other z x n = z ≡ x 0

joins_first : (k : Kind) (x : ℕ → ℕ) → Joins k (x 0) x 0
unfolding and_to
joins_first feature x = refl
joins_first feature_but28 x = (refl, λ j h. refl)
joins_first area x = refl
joins_first freed x = refl
joins_first other x = refl

joins_next : (k : Kind) (z : ℕ) (x : ℕ → ℕ) (n : ℕ) → Joins k z x n → Joins k (joined_register k z (x (suc n))) x (suc n)
unfolding and_to
joins_next feature z x n p = ap (λ (w : ℕ). bit_and w (x (suc n))) p
joins_next feature_but28 z x n p = (
  keeps_28 z (x (suc n)) ∙ p.0,
  λ j h. joins_others z (x (suc n)) j h ∙ omega (arith, bit_and_lem j z (x (suc n)), bit_and_lem j (and_to x n) (x (suc n)), p.1 j h),
)
joins_next area z x n p = p
joins_next freed z x n p = p
joins_next other z x n p = p

-- it is determined by the first and the and of all
joins_same : (k : Kind) (z w : ℕ) (x y : ℕ → ℕ) (n m : ℕ) → Joins k z x n → Joins k w y m → x 0 ≡ y 0 → and_to x n ≡ and_to y m → z ≡ w
joins_same feature z w x y n m p q e a = p ∙ a ∙ sym q
joins_same feature_but28 z w x y n m p q e a = bits_ext z w at_bit
  where
    at_bit : (j : ℕ) → bit j z ≡ bit j w
    at_bit j = go (eqb j 28) refl
      where
        go : (t : Bool) → eqb j 28 ≡ t → bit j z ≡ bit j w
        go true h = let i : j ≡ 28 = eqb-true j 28 h in rw i (p.0 ∙ ap (bit 28) e ∙ sym q.0)
        go false h = p.1 j (eqb-false j 28 h) ∙ ap (bit j) a ∙ sym (q.1 j (eqb-false j 28 h))
joins_same area z w x y n m p q e a = p ∙ e ∙ sym q
joins_same freed z w x y n m p q e a = p ∙ e ∙ sym q
joins_same other z w x y n m p q e a = p ∙ e ∙ sym q

-- ---- the joined rows

record RowJoins (k : Kinds) (z : CpuidResult) (x : ℕ → CpuidResult) (n : ℕ) : Type 0 where
  eax : Joins k.eax z.eax (λ j. (x j).eax) n
  ebx : Joins k.ebx z.ebx (λ j. (x j).ebx) n
  ecx : Joins k.ecx z.ecx (λ j. (x j).ecx) n
  edx : Joins k.edx z.edx (λ j. (x j).edx) n

row_joins : (f : ℕ → Rows) (n i : ℕ) → RowJoins (kinds_at i) (pool f n i).result (λ j. (f j i).result) n
unfolding pool with_server
row_joins f zero i = record {
  eax = joins_first (kinds_at i).eax (λ j. (f j i).result.eax);
  ebx = joins_first (kinds_at i).ebx (λ j. (f j i).result.ebx);
  ecx = joins_first (kinds_at i).ecx (λ j. (f j i).result.ecx);
  edx = joins_first (kinds_at i).edx (λ j. (f j i).result.edx);
}
row_joins f (suc n) i =
    let p = row_joins f n i in
    record {
      eax = joins_next (kinds_at i).eax _ (λ j. (f j i).result.eax) n p.eax;
      ebx = joins_next (kinds_at i).ebx _ (λ j. (f j i).result.ebx) n p.ebx;
      ecx = joins_next (kinds_at i).ecx _ (λ j. (f j i).result.ecx) n p.ecx;
      edx = joins_next (kinds_at i).edx _ (λ j. (f j i).result.edx) n p.edx;
    }

first_present : (f : ℕ → Rows) (n i : ℕ) → (pool f n i).present ≡ (f 0 i).present
unfolding pool with_server
first_present f zero i = refl
first_present f (suc n) i = first_present f n i

module _ (f : ℕ → Rows) (n : ℕ) (g : ℕ → Rows) (m : ℕ) (first : f 0 ≡ g 0) (to : PoolAmong f n g m) (back : PoolAmong g m f n) where
  -- what is read of each server
  and_same : (read : Rows → ℕ) → and_to (λ j. read (f j)) n ≡ and_to (λ j. read (g j)) m
  and_same read =
      within_antisym
      (and_to_greatest (λ j. read (g j)) m
      (λ k l. within_trans (and_to_within (λ j. read (f j)) n (back.place k l) (back.below k l)) (within_eq (ap read (back.same k l)))))
      (and_to_greatest (λ j. read (f j)) n
      (λ k l. within_trans (and_to_within (λ j. read (g j)) m (to.place k l) (to.below k l)) (within_eq (ap read (to.same k l)))))

  all_same : (test : Rows → Bool) → all_to (λ j. test (f j)) n ≡ all_to (λ j. test (g j)) m
  all_same test =
      same_truth _ _
      (λ e. all_of (λ j. test (g j)) m
      (λ k l. sym (ap test (back.same k l)) ∙ all_at (λ j. test (f j)) n e (back.place k l) (back.below k l)))
      (λ e. all_of (λ j. test (f j)) n (λ k l. sym (ap test (to.same k l)) ∙ all_at (λ j. test (g j)) m e (to.place k l) (to.below k l)))

  row_same : (i : ℕ) → pool f n i ≡ pool g m i
  row_same i =
      let p = row_joins f n i in
      let q = row_joins g m i in
      λ t. record {
        present = (first_present f n i ∙ ap (λ (r : Rows). (r i).present) first ∙ sym (first_present g m i)) t;
        result = record {
          eax = joins_same (kinds_at i).eax _ _ (λ j. (f j i).result.eax) (λ j. (g j i).result.eax) n m p.eax q.eax
              (ap (λ (r : Rows). (r i).result.eax) first) (and_same (λ r. (r i).result.eax)) t;
          ebx = joins_same (kinds_at i).ebx _ _ (λ j. (f j i).result.ebx) (λ j. (g j i).result.ebx) n m p.ebx q.ebx
              (ap (λ (r : Rows). (r i).result.ebx) first) (and_same (λ r. (r i).result.ebx)) t;
          ecx = joins_same (kinds_at i).ecx _ _ (λ j. (f j i).result.ecx) (λ j. (g j i).result.ecx) n m p.ecx q.ecx
              (ap (λ (r : Rows). (r i).result.ecx) first) (and_same (λ r. (r i).result.ecx)) t;
          edx = joins_same (kinds_at i).edx _ _ (λ j. (f j i).result.edx) (λ j. (g j i).result.edx) n m p.edx q.edx
              (ap (λ (r : Rows). (r i).result.edx) first) (and_same (λ r. (r i).result.edx)) t;
        };
      }

  rows_same : pool f n ≡ pool g m
  rows_same = fun_ext row_same

  -- 19
  alike_same : (edition : ℕ) → all_alike edition f n ≡ all_alike edition g m
  unfolding all_alike all_have alike_to
  alike_same edition =
      ap (λ (test : ℕ → Bool). every test places)
      (fun_ext (λ i. ap₂ (λ (a b : Bool). pick a b true) (all_same (λ r. (finished edition r i).present))
      (all_same (λ r. registers_alike (kinds_at i) (f 0 i).result (r i).result)
      ∙ ap (λ (r : Rows). all_to (λ k. registers_alike (kinds_at i) (r i).result (g k i).result) m) first)))

-- ---- over page bytes

pub order_free : OrderFree
unfolding alike_verdict
order_free c pages lengths again againLengths lawful lawful₂ first to back each =
    let f : ℕ → Rows = server_rows c pages lengths in
    let g : ℕ → Rows = server_rows c again againLengths in
    let n : ℕ = last_of lengths in
    let m : ℕ = last_of againLengths in
    let e : f 0 ≡ g 0 = ap (rows_for c) first in
    let t : PoolAmong f n g m = record { place = to.place; below = to.below; same = λ k l. ap (rows_for c) (to.same k l) } in
    let b : PoolAmong g m f n = record { place = back.place; below = back.below; same = λ k l. ap (rows_for c) (back.same k l) } in
    let two = at_least_two pages lengths lawful in
    let two₂ = at_least_two again againLengths lawful₂ in
    let each₂ : (k : ℕ) → k < length againLengths → server_verdict c again againLengths k ≡ (Ok tt) = λ k l.
    let u : k ≤ last_of againLengths = omega arith in
    ap (λ (s : List ℕ). (answer c s).verdict) (sym (back.same k u)) ∙ each (back.place k u) (omega (arith, back.below k u)) in
    let v : alike_verdict c pages lengths ≡ alike_verdict c again againLengths =
    ap (λ (x : Bool). pick x (Ok tt) (Err PoolDiffers)) (alike_same f n g m e t b c.edition) in
    let r : pool_rows c pages lengths ≡ pool_rows c again againLengths = rows_same f n g m e t b in
    let x : Verdict = alike_verdict c again againLengths in
    let w : CpuidResults = table_for c.edition x (pool_rows c again againLengths) in
    pooled_alike c pages lengths lawful each
    ∙ ap₂ (λ (x : Verdict) (w : Rows). pooled_by c pages lengths x 0 (table_for c.edition x w)) v r
    ∙ ap (λ (s : List ℕ). record { verdict = x; server = 0; table = w; origins = origins_in w s }) first
    ∙ sym (pooled_alike c again againLengths lawful₂ each₂)
