-- The table of numbers names exactly what the refusals set.
use Rattle.std.specs.Prelude.{◌≡◌, refl, Bool, true, false, ◌&&◌, ◌||◌, not, ◌≢◌, ℕ, eqb, length, None, Option, Some}
use Rattle.std.proofs.Common.{ap, eqb-true, eq-eqb}
use Rattle.std.proofs.lemmas.Bool.{false≢true}
use Rattle.bits.specs.Choice.{pick}
use Rattle.bits.specs.ChoiceLaws.{never_both}
use Rattle.bits.specs.Search.{every}
use Rattle.topology.specs.declared.TopologyError.TheVariants.{Hyperthreading, ProcessorCount, ThreadsPerUnit}
use Rattle.table.specs.declared.Refusal.{Refusal}
use Rattle.table.specs.declared.Refusal.TheVariants.{PagesLength, PageCount, MissingRequiredResult, InvlpgbUnavailable, SaveAreaOverflow, TopologyInconsistent, BufferTooShort, ListLength, ListRows, ListFields, StateBeyondTable, CompactSizeTooLarge, UnknownEdition, EditionBack, ReservedBytes, PoolSets, PoolDiffers, NothingDecides}
use Rattle.table.specs.Refusal.{Details, details, refusal_with}
use Rattle.lines.specs.declared.bytes.names.Named.{Named}
use Rattle.lines.specs.NumbersInUse.{rows, names}
use Rattle.lines.specs.Line.{is_none}

-- ---- what a refusal sets, its number names

abbrev pub only_named : Named → Details → Bool
only_named k d = k.used && ((k.leaf || eqb d.leaf 0) && ((k.subleaf || is_none d.subleaf) && (k.s || eqb d.s 0)))

pub only_named_lem : (r : Refusal) → only_named (names (details r).number) (details r) ≡ true
unfolding names rows
only_named_lem PagesLength = refl
only_named_lem PageCount = refl
only_named_lem (MissingRequiredResult leaf subleaf) = refl
only_named_lem InvlpgbUnavailable = refl
only_named_lem SaveAreaOverflow = refl
only_named_lem (TopologyInconsistent (Hyperthreading s)) = refl
only_named_lem (TopologyInconsistent (ProcessorCount s)) = refl
only_named_lem (TopologyInconsistent ThreadsPerUnit) = refl
only_named_lem BufferTooShort = refl
only_named_lem ListLength = refl
only_named_lem ListRows = refl
only_named_lem ListFields = refl
only_named_lem StateBeyondTable = refl
only_named_lem CompactSizeTooLarge = refl
only_named_lem UnknownEdition = refl
only_named_lem EditionBack = refl
only_named_lem (ReservedBytes leaf) = refl
only_named_lem PoolSets = refl
only_named_lem PoolDiffers = refl
only_named_lem NothingDecides = refl

pub record SetsNamed (k : Named) (d : Details) : Type 0 where
  pub used : k.used ≡ true
  pub leaf : (k.leaf || eqb d.leaf 0) ≡ true
  pub subleaf : (k.subleaf || is_none d.subleaf) ≡ true
  pub s : (k.s || eqb d.s 0) ≡ true

-- a detail that is set is named
pub set_named : (named : Bool) (x : ℕ) → (named || eqb x 0) ≡ true → x ≢ 0 → named ≡ true
set_named true x e h = refl
set_named false x e h = absurd (h (eqb-true x 0 e))

pub some_named : (named : Bool) (k : Option ℕ) (j : ℕ) → (named || is_none k) ≡ true → k ≡ Some j → named ≡ true
some_named true k j e h = refl
some_named false k j e h = absurd (never_both e (ap is_none h))

-- ---- what a number names, this refusal with that number sets; one test over the table's rows

abbrev pub sample : ℕ → Refusal
sample n = refusal_with (record { number = n; leaf = 1; subleaf = Some 1; s = 1 })

-- of the numbers in use; 0 is not
abbrev pub sample_test : Refusal → ℕ → Named → Bool
sample_test r n k =
    pick k.used (eqb (details r).number n) true
    && (pick k.leaf (eqb (details r).number n && not (eqb (details r).leaf 0)) true
    && (pick k.subleaf (eqb (details r).number n && not (is_none (details r).subleaf)) true
    && pick k.s (eqb (details r).number n && not (eqb (details r).s 0)) true))

pub all_sampled : every (λ n. sample_test (sample n) n (names n)) (length rows) ≡ true
unfolding names rows
all_sampled = refl

pub not_zero : (x : ℕ) → not (eqb x 0) ≡ true → x ≢ 0
not_zero x e z = go (eqb x 0) (eq-eqb x 0 z) e
  where
    go : (b : Bool) → b ≡ true → not b ≡ true → ⊥
    go true p q = false≢true q
    go false p q = false≢true p

pub some_subleaf : (k : Option ℕ) → not (is_none k) ≡ true → (j : ℕ) × (k ≡ Some j)
some_subleaf None e = absurd (false≢true e)
some_subleaf (Some j) e = (j, refl)
