-- Document 02, P13: "Answers: 20 no flip changes anything, after 15; pages refused by 1, 2 or 17 give that number." Each answer with what it is given
-- for, by itself; the conditions of 15, 1, 2 and 17 are building's (crates/refusals/specs/Conditions.antt).
use Rattle.std.specs.Prelude.{◌≡◌, Bool, true, List, [], ◌∷◌, ◌++◌, ◌↔◌, ℕ, Err, Ok, Result}
use Rattle.bits.specs.Lists.{keep_if}
use Rattle.pages.specs.Bytes.{AreBytes}
use Rattle.pages.specs.Layout.{entry_at}
use Rattle.table.specs.declared.Choices.{Choices}
use Rattle.table.specs.declared.Refusal.{Refusal}
use Rattle.table.specs.declared.Refusal.TheVariants.{PagesLength, PageCount, MissingRequiredResult, InvlpgbUnavailable, SaveAreaOverflow, TopologyInconsistent, BufferTooShort, ListLength, ListRows, ListFields, StateBeyondTable, CompactSizeTooLarge, UnknownEdition, EditionBack, ReservedBytes, PoolSets, PoolDiffers, NothingDecides}
use Rattle.checks.specs.Checks.{missing_required}
use Rattle.build.specs.Build.{rows_for, answer}
use Rattle.refusals.specs.Conditions.{EditionFault, LengthFault, CountFault, ReservedFault, RequiredFault}
use Rattle.nearest.specs.declared.flips.Flip.{Flip}
use Rattle.nearest.specs.Flips.{flips}
use Rattle.nearest.specs.Changes.{changes}
use Rattle.nearest.specs.Nearest.{nearest}

-- neither 15, 1, 2 nor 17 applies
pub record LawfulPages (c : Choices) (s : List ℕ) : Type 0 where
  pub edition : EditionFault c.edition → ⊥
  pub pages_length : LengthFault s → ⊥
  pub counts : CountFault s → ⊥
  pub reserved : (p q : ℕ) → ReservedFault s p q → ⊥

-- f is one of the flips and passes the test, and of those before it none does
pub record FirstOf (test : Flip → Bool) (fs : List Flip) (f : Flip) : Type 0 where
  pub before : List Flip
  pub after : List Flip
  pub order : fs ≡ before ++ f ∷ after
  pub none : keep_if test before ≡ []
  pub passes : test f ≡ true

-- what each refusal is given for; those that are not named here never are
abbrev pub GivenFor : Choices → List ℕ → Refusal → Type 0
GivenFor c s UnknownEdition = EditionFault c.edition
GivenFor c s PagesLength = (EditionFault c.edition → ⊥) × LengthFault s
GivenFor c s PageCount = (EditionFault c.edition → ⊥) × (LengthFault s → ⊥) × CountFault s
GivenFor c s (ReservedBytes leaf) =
    (EditionFault c.edition → ⊥) × (LengthFault s → ⊥) × (CountFault s → ⊥)
    × (p : ℕ) × (q : ℕ) × ReservedFault s p q × (leaf ≡ (entry_at s p q).leaf)
GivenFor c s NothingDecides = LawfulPages c s × (keep_if (changes c s) (flips s) ≡ [])
GivenFor c s (MissingRequiredResult leaf subleaf) = ⊥
GivenFor c s InvlpgbUnavailable = ⊥
GivenFor c s SaveAreaOverflow = ⊥
GivenFor c s (TopologyInconsistent e) = ⊥
GivenFor c s BufferTooShort = ⊥
GivenFor c s ListLength = ⊥
GivenFor c s ListRows = ⊥
GivenFor c s ListFields = ⊥
GivenFor c s StateBeyondTable = ⊥
GivenFor c s CompactSizeTooLarge = ⊥
GivenFor c s EditionBack = ⊥
GivenFor c s PoolSets = ⊥
GivenFor c s PoolDiffers = ⊥

abbrev pub Answers : Choices → List ℕ → Result Flip Refusal → Type 0
Answers c s (Ok f) = LawfulPages c s × FirstOf (changes c s) (flips s) f
Answers c s (Err r) = GivenFor c s r

-- each answer exactly
abbrev pub NearestExactly : Choices → List ℕ → Type 0
NearestExactly c s = (x : Result Flip Refusal) → (nearest c s ≡ x) ↔ Answers c s x

-- 20 exactly where building gives 3 for a leaf of the two required lists, "since else" INVLPGB's bit decides: the j-th has no row
abbrev pub MissesRequired : Choices → List ℕ → Type 0
MissesRequired c s = (j : ℕ) × RequiredFault (rows_for c s) j × ((answer c s).verdict ≡ Err (missing_required j))

abbrev pub TwentyExactly : Choices → List ℕ → Type 0
TwentyExactly c s = AreBytes s → (nearest c s ≡ Err NothingDecides) ↔ MissesRequired c s
