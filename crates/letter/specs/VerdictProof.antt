-- The verdict of any page bytes is the paper's.
use Rattle.std.specs.Prelude.{◌≡◌, Bool, ◌&&◌, ◌||◌, List, [], ◌∷◌, eqb, ltb, leb, Err, Ok}
use Rattle.std.proofs.Math.Path.{refl, sym, ap, ap₂, fun_ext}
use Rattle.std.proofs.Common.{◌∙◌, le_antisymm, arith, lit<, eqb-true, leb-true}
use Rattle.std.proofs.Math.Bool.{true, false}
use Prim.Native.Nat.{ℕ, zero, suc, ◌+◌, ◌*◌, ◌^◌, ◌<◌, ◌≤◌}
use Rattle.std.proofs.lemmas.Bool.{eqb-false}
use Rattle.std.specs.Int.Bits.{bit_or}
use Rattle.bits.specs.Choice.{pick}
use Rattle.bits.specs.ChoiceLaws.{never_both}
use Rattle.bits.specs.Search.{lowest}
use Rattle.bits.specs.Search.Failing.{at as stop}
use Rattle.bits.specs.Bits.{has, bit, field, field_mask, mask_of}
use Rattle.bits.specs.BitsLaws.{within_refl}
use Rattle.x86defs.specs.Functions.{cpuid_result}
use Rattle.x86defs.specs.Fields.{fields_mask}
use Rattle.pages.specs.Layout.{Entry, bad_length, counts_fit}
use Rattle.pages.specs.Entries as Entries
use Rattle.pages.specs.Reserved.{eight_zeros, first_nonzero, reserved_of}
use Rattle.masking.specs.Masks as Masks
use Rattle.masking.specs.Kept.{kept_leaves, place_of, slot}
use Rattle.masking.specs.Place
use Rattle.table.specs.declared.Choices.{Choices}
use Rattle.table.specs.declared.Refusal.{Refusal}
use Rattle.table.specs.declared.Refusal.TheVariants.{UnknownEdition, TopologyInconsistent, InvlpgbUnavailable, SaveAreaOverflow, ReservedBytes}
use Rattle.table.specs.Edition.{known_edition}
use Rattle.table.specs.Refusal.{and_then}
use Rattle.table.specs.Rows.{Row, Rows, row, vacant}
use Rattle.topology.specs.declared.TopologyError.TheVariants.{Hyperthreading, ProcessorCount, ThreadsPerUnit}
use Rattle.topology.specs.Topology.{Inputs, topology_of, threads_in}
use Rattle.checks.specs.Required.{common_required_leaves, snp_required_leaves, required_at, required_count, place_required}
use Rattle.checks.specs.ExtendedState as State
use Rattle.checks.specs.ExtendedStateLaws.{area_mono, in_combined}
use Rattle.checks.specs.TopologyInputs.{inputs_of}
use Rattle.checks.specs.Checks.{refuse_unless, refuse_at, missing_required, missing_component, required_verdict, invlpgb_verdict, components_of, components_verdict, size_verdict, area_verdict, topology_refusal, topology_verdict, rows_verdict}
use Rattle.checks.specs.ChecksLaws.{required_present, component_present}
use Rattle.collect.specs.FirstEntries.{first_at, legacy_features, masked_at, rows_of}
use Rattle.collect.specs.Lawful.{length_verdict, counts_verdict, clean_verdict, reserved_verdict, lawful_verdict}
use Rattle.build.specs.Build.{edition_verdict, rows_for, verdict_of, answer}
use Rattle.letter.specs.Paper.{first, ◌then◌, area, topology, required, first_missing, components, first_unclean, read_entries}
use Rattle.letter.specs.Paper as Paper
use Rattle.letter.specs.Names.{place_for}
use Rattle.letter.specs.CountedProof.{entries_same, counted_same}
use Rattle.table.specs.Verdict.{Verdict}

-- ---- words

pub then_is : (u v : Verdict) → and_then u v ≡ u then v
then_is (Ok _) v = refl
then_is (Err r) v = refl

-- a search, as a chain of choices
abbrev pub chain : (ℕ → Bool) → (ℕ → Refusal) → ℕ → ℕ → Verdict
chain test r k zero = Ok tt
chain test r k (suc n) = pick (test k) (chain test r (suc k) n) (Err (r k))

pub lowest_chain : (test : ℕ → Bool) (r : ℕ → Refusal) (k n : ℕ) → refuse_at (lowest test k n) r ≡ chain test r k n
unfolding lowest
lowest_chain test r k zero = refl
lowest_chain test r k (suc n) = go (test k) (lowest_chain test r (suc k) n)
  where
    go : (b : Bool) → refuse_at (lowest test (suc k) n) r ≡ chain test r (suc k) n
        → refuse_at (pick b (lowest test (suc k) n) (stop k)) r ≡ pick b (chain test r (suc k) n) (Err (r k))
    go true e = e
    go false e = refl

pub then_assoc : (u v w x : Verdict) → and_then (and_then u (and_then v w)) x ≡ u then (v then (w then x))
then_assoc (Ok _) (Ok _) w x = then_is w x
then_assoc (Ok _) (Err r) w x = refl
then_assoc (Err r) v w x = refl

-- 1, 2 and 17 by themselves
pub then_three : (u v w : Verdict) → and_then u (and_then v w) ≡ u then (v then w)
then_three (Ok _) v w = then_is v w
then_three (Err r) v w = refl
