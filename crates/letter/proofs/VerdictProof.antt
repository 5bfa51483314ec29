-- The verdict of any page bytes is the paper's.
use Rattle.std.specs.Prelude.{◌≡◌, Bool, ◌&&◌, ◌||◌, List, [], ◌∷◌, eqb, ltb, leb, Err, None, Ok, Option, Some}
use Rattle.std.proofs.Math.Path.{refl, sym, ap, ap₂, fun_ext}
use Rattle.std.proofs.Common.{◌∙◌, le_antisymm, arith, lit<, eqb-true, leb-true}
use Rattle.std.proofs.Math.Bool.{true, false}
use Prim.Native.Nat.{ℕ, zero, suc, ◌+◌, ◌*◌, ◌^◌, ◌<◌, ◌≤◌}
use Rattle.std.proofs.lemmas.Bool.{eqb-false}
use Rattle.std.specs.Int.Bits.{bit_or}
use Rattle.bits.specs.Choice.{pick}
use Rattle.bits.specs.ChoiceLaws.{never_both}
use Rattle.bits.specs.Search.{lowest}
use Rattle.bits.specs.Search.Failing.{at as stop}
use Rattle.bits.specs.Bits.{has, bit, field, field_mask, mask_of}
use Rattle.bits.specs.BitsLaws.{within_refl}
use Rattle.x86defs.specs.Functions.{cpuid_result}
use Rattle.x86defs.specs.Fields.{fields_mask}
use Rattle.pages.specs.Layout.{Entry, bad_length, counts_fit}
use Rattle.pages.specs.Entries as Entries
use Rattle.pages.specs.Reserved.{eight_zeros, first_nonzero, reserved_of}
use Rattle.masking.specs.Masks as Masks
use Rattle.masking.specs.Kept.{kept_leaves, place_of, slot}
use Rattle.masking.specs.Place
use Rattle.table.specs.declared.Choices.{Choices}
use Rattle.table.specs.declared.Refusal.{Refusal}
use Rattle.table.specs.declared.Refusal.TheVariants.{UnknownEdition, TopologyInconsistent, InvlpgbUnavailable, SaveAreaOverflow, ReservedBytes}
use Rattle.table.specs.Edition.{known_edition}
use Rattle.table.specs.Refusal.{and_then}
use Rattle.table.specs.Rows.{Row, Rows, row, vacant}
use Rattle.topology.specs.declared.TopologyError.TheVariants.{Hyperthreading, ProcessorCount, ThreadsPerUnit}
use Rattle.topology.specs.Topology.{Inputs, topology_of, threads_in}
use Rattle.checks.specs.Required.{common_required_leaves, snp_required_leaves, required_at, required_count, place_required}
use Rattle.checks.specs.ExtendedState as State
use Rattle.checks.specs.ExtendedStateLaws.{area_mono, in_combined}
use Rattle.checks.specs.TopologyInputs.{inputs_of}
use Rattle.checks.specs.Checks.{refuse_unless, refuse_at, missing_required, missing_component, required_verdict, invlpgb_verdict, components_of, components_verdict, size_verdict, area_verdict, topology_refusal, topology_verdict, rows_verdict}
use Rattle.checks.specs.ChecksLaws.{required_present, component_present}
use Rattle.collect.specs.FirstEntries.{first_at, legacy_features, masked_at, rows_of}
use Rattle.collect.specs.Lawful.{length_verdict, counts_verdict, clean_verdict, reserved_verdict, lawful_verdict}
use Rattle.build.specs.Build.{edition_verdict, rows_for, verdict_of, answer}
use Rattle.letter.specs.Paper.{first, ◌then◌, area, topology, required, first_missing, components, first_unclean, read_entries}
use Rattle.letter.specs.Paper as Paper
use Rattle.letter.specs.Names.{place_for}
use Rattle.letter.proofs.FirstProof.{kept_first, told_first, kept_told}
use Rattle.letter.specs.CountedProof.{entries_same, counted_same}
use Rattle.letter.specs.VerdictProof.{chain, lowest_chain, then_assoc, then_is, then_three}
use Rattle.table.specs.Verdict.{Verdict}

-- the same once the first accepts
then_both : (u v w : Verdict) → (u ≡ Ok tt → v ≡ w) → and_then u v ≡ u then w
then_both (Ok _) v w f = f refl
then_both (Err r) v w f = refl

-- ---- the topology

pub topology_same : (i : Inputs) → topology_refusal (topology_of i) ≡ topology i
unfolding topology_of topology threads_in
topology_same i =
    go (eqb i.s 0) (eqb i.mt 0) (eqb i.nc 0 && leb i.lps 1) (eqb i.lps (i.nc + 1)) (ltb i.s 8)
    (leb (i.nc + 1) (2 ^ i.s) && eqb i.lps (2 ^ i.s)) (eqb i.mt 1)
  where
    threads : ℕ → Verdict
    threads v = pick (ltb 1 i.t || leb v i.t) (Err (TopologyInconsistent ThreadsPerUnit)) (Ok tt)

    last : (v : ℕ) → topology_refusal (threads_in v i.t) ≡ threads v
    last v = at (ltb 1 i.t || leb v i.t)
      where
        at : (b : Bool) → topology_refusal (pick b (Err ThreadsPerUnit) (Ok v))
            ≡ pick b (Err (TopologyInconsistent ThreadsPerUnit)) (Ok tt)
        at true = refl
        at false = refl

    go : (a m c d f g h : Bool)
        → topology_refusal
        (pick a
        (pick m (pick c (threads_in 1 i.t) (Err (Hyperthreading i.s)))
        (pick d (threads_in i.lps i.t) (Err (ProcessorCount i.s))))
        (pick f
        (pick g (pick h (threads_in (2 ^ i.s) i.t) (Err (Hyperthreading i.s))) (Err (ProcessorCount i.s)))
        (threads_in (2 ^ i.s) i.t)))
        ≡ pick a
        (pick m (pick c (threads 1) (Paper.hyperthreading i.s)) (pick d (threads i.lps) (Paper.processor_count i.s)))
        (pick f (pick g (pick h (threads (2 ^ i.s)) (Paper.hyperthreading i.s)) (Paper.processor_count i.s)) (threads (2 ^ i.s)))
    go true true true d f g h = last 1
    go true true false d f g h = refl
    go true false c true f g h = last i.lps
    go true false c false f g h = refl
    go false m c d true true true = last (2 ^ i.s)
    go false m c d true true false = refl
    go false m c d true false h = refl
    go false m c d false g h = last (2 ^ i.s)

-- ---- the rows

module _ (avic : Bool) (s : List ℕ) where
  abbrev es : List Entry
  es = Entries.counted s

  abbrev A : Rows
  A = rows_of avic s

  -- first entries masked, whether or not they are there
  abbrev B : Rows
  B i = pick (ltb i 88) (record { present = (first_at i es).present; result = masked_at avic i (first_at i es).result }) vacant

  abbrev f : ℕ → Option ℕ → Row
  f l k = first_at (place_for l k) es

  present_same : (i : ℕ) → (A i).present ≡ (B i).present
  unfolding rows_of
  present_same i = go (ltb i 88) (first_at i es).present
    where
      go : (a b : Bool) → (pick a (pick b (row (masked_at avic i (first_at i es).result)) vacant) vacant).present
          ≡ (pick a (record { present = b; result = masked_at avic i (first_at i es).result }) vacant).present
      go true true = refl
      go true false = refl
      go false b = refl

  same_where : (i : ℕ) → (A i).present ≡ true → A i ≡ B i
  unfolding rows_of
  same_where i = go (ltb i 88) (first_at i es).present
    where
      go : (a b : Bool) → (pick a (pick b (row (masked_at avic i (first_at i es).result)) vacant) vacant).present ≡ true
          → pick a (pick b (row (masked_at avic i (first_at i es).result)) vacant) vacant
          ≡ pick a (record { present = b; result = masked_at avic i (first_at i es).result }) vacant
      go true true h = refl
      go true false h = absurd (never_both h refl)
      go false b h = refl

  pub required_same : required_verdict A ≡ first_missing avic f required
  unfolding required_verdict required_at common_required_leaves snp_required_leaves place_required place_of kept_leaves
  required_same =
      lowest_chain _ _ 0 required_count
      ∙ ap (λ (p : ℕ → Bool). chain (λ j. p (place_required j)) missing_required 0 required_count) (fun_ext present_same)

  module _ (found : required_verdict A ≡ Ok tt) where
    at_required : (j : ℕ) → j < required_count → A (place_required j) ≡ B (place_required j)
    at_required j l = same_where (place_required j) (required_present A found j l)

    at_version : A Place.version_and_features ≡ B Place.version_and_features
    unfolding place_required required_at common_required_leaves snp_required_leaves place_of kept_leaves
    at_version = at_required 0 (lit< tt)

    at_sizes : A Place.extended_address_space_sizes ≡ B Place.extended_address_space_sizes
    unfolding place_required required_at common_required_leaves snp_required_leaves place_of kept_leaves
    at_sizes = at_required 9 (lit< tt)

    at_state_0 : A (Place.extended_state 0) ≡ B (Place.extended_state 0)
    unfolding place_required required_at common_required_leaves snp_required_leaves place_of kept_leaves
    at_state_0 = at_required 13 (lit< tt)

    at_state_1 : A (Place.extended_state 1) ≡ B (Place.extended_state 1)
    unfolding place_required required_at common_required_leaves snp_required_leaves place_of kept_leaves
    at_state_1 = at_required 14 (lit< tt)

    at_units : A Place.processor_topology_definition ≡ B Place.processor_topology_definition
    unfolding place_required required_at common_required_leaves snp_required_leaves place_of kept_leaves
    at_units = at_required 23 (lit< tt)

    invlpgb_same : invlpgb_verdict A ≡ invlpgb_verdict B
    unfolding invlpgb_verdict
    invlpgb_same = rw at_sizes

    pub mask_same : State.combined_mask A ≡ State.combined_mask B
    unfolding State.combined_mask State.xfem State.xss
    mask_same = ap₂ (λ (a b : Row). bit_or a.result.eax (State.xss_of b.result)) at_state_0 at_state_1

    pub xfem_same : State.xfem A ≡ State.xfem B
    unfolding State.xfem
    xfem_same = ap (λ (a : Row). a.result.eax) at_state_0

    inputs_same : inputs_of A ≡ inputs_of B
    unfolding inputs_of
    inputs_same = rw (at_version, at_sizes, at_units)

    components_same : components_verdict A ≡ components_verdict B
    unfolding components_verdict components_of
    components_same =
        ap₂ (λ (x : ℕ) (p : ℕ → Bool). refuse_at (lowest (λ k. pick (has k x) (p (6 + k)) true) 2 62) missing_component) mask_same
        (fun_ext present_same)

    module _ (supplies : components_verdict A ≡ Ok tt) where
      sums_same : (k : ℕ) → 2 ≤ k → k < 64 → has k (State.xfem A) ≡ true → State.sum_at A k ≡ State.sum_at B k
      sums_same k l u h =
          ap (λ (r : Row). r.result.eax + r.result.ebx) (same_where (6 + k) (component_present A supplies k l u (in_combined A k h)))

      area_same : area_verdict A ≡ area_verdict B
      unfolding area_verdict
      area_same =
          ap (λ (n : ℕ). size_verdict (State.size_of n))
          (le_antisymm (area_mono A B 64 (within_refl (State.xfem A)) sums_same)
          (area_mono B A 64 (within_refl (State.xfem A)) (λ k l u h. sym (sums_same k l u h)))
          ∙ ap (State.save_area B) xfem_same)

  -- ---- computed to the paper's figures

  invlpgb_figures : invlpgb_verdict B ≡ pick (has 3 (Paper.as_masked avic f 0x80000008 None).ebx) (Ok tt) (Err InvlpgbUnavailable)
  unfolding invlpgb_verdict place_of kept_leaves slot Masks.extended_address_space_sizes mask_of
  invlpgb_figures = refl

  pub masks_figures : (State.xfem B ≡ Paper.xfem (Paper.as_masked avic f)) × (State.combined_mask B ≡ Paper.combined (Paper.as_masked avic f))
  unfolding State.combined_mask State.xfem State.xss place_of kept_leaves slot Masks.extended_state0 Masks.extended_state1 mask_of legacy_features
  masks_figures = (refl, refl)

  components_figures : components_verdict B ≡ components avic f 2 62
  unfolding components_verdict components_of State.combined_mask State.xfem State.xss place_of kept_leaves slot Masks.extended_state0 Masks.extended_state1 mask_of legacy_features components
  components_figures = lowest_chain _ _ 2 62

  area_figures : area_verdict B ≡ pick (ltb (area (Paper.as_masked avic f) 62) 4294967296) (Ok tt) (Err SaveAreaOverflow)
  unfolding area_verdict State.area_below State.xfem State.size_of place_of kept_leaves slot Masks.extended_state0 mask_of legacy_features area
  area_figures = go (ltb (area (Paper.as_masked avic f) 62) 4294967296)
    where
      go : (b : Bool) → size_verdict (pick b (Some (area (Paper.as_masked avic f) 62)) None) ≡ pick b (Ok tt) (Err SaveAreaOverflow)
      go true = refl
      go false = refl

  topology_figures : topology_verdict B ≡ topology (Paper.given (Paper.as_masked avic f))
  unfolding topology_verdict inputs_of place_of kept_leaves slot Masks.version_and_features Masks.extended_address_space_sizes mask_of fields_mask field_mask field bit
  topology_figures = topology_same _

  -- a chain of checks, each the same once those before it accept
  chain_same : (u u' v v' : Verdict) → u ≡ u' → (u ≡ Ok tt → v ≡ v') → and_then u v ≡ u' then v'
  chain_same u u' v v' p q = then_both u v v' q ∙ ap (λ (w : Verdict). w then v') p

  pub rows_verdict_same : rows_verdict A ≡ Paper.rows_verdict avic f
  unfolding rows_verdict topology_verdict
  rows_verdict_same =
      chain_same _ _ _ _ required_same (λ found.
      chain_same _ _ _ _ (invlpgb_same found ∙ invlpgb_figures) (λ h.
      chain_same _ _ _ _ (components_same found ∙ components_figures) (λ supplies.
      chain_same _ _ _ _ (area_same found supplies ∙ area_figures) (λ k.
      ap (λ (i : Inputs). topology_refusal (topology_of i)) (inputs_same found) ∙ topology_figures))))

-- ---- entries by place, entries by leaf and subleaf

module _ (avic : Bool) (es : List Entry) where
  verdict_kept : Paper.rows_verdict avic (λ l k. first_at (place_for l k) es) ≡ Paper.rows_verdict avic (λ l k. kept_first es (place_for l k))
  unfolding place_of kept_leaves components area
  verdict_kept = refl

  verdict_told : Paper.rows_verdict avic (λ l k. told_first es (place_for l k)) ≡ Paper.rows_verdict avic (first es)
  unfolding place_of kept_leaves slot components area
  verdict_told = refl

  -- the required leaves and the two state masks by themselves
  abbrev read : (ℕ → Option ℕ → Row) → Verdict × ℕ × ℕ
  read g = (first_missing avic g required, Paper.xfem (Paper.as_masked avic g), Paper.combined (Paper.as_masked avic g))

  read_kept : read (λ l k. first_at (place_for l k) es) ≡ read (λ l k. kept_first es (place_for l k))
  unfolding place_of kept_leaves
  read_kept = refl

  read_told : read (λ l k. told_first es (place_for l k)) ≡ read (first es)
  unfolding place_of kept_leaves slot
  read_told = refl

  pub read_by_leaf : read (λ l k. first_at (place_for l k) es) ≡ read (first es)
  read_by_leaf = read_kept ∙ ap (λ (g : ℕ → Row). read (λ l k. g (place_for l k))) (kept_told es) ∙ read_told

  pub by_leaf_lem : Paper.rows_verdict avic (λ l k. first_at (place_for l k) es) ≡ Paper.rows_verdict avic (first es)
  by_leaf_lem = verdict_kept ∙ ap (λ (g : ℕ → Row). Paper.rows_verdict avic (λ l k. g (place_for l k))) (kept_told es) ∙ verdict_told

-- ---- XFEM and the combined mask of any page bytes that have the required leaves, also where they are refused

module _ (avic : Bool) (s : List ℕ) (found : first_missing avic (first (Paper.counted s)) required ≡ Ok tt) where
  abbrev three : Verdict × ℕ × ℕ
  three = read avic (Entries.counted s) (first (Paper.counted s))

  told_three : read avic (Entries.counted s) (f avic s) ≡ three
  told_three = read_by_leaf avic (Entries.counted s) ∙ ap (λ (x : List Entry). read avic (Entries.counted s) (first x)) (counted_same s)

  pub own_masks : (State.xfem (rows_of avic s) ≡ Paper.xfem (Paper.masked avic (Paper.entry_of s)))
      × (State.combined_mask (rows_of avic s) ≡ Paper.combined (Paper.masked avic (Paper.entry_of s)))
  own_masks =
      let there : required_verdict (rows_of avic s) ≡ (Ok tt) = required_same avic s ∙ ap (λ (p : Verdict × ℕ × ℕ). p.0) told_three ∙ found in (
        xfem_same avic s there ∙ (masks_figures avic s).0 ∙ ap (λ (p : Verdict × ℕ × ℕ). p.1) told_three,
        mask_same avic s there ∙ (masks_figures avic s).1 ∙ ap (λ (p : Verdict × ℕ × ℕ). p.2) told_three,
      )

-- ---- the pages

unclean_same : (s : List ℕ) (es : List Entry) → clean_verdict (first_nonzero s es) ≡ first_unclean s es
unfolding first_nonzero first_unclean eight_zeros
unclean_same s [] = refl
unclean_same s (e ∷ es) = go (eight_zeros s (4096 * e.page + 16 + 48 * e.position + 40)) (unclean_same s es)
  where
    go : (b : Bool) → clean_verdict (first_nonzero s es) ≡ first_unclean s es
        → clean_verdict (pick b (first_nonzero s es) (Err e.leaf)) ≡ pick b (first_unclean s es) (Err (ReservedBytes e.leaf))
    go true h = h
    go false h = refl

reserved_same : (s : List ℕ) → reserved_verdict s ≡ first_unclean s (read_entries s)
unfolding reserved_verdict reserved_of
reserved_same s = unclean_same s _ ∙ ap (first_unclean s) (entries_same s)

pub lawful_same : (s : List ℕ) → lawful_verdict s ≡ Paper.lawful s
unfolding lawful_verdict length_verdict bad_length counts_verdict counts_fit
lawful_same s =
    then_three (length_verdict s) (counts_verdict s) (reserved_verdict s)
    ∙ ap (λ (w : Verdict). length_verdict s then (counts_verdict s then w)) (reserved_same s)

-- the editions by name
edition_named : (n : ℕ) → edition_verdict n ≡ refuse_unless (eqb n 1 || eqb n 2) UnknownEdition
unfolding edition_verdict known_edition
edition_named n = ap (λ (b : Bool). refuse_unless b UnknownEdition) (go (eqb n 1) refl (eqb n 2) refl)
  where
    go : (a : Bool) → eqb n 1 ≡ a → (b : Bool) → eqb n 2 ≡ b → (leb 1 n && leb n 2) ≡ (a || b)
    go true e b f = let q : n ≡ 1 = eqb-true n 1 e in rw q
    go false e true f = let q : n ≡ 2 = eqb-true n 2 f in rw q
    go false e false f = outside (leb 1 n) refl (leb n 2) refl
      where
        outside : (c : Bool) → leb 1 n ≡ c → (d : Bool) → leb n 2 ≡ d → (c && d) ≡ false
        outside true g true h =
            absurd (omega (arith, leb-true 1 n g, leb-true n 2 h, eqb-false n 1 e, eqb-false n 2 f))
        outside true g false h = refl
        outside false g d h = refl

pub verdict_by_figures : (chosen : Choices) (s : List ℕ) → (answer chosen s).verdict ≡ Paper.verdict chosen s
unfolding answer verdict_of lawful_verdict length_verdict bad_length counts_verdict counts_fit
verdict_by_figures chosen s =
    then_is (edition_verdict chosen.edition) (and_then (lawful_verdict s) (rows_verdict (rows_for chosen s)))
    ∙ ap₂ (λ (u v : Verdict). u then v) (edition_named chosen.edition)
    (then_assoc (length_verdict s) (counts_verdict s) (reserved_verdict s) (rows_verdict (rows_for chosen s))
    ∙ ap₂ (λ (v w : Verdict). length_verdict s then (counts_verdict s then (v then w))) (reserved_same s)
    (rows_verdict_same chosen.secure_avic s
    ∙ by_leaf_lem chosen.secure_avic (Entries.counted s)
    ∙ ap (λ (x : List Entry). Paper.rows_verdict chosen.secure_avic (first x)) (counted_same s)))
