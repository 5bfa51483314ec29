-- Document 02, P14: "all accepted inputs (s, nc, lps, mt, t) with s from 0 to 7, ordered by s, nc, lps, mt, t in turn .. There are 1,019: 511 for
-- s = 0 and 508 above. Each accepted input stands in the list, none twice, and no other." Said of any list; one list has it.
use Rattle.std.specs.Prelude.{◌≡◌, true, List, [], ◌∷◌, ◌⊎◌, ◌<◌, eqb, ltb, length}
use Rattle.bits.specs.Lists.{keep_if}
use Rattle.bits.specs.Ascending.{Ascending}
use Rattle.topology.specs.Topology.{Inputs}
use Rattle.topologies.specs.Topologies.{accepts, accepted_inputs}

-- i is one of these
abbrev pub In : Inputs → List Inputs → Type 0
In i [] = ⊥
In i (j ∷ js) = (i ≡ j) ⊎ In i js

-- s up to 7, and the other four within the widths of their fields
pub record FieldsFit (i : Inputs) : Type 0 where
  pub s : i.s < 8
  pub nc : i.nc < 256
  pub lps : i.lps < 256
  pub mt : i.mt < 2
  pub t : i.t < 256

-- "ordered by s, nc, lps, mt, t in turn"
pub data InputsBefore (i j : Inputs) : Type 0 where
  by_s : i.s < j.s → InputsBefore i j
  by_nc : i.s ≡ j.s → i.nc < j.nc → InputsBefore i j
  by_lps : i.s ≡ j.s → i.nc ≡ j.nc → i.lps < j.lps → InputsBefore i j
  by_mt : i.s ≡ j.s → i.nc ≡ j.nc → i.lps ≡ j.lps → i.mt < j.mt → InputsBefore i j
  by_t : i.s ≡ j.s → i.nc ≡ j.nc → i.lps ≡ j.lps → i.mt ≡ j.mt → i.t < j.t → InputsBefore i j

-- what P14 asks of a list
pub record ListsAccepted (l : List Inputs) : Type 0 where
  pub each : (i : Inputs) → FieldsFit i → accepts i ≡ true → In i l
  pub no_other : (i : Inputs) → In i l → FieldsFit i × (accepts i ≡ true)
  pub ascends : Ascending InputsBefore l

-- the definition's list has it, and any list that has it is the definition's
pub record Determined : Type 0 where
  pub has : ListsAccepted accepted_inputs
  pub only : (l : List Inputs) → ListsAccepted l → l ≡ accepted_inputs

-- "There are 1,019: 511 for s = 0 and 508 above"
pub record Counted (l : List Inputs) : Type 0 where
  pub all : length l ≡ 1019
  pub zero : length (keep_if (λ i. eqb i.s 0) l) ≡ 511
  pub above : length (keep_if (λ i. ltb 0 i.s) l) ≡ 508
