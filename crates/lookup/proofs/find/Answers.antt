-- `find` meets its contract: a lookup reads the row of the place that is asked for, and past the last place there is none.
use mathlib.Core.Path.{◌≡◌, refl, sym, ap, ap₂, ◌∙◌}
use Prim.Native.Nat.{ℕ, ◌≤◌, ◌<◌}
use native.Mathlib.Nat.{le_of_eq}
use native.Mathlib.Omega.{arith}
use lib.ListN.{length, get_or, get_or-eq_default}
use Rattle.bits.specs.ChoiceLaws.{pick_true, pick_false}
use Rattle.bits.specs.ListsLaws.{length_tabulate}
use Rattle.masking.specs.Kept.{places}
use Rattle.table.specs.declared.CpuidResults.{CpuidResults}
use Rattle.table.specs.Table.{row_in}
use Rattle.memory.specs.Memory.{is_there, rows_in}
use Rattle.memory.specs.Held.{held_in, whole_row_lem}
use Rattle.x86defs.specs.declared.CpuidResult.{CpuidResult}
use Rattle.lookup.specs.Lookup.{row_result, lookup, lookup_origin, place_asked, with_origin}
use Rattle.lookup.proofs.LookupLaws.{lookup_at}
use Rattle.lookup.specs.AskedLaws.{asked_place, asked_inside, asked_past}
use Rattle.lookup.proofs.find.Goals as goal
use Rattle.lookup.proofs.find.Goals.{After-is_there, In_ok-place, Start}
use Rattle.std.specs.Prelude.{Option, Some}

abbrev held : Start → CpuidResults
held c = held_in c.args.registers.now c.args.origins.now

whole : (c : Start) → length (held c).present ≤ places
whole c = le_of_eq (length_tabulate places (λ i. is_there (get_or c.args.origins.now i 0)))

abbrev question : Start → ℕ
question c = place_asked c.args.leaf c.args.subleaf c.args.enforce_subleaf

-- the place that is asked for, if there is one
inside : (c : In_ok-place) → c.in_ok-place.place < places
inside c = asked_inside (place_asked c.args.leaf c.args.subleaf c.args.enforce_subleaf) c.place_asked.ensures c.in_ok-place.was

same : (c : In_ok-place) → c.in_ok-place.place ≡ place_asked c.args.leaf c.args.subleaf c.args.enforce_subleaf
same c = asked_place (place_asked c.args.leaf c.args.subleaf c.args.enforce_subleaf) c.place_asked.ensures c.in_ok-place.was

-- what is answered is what the row of that place holds
read : (c : Start) (i : ℕ) → i ≡ question c
    → row_result (row_in (held c) i) ≡ lookup (held c) c.args.leaf c.args.subleaf c.args.enforce_subleaf
read c i e = lookup_at _ (whole c) _ _ _ i e

found_there : (s : Start) (i : ℕ) → i < places → i ≡ question s
    → row_result (rows_in s.args.registers.now s.args.origins.now i)
    ≡ lookup (held s) s.args.leaf s.args.subleaf s.args.enforce_subleaf
found_there s i h e = sym (ap row_result (whole_row_lem (rows_in s.args.registers.now s.args.origins.now) i h)) ∙ read s i e

pub returns-then-is_there : goal.returns-then-is_there
returns-then-is_there c =
    let w = goal.at.returns-then-is_there c in
    let row : Some _ ≡ _ =
    sym (pick_true _ _ (sym c.is_there.ensures ∙ c.if-is_there.true)) ∙ found_there w.Start c.in_ok-place.place (inside w.In_ok-place) (same w.In_ok-place) in
    ap (λ (q : CpuidResult). Some (record { row = q; origin = get_or c.args.origins.now c.in_ok-place.place 0 })) c.row_at.ensures
    ∙ ap₂ with_origin row (ap (λ (j : ℕ). get_or c.args.origins.now j 0) (same w.In_ok-place))

abbrev origin : Start → ℕ
origin c = lookup_origin c.args.origins.now c.args.leaf c.args.subleaf c.args.enforce_subleaf

-- nothing is found, whatever its origin would be
pub returns : goal.returns
returns c =
    let w = goal.at.returns c in
    ap (λ (q : Option CpuidResult). with_origin q (origin w.Start))
    (sym (pick_false _ _ (sym c.is_there.ensures ∙ c.if-is_there.false)) ∙ found_there w.Start c.in_ok-place.place (inside w.In_ok-place) (same w.In_ok-place))

pub returns-in_err-place : goal.returns-in_err-place
returns-in_err-place c =
    let w = (goal.at.returns-in_err-place c).Start in
    let asks : places ≤ question w = asked_past (question w) c.place_asked.ensures c.in_err-place.was in
    let past : length (held w).present ≤ question w = omega (arith, whole w, asks) in
    rw c.from_residual.ensures
    (ap (λ (q : Option CpuidResult). with_origin q (origin w)) (rw (get_or-eq_default (held w).present _ past) at (read w (question w) refl)))

pub offset_bounds-origins-place : goal.offset_bounds-origins-place
offset_bounds-origins-place c = record { fits = omega (arith, inside (goal.at.offset_bounds-origins-place c).In_ok-place) }

pub bounds-origins-place : goal.bounds-origins-place
bounds-origins-place c = inside (goal.at.bounds-origins-place c).In_ok-place

pub row_at-requires : goal.row_at-requires
row_at-requires c = inside (goal.at.row_at-requires c).In_ok-place
