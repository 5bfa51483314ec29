-- The proofs of `RowsComeFrom`, `RowsHaveOrigins` and `RefusedHasNone`.
use Rattle.std.specs.Prelude.{◌≡◌, Bool, not, ◌||◌, List, ◌∷◌, ◌++◌, ℕ, ◌<◌, get_or, Ok}
use Rattle.std.proofs.Math.Path.{refl}
use Rattle.std.proofs.Common.{sym, ap, ◌∙◌, subst, arith}
use Rattle.std.proofs.Math.Bool.{true, false}
use Rattle.bits.specs.Choice.{pick}
use Rattle.bits.specs.ChoiceLaws.{never_both, pick_true, pick_false}
use Rattle.bits.specs.ListsLaws.{tabulate_at, get_d_tabulate}
use Rattle.x86defs.specs.declared.CpuidResult.{CpuidResult}
use Rattle.pages.specs.Layout.{Entry}
use Rattle.pages.specs.LayoutLaws.{counts_fit_at}
use Rattle.pages.specs.Entries.{counted}
use Rattle.masking.specs.Kept.{places}
use Rattle.table.specs.declared.Choices.{Choices}
use Rattle.table.specs.Rows.{Row, Rows, row, vacant}
use Rattle.table.specs.Table.{row_in}
use Rattle.memory.specs.Origin.{is_made_here, origin_of, origin_number, origin_read, origin_told}
use Rattle.memory.specs.Origin.Origin.{neither, made_here, entry}
use Rattle.memory.specs.OriginLaws.{entry_read, neither_read, made_read}
use Rattle.collect.specs.FirstEntries.{place_of_entry, first_at, masked_at, mask_row}
use Rattle.collect.specs.FirstEntriesLaws.{row_of_place_lem}
use Rattle.finish.specs.Finish.{rule_at, settings, finish, finished}
use Rattle.finish.specs.Kinds.{from_entry}
use Rattle.finish.specs.PlaceLaws.{always}
use Rattle.finish.specs.RemainsLaws.{finished_present}
use Rattle.finish.proofs.RemainsLaws.{finished_result, made_remains, finished_entry}
use Rattle.build.specs.Build.{rows_for, origins_in, answer, origin_at}
use Rattle.collect.proofs.LawfulLaws.{lawful_counts}
use Rattle.rise.specs.RiseProof.{answer_row, accepted_lawful}
use Rattle.rise.specs.BuiltLaws.{always_finished}
use Rattle.rise.specs.Located.{FirstCounted, ComesFrom, RowsComeFrom, Origins, RowsHaveOrigins}
use Rattle.rise.specs.StandsLaws.{First, first_of, Stands, counted_stands}
use Rattle.rise.specs.LocatedProof.{all_made_here, from_entry_lem, is_entry, is_made, page_of, position_of}

-- ---- one place of an accepted table

module _ (chosen : Choices) (s : List ℕ) (accepted : (answer chosen s).verdict ≡ Ok tt) (i : ℕ) (l : i < places) where
  abbrev m : Rows
  m = rows_for chosen s

  abbrev present : Bool
  present = (row_in (answer chosen s).table i).present

  at : row_in (answer chosen s).table i ≡ finished chosen.edition m i
  at = answer_row chosen s accepted i l

  made_there : is_made_here i ≡ true → present ≡ true
  made_there e =
      ap (λ (r : Row). r.present) at
      ∙ go (from_entry (rule_at i)) refl (always (rule_at i)) refl (sym (pick_true _ _ e) ∙ tabulate_at places _ _ all_made_here i l)
    where
      go : (b : Bool) → from_entry (rule_at i) ≡ b → (a : Bool) → always (rule_at i) ≡ a → (not (from_entry (rule_at i)) || always (rule_at i)) ≡ true
          → (finished chosen.edition m i).present ≡ true
      go false f a g h = finished_present chosen.edition m i ∙ made_remains (settings chosen.edition m) (λ j. (m j).present) i l f
      go true f true g h = always_finished chosen s accepted i l g
      go true f false g h = absurd (never_both h (rw (f, g)))

  -- a row that is there and not made here had an entry
  pub entry_there : present ≡ true → is_made_here i ≡ false → (first_at i (counted s)).present ≡ true
  entry_there p e =
      let h : (m i).present ≡ true =
      finished_entry chosen.edition m i l (from_entry_lem i l e) (sym (ap (λ (r : Row). r.present) at) ∙ p) in
      go (first_at i (counted s)) (sym (ap (λ (r : Row). r.present) (row_of_place_lem chosen.secure_avic s i l)) ∙ h)
    where
      go : (r : Row) → (mask_row chosen.secure_avic i r).present ≡ true → r.present ≡ true
      go r = by r.present (masked_at chosen.secure_avic i r.result)
        where
          by : (b : Bool) (x : CpuidResult) → (pick b (row x) vacant).present ≡ true → b ≡ true
          by true x q = refl
          by false x q = q

  -- the row that a first entry gives
  row_of_first : (f : First i (counted s)) → present ≡ true
      → row_in (answer chosen s).table i
      ≡ row (finish (settings chosen.edition m) (rule_at i) (masked_at chosen.secure_avic i f.found.registers))
  row_of_first f p =
      at
      ∙ (λ k. record {
        present = (sym (ap (λ (r : Row). r.present) at) ∙ p) k;
        result =
            (finished_result chosen.edition m i (sym (ap (λ (r : Row). r.present) at) ∙ p)
            ∙ ap (λ (r : Row). finish (settings chosen.edition m) (rule_at i) r.result)
            (row_of_place_lem chosen.secure_avic s i l ∙ ap (mask_row chosen.secure_avic i) f.row_of)) k;
      })

  -- the first entry, where it stands
  first_counted : (f : First i (counted s)) → FirstCounted s i f.found.page f.found.position
  first_counted f =
      let e : Stands s f.found = counted_stands s f.before f.found f.after f.among in
      record {
        page = e.page;
        position = e.position;
        place = ap place_of_entry (sym e.itself) ∙ f.place;
        before = f.before;
        after = f.after;
        among = f.among ∙ ap (λ (x : Entry). f.before ++ x ∷ f.after) e.itself;
        elsewhere = f.elsewhere;
      }

  comes_from : (f : First i (counted s)) → present ≡ true → ComesFrom chosen s i f.found.page f.found.position
  comes_from f p =
      let e : Stands s f.found = counted_stands s f.before f.found f.after f.among in
      record {
        first = first_counted f;
        made_of =
            row_of_first f p
            ∙ ap (λ (x : Entry). row (finish (settings chosen.edition m) (rule_at i) (masked_at chosen.secure_avic i x.registers))) e.itself;
      }

  -- the three cases of an origin
  data Case : Type 0 where
    absent : present ≡ false → origin_at chosen s i ≡ neither → Case
    made : present ≡ true → is_made_here i ≡ true → origin_at chosen s i ≡ made_here → Case
    located : present ≡ true → is_made_here i ≡ false → (f : First i (counted s)) → origin_at chosen s i ≡ entry f.found.page f.found.position → Case

  case : Case
  unfolding origin_of
  case = go present refl (is_made_here i) refl
    where
      go : (p : Bool) → present ≡ p → (h : Bool) → is_made_here i ≡ h → Case
      go false p h q = absent p (pick_false _ _ p)
      go true p true q = made p q (pick_true _ _ p ∙ pick_true _ _ q)
      go true p false q =
          let f : First i (counted s) = first_of i (counted s) (entry_there p q) in
          located p q f (pick_true _ _ p ∙ pick_false _ _ q ∙ f.stands)

  pub row_comes_from : (p q : ℕ) → origin_at chosen s i ≡ entry p q → ComesFrom chosen s i p q
  row_comes_from p q e = go case
    where
      go : Case → ComesFrom chosen s i p q
      go (absent x y) = absurd (never_both (ap is_entry (sym y ∙ e)) refl)
      go (made x z y) = absurd (never_both (ap is_entry (sym y ∙ e)) refl)
      go (located x z f y) =
          let a : f.found.page ≡ p = ap page_of (sym y ∙ e) in
          let b : f.found.position ≡ q = ap position_of (sym y ∙ e) in
          subst (λ (j : ℕ). ComesFrom chosen s i p j) b (subst (λ (j : ℕ). ComesFrom chosen s i j f.found.position) a (comes_from f x))

  number : get_or (answer chosen s).origins i 0 ≡ origin_number (origin_at chosen s i)
  unfolding answer origins_in
  number = get_d_tabulate places (λ j. origin_number (origin_at chosen s j)) i 0 l

  told : origin_read (get_or (answer chosen s).origins i 0) ≡ origin_told (origin_at chosen s i)
  told = ap origin_read number ∙ go case
    where
      go : Case → origin_read (origin_number (origin_at chosen s i)) ≡ origin_told (origin_at chosen s i)
      go (absent x y) = rw y neither_read
      go (made x z y) = rw y made_read
      go (located x z f y) =
          let c : FirstCounted s i f.found.page f.found.position = first_counted f in
          rw y
          (entry_read f.found.page f.found.position
          (omega (arith, c.position, counts_fit_at s (lawful_counts s (accepted_lawful chosen s accepted)) f.found.page c.page)))

  pub row_origins : Origins chosen s i
  row_origins = record {
    made = (λ e. is_made_lem e case, λ e. pick_made e);
    absent = (λ e. is_absent e case, λ e. pick_absent e);
    from_entry_lem = λ p e. let f : First i (counted s) = first_of i (counted s) (entry_there p e) in (f.found.page, f.found.position, from_first f p e);
    told = told;
  }
    where
      is_made_lem : origin_at chosen s i ≡ made_here → Case → is_made_here i ≡ true
      is_made_lem e (absent x y) = absurd (never_both (ap is_made (sym y ∙ e)) refl)
      is_made_lem e (made x z y) = z
      is_made_lem e (located x z f y) = absurd (never_both (ap is_made (sym y ∙ e)) refl)

      is_absent : origin_at chosen s i ≡ neither → Case → present ≡ false
      is_absent e (absent x y) = x
      is_absent e (made x z y) = absurd (never_both (ap is_made (sym e ∙ y)) refl)
      is_absent e (located x z f y) = absurd (never_both (ap is_entry (sym e ∙ y)) refl)

      pick_made : is_made_here i ≡ true → origin_at chosen s i ≡ made_here
      pick_made e = unfold origin_of in (pick_true _ _ (made_there e) ∙ pick_true _ _ e)

      pick_absent : present ≡ false → origin_at chosen s i ≡ neither
      pick_absent e = unfold origin_of in pick_false _ _ e

      from_first : (f : First i (counted s)) → present ≡ true → is_made_here i ≡ false → origin_at chosen s i ≡ entry f.found.page f.found.position
      from_first f p e = unfold origin_of in (pick_true _ _ p ∙ pick_false _ _ e ∙ f.stands)

pub rows_come_from : RowsComeFrom
rows_come_from chosen s accepted i p q l = row_comes_from chosen s accepted i l p q

pub rows_have_origins : RowsHaveOrigins
rows_have_origins chosen s accepted i l = row_origins chosen s accepted i l
