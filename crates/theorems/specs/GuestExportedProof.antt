-- What the exported functions return of a guest's table rises from A to B, and has the table's origins, as GuestExported.antt says.
use Rattle.std.specs.Prelude.{◌≡◌, refl, Bool, true, false, List, ◌⊎◌, ℕ, ◌≤◌, ◌<◌, length, Err, Ok, Option}
use Rattle.std.proofs.Common.{sym, ap, ◌∙◌, subst₂, inl, inr, le_of_eq}
use Rattle.std.proofs.lemmas.List.{length-replicate, get_or-replicate}
use Rattle.bits.specs.ChoiceLaws.{never_both, impossible}
use Rattle.x86defs.specs.declared.CpuidFunction.{CpuidFunction}
use Rattle.masking.specs.Kept.{places}
use Rattle.masking.specs.Place
use Rattle.table.specs.declared.Choices.{Choices}
use Rattle.table.specs.declared.CpuidResults.{CpuidResults}
use Rattle.table.specs.Table.{row_in}
use Rattle.finish.specs.Kinds.{TableAtLeast, Registers, kinds_at}
use Rattle.build.specs.Build.{rows_for, answer, origin_at}
use Rattle.lookup.specs.Lookup.{place_asked}
use Rattle.rise.specs.Rise.{RiseHypothesis, Further}
use Rattle.guest.specs.declared.Processor.{Processor}
use Rattle.guest.specs.GuestPages.{guest_pages}
use Rattle.guest_rise.specs.GuestRise.{compacts_in, GuestTableRises}
use Rattle.guest_rise.proofs.GuestExactly.{guest_exactly}
use Rattle.guest_rise.specs.GuestRisen.{GuestRisen}
use Rattle.guest_rise.proofs.GuestRisenProof.{guest_rises_all}
use Rattle.guest_rise.specs.GuestRisen.GuestRisen.{missing, overflow, too_large, given}
use Rattle.answers.specs.declared.SnpCpuidFound.{SnpCpuidFound}
use Rattle.snp_cpuid.specs.GuestExports.{guest_numbers}
use Rattle.memory.specs.Origin.{origin_told}
use Rattle.rise.proofs.LocatedProof.{rows_have_origins}
use Rattle.theorems.specs.Exported.{registers_of, origin_found}
use Rattle.theorems.specs.ExportedProof.{verdict_numbered, table_whole}
use Rattle.theorems.specs.Looked.{looked_present, looked_inside, looked_at, looked_found}
use Rattle.theorems.specs.GuestExported.{guest_built, seen, GuestBuiltRises, GuestExportsRise, GuestOrigins}
use Rattle.theorems.specs.GuestExported.GuestBuiltRises.{refused_3, refused_5, refused_14, given_0}
use Rattle.table.specs.Verdict.{Verdict}

-- ---- the proof

-- a guest's table has 88 places, given or not
guest_whole : (chosen : Choices) (s : List ℕ) (v : Processor) → length (guest_pages chosen s v).table.present ≤ places
guest_whole chosen s v = go (guest_pages chosen s v).verdict refl
  where
    go : (w : Verdict) → (guest_pages chosen s v).verdict ≡ w → length (guest_pages chosen s v).table.present ≤ places
    go (Ok _) e = rw ((guest_exactly chosen s v).table e) (table_whole chosen s)
    go (Err r) e = rw ((guest_exactly chosen s v).empty r e) (le_of_eq (length-replicate places false))

module _ (chosen : Choices) (a b : List ℕ) (v : Processor) (rises : RiseHypothesis chosen a b) (isGiven : (guest_pages chosen a v).verdict ≡ Ok tt) where
  abbrev ta : CpuidResults
  ta = (guest_pages chosen a v).table

  abbrev tb : CpuidResults
  tb = (guest_pages chosen b v).table

  risen : GuestRisen (rows_for chosen b) ta (guest_pages chosen b v)
  risen = guest_rises_all chosen a b v rises isGiven

  numbers : GuestRisen (rows_for chosen b) ta (guest_pages chosen b v) → GuestBuiltRises (rows_for chosen b) ta (guest_built chosen b v)
  numbers (missing k f e) = refused_3 k f (ap guest_numbers e)
  numbers (overflow n f e) = refused_5 n f (ap guest_numbers e)
  numbers (too_large n f c e) = refused_14 n f c (ap guest_numbers e)
  numbers (given n f e t) = given_0 n f (rw e)

  -- where B's guest is given its table, it rises
  tables : (guest_built chosen b v).number ≡ 0 → GuestTableRises ta tb
  tables n = go risen
    where
      is_accepted : (guest_pages chosen b v).verdict ≡ Ok tt
      is_accepted = verdict_numbered (guest_pages chosen b v).verdict n

      go : GuestRisen (rows_for chosen b) ta (guest_pages chosen b v) → GuestTableRises ta tb
      go (missing k f e) = impossible (cc)
      go (overflow m f e) = impossible (cc)
      go (too_large m f c e) = impossible (cc)
      go (given m f e t) = t

  module _ (n : (guest_built chosen b v).number ≡ 0) (leaf : CpuidFunction) (subleaf : Option ℕ) (enforce : Bool) where
    abbrev i : ℕ
    i = place_asked leaf subleaf enforce

    in_a : (seen chosen a v leaf subleaf enforce).found ≡ 1 → (row_in ta i).present ≡ true
    in_a e = looked_present ta (guest_whole chosen a v) (answer chosen a).origins leaf subleaf enforce e

    inside : (row_in ta i).present ≡ true → i < places
    inside p = looked_inside ta (guest_whole chosen a v) (answer chosen a).origins leaf subleaf enforce p

    in_b : (seen chosen a v leaf subleaf enforce).found ≡ 1 → (row_in tb i).present ≡ true
    in_b e = (tables n).rows i (inside (in_a e)) (in_a e)

    found_b : (seen chosen a v leaf subleaf enforce).found ≡ 1 → (seen chosen b v leaf subleaf enforce).found ≡ 1
    found_b e = looked_found tb (guest_whole chosen b v) (answer chosen b).origins leaf subleaf enforce (in_b e)

    registers_b : (seen chosen a v leaf subleaf enforce).found ≡ 1 → (i ≡ Place.extended_state 1 → compacts_in ta ≡ true)
        → Registers TableAtLeast (kinds_at i) (registers_of (seen chosen a v leaf subleaf enforce)) (registers_of (seen chosen b v leaf subleaf enforce))
    registers_b e c =
        subst₂ (λ (x y : SnpCpuidFound). Registers TableAtLeast (kinds_at i) (registers_of x) (registers_of y))
        (sym (looked_at ta (guest_whole chosen a v) (answer chosen a).origins leaf subleaf enforce (in_a e)))
        (sym (looked_at tb (guest_whole chosen b v) (answer chosen b).origins leaf subleaf enforce (in_b e)))
        ((tables n).registers i (inside (in_a e)) (in_a e) c)

    others_b : (seen chosen b v leaf subleaf enforce).found ≡ 1 → ((seen chosen a v leaf subleaf enforce).found ≡ 1) ⊎ Further ta tb i
    others_b e =
        let p : (row_in tb i).present ≡ true = looked_present tb (guest_whole chosen b v) (answer chosen b).origins leaf subleaf enforce e in
        let l : i < places = looked_inside tb (guest_whole chosen b v) (answer chosen b).origins leaf subleaf enforce p in
        elim ((tables n).others i l p) [
          | inl q ↦ inl (looked_found ta (guest_whole chosen a v) (answer chosen a).origins leaf subleaf enforce q)
          | inr f ↦ inr f
        ]

  pub guest_exports_rise : GuestExportsRise chosen a b v
  guest_exports_rise = record {
    answers = numbers risen;
    mask = λ n. (tables n).mask;
    found = λ n leaf subleaf enforce. found_b n leaf subleaf enforce;
    registers = λ n leaf subleaf enforce. registers_b n leaf subleaf enforce;
    others = λ n leaf subleaf enforce. others_b n leaf subleaf enforce;
  }

-- ---- document 02, P11: with a row that the guest finds, where the paravisor's row came from

pub guest_origins : GuestOrigins
guest_origins chosen s v leaf subleaf enforce e = go (guest_pages chosen s v).verdict refl
  where
    p : (row_in (guest_pages chosen s v).table (place_asked leaf subleaf enforce)).present ≡ true
    p = looked_present (guest_pages chosen s v).table (guest_whole chosen s v) (answer chosen s).origins leaf subleaf enforce e

    l : place_asked leaf subleaf enforce < places
    l = looked_inside (guest_pages chosen s v).table (guest_whole chosen s v) (answer chosen s).origins leaf subleaf enforce p

    go : (w : Verdict) → (guest_pages chosen s v).verdict ≡ w
        → origin_found (seen chosen s v leaf subleaf enforce) ≡ origin_told (origin_at chosen s (place_asked leaf subleaf enforce))
    go (Err r) f =
        absurd (never_both p (ap (λ (u : CpuidResults). (row_in u (place_asked leaf subleaf enforce)).present) ((guest_exactly chosen s v).empty r f)
        ∙ get_or-replicate places (place_asked leaf subleaf enforce) false false l))
    go (Ok _) f =
        ap origin_found (looked_at (guest_pages chosen s v).table (guest_whole chosen s v) (answer chosen s).origins leaf subleaf enforce p)
        ∙ (rows_have_origins chosen s ((guest_exactly chosen s v).given.0 f).0 (place_asked leaf subleaf enforce) l).told
