-- Reading, one case for each return of the function.
use Rattle.std.specs.Prelude.{◌≡◌, Bool, ◌||◌, List, ℕ, ◌+◌, ◌*◌, ◌≤◌, ◌<◌, ltb, Err, Ok}
use Rattle.std.proofs.Math.Path.{refl}
use Rattle.std.proofs.Common.{◌∙◌, arith}
use Rattle.std.proofs.Math.Bool.{true, false, not}
use Rattle.std.proofs.Math.Dec.{eqb}
use Rattle.std.proofs.Math.ListN.{length}
use Rattle.std.proofs.lemmas.List.Edits.{sets}
use borrow.Author.Tests.{le-leb, lt-leb, eqb-true}
use Rattle.bits.specs.ChoiceLaws.{never_both}
use Rattle.table.specs.declared.Refusal.TheVariants.{ListLength, ListRows, ListFields, BufferTooShort}
use Rattle.buffer.specs.FrontLaws.{front_short, front_whole}
use Rattle.kvm_list.specs.Format.{row_count, rows_listed}
use Rattle.kvm_import.specs.ListChecks.{bad_list_length, fields_lawful, rows_on0, rows_on1, rows_fit}
use Rattle.kvm_import.specs.ListPages.{pages_of}
use Rattle.kvm_import.proofs.PagesLaws.{pages_length}
use Rattle.kvm_import.specs.Import.{list_verdict, read_list}
use Rattle.kvm_import.specs.ImportLaws.{Gives, gives}

module _ (l buffer : List ℕ) where
  pub read_10 : bad_list_length l ≡ true → Gives (Err ListLength) buffer l buffer
  unfolding read_list list_verdict
  read_10 e = gives l buffer (rw e)

  module _ (long : bad_list_length l ≡ false) where
    pub good_length : length l ≡ 8 + 40 * row_count l
    unfolding bad_list_length
    good_length = go (ltb (length l) 8) (eqb (length l) (8 + 40 * row_count l)) refl long
      where
        go : (a b : Bool) → eqb (length l) (8 + 40 * row_count l) ≡ b → (a || not b) ≡ false → length l ≡ 8 + 40 * row_count l
        go a true q e = eqb-true _ _ q
        go true false q e = absurd (never_both refl e)
        go false false q e = absurd (never_both refl e)

    pub read_12 : fields_lawful l ≡ false → Gives (Err ListFields) buffer l buffer
    unfolding read_list list_verdict
    read_12 e = gives l buffer (rw (long, e))

    module _ (fields : fields_lawful l ≡ true) where
      pub read_11_0 : 64 < length (rows_on0 (rows_listed l)) → Gives (Err ListRows) buffer l buffer
      unfolding read_list list_verdict rows_fit
      read_11_0 h = gives l buffer (rw (long, fields, lt-leb (length (rows_on0 (rows_listed l))) 64 h))

      module _ (few-0 : length (rows_on0 (rows_listed l)) ≤ 64) where
        pub read_11_1 : 64 < length (rows_on1 (rows_listed l)) → Gives (Err ListRows) buffer l buffer
        unfolding read_list list_verdict rows_fit
        read_11_1 h =
            gives l buffer (rw (long, fields, le-leb (length (rows_on0 (rows_listed l))) 64 few-0, lt-leb (length (rows_on1 (rows_listed l))) 64 h))

        module _ (few-1 : length (rows_on1 (rows_listed l)) ≤ 64) where
          pub read_9 : length buffer < 8192 → Gives (Err BufferTooShort) buffer l buffer
          unfolding read_list list_verdict rows_fit
          read_9 h =
              gives l buffer
              (rw (long, fields, le-leb (length (rows_on0 (rows_listed l))) 64 few-0, le-leb (length (rows_on1 (rows_listed l))) 64 few-1)
              (front_short (pages_of (rows_listed l)) buffer (omega (arith, pages_length (rows_listed l) few-0 few-1))))

          pub read_0 : {out : List ℕ} → 8192 ≤ length buffer → out ≡ sets buffer 0 (pages_of (rows_listed l)) → Gives (Ok 8192) out l buffer
          unfolding read_list list_verdict rows_fit
          read_0 h e =
              gives l buffer
              (rw (long, fields, le-leb (length (rows_on0 (rows_listed l))) 64 few-0, le-leb (length (rows_on1 (rows_listed l))) 64 few-1)
              (front_whole (pages_of (rows_listed l)) buffer (omega (arith, pages_length (rows_listed l) few-0 few-1))
              ∙ rw (pages_length (rows_listed l) few-0 few-1, ← e)))
