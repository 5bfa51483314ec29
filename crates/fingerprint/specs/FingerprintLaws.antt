-- The image of a table of any content has at most 2,132 bytes, so it stands whole at the front of the array in which it is hashed; and the digest of
-- those bytes is the fingerprint.
use Rattle.std.specs.Prelude.{◌≡◌, Bool, true, false, List, ℕ, zero, suc, ◌+◌, ◌-◌, ◌≤◌, length, get_or, take, drop}
use Rattle.std.proofs.Common.{sym, ap, ◌∙◌, arith, take_at}
use Rattle.std.proofs.lemmas.List.Edits.{sets, sets-eq}
use Rattle.std.proofs.Math.Seq.{length-sets}
use Rattle.bits.specs.Lists.{sum_to, one}
use Rattle.masking.specs.Kept.{places}
use Rattle.masking.specs.Place
use Rattle.table.specs.declared.CpuidResults.{CpuidResults}
use Rattle.buffer.specs.Front.{AfterWrite, write_front}
use Rattle.buffer.specs.FrontLaws.{front_whole}
use Rattle.image.specs.Image.{image}
use Rattle.image.specs.ImagePieces.{rows_among}
use Rattle.image.specs.LengthLaws.{image_length}
use Rattle.sha256.specs.Sha256.{sha256}
use Rattle.fingerprint.specs.Fingerprint.{fingerprint}

pub digest_of_image : (t : CpuidResults) {b : List ℕ} → b ≡ image t → sha256 b ≡ fingerprint t
unfolding fingerprint
digest_of_image t e = ap sha256 e

at_most_one : (b : Bool) → one b ≤ 1
at_most_one true = omega arith
at_most_one false = omega arith

-- of n places at most n have a row
at_most_all : (f : ℕ → Bool) (n : ℕ) → sum_to (λ k. one (f k)) n ≤ n
unfolding sum_to
at_most_all f zero = omega arith
at_most_all f (suc n) = omega (arith, at_most_all f n, at_most_one (f n))

among_at_most : (p : List Bool) (first end : ℕ) → rows_among p first end ≤ end - first
unfolding rows_among
among_at_most p first end = at_most_all (λ k. get_or p (first + k) false) (end - first)

pub image_fits : (t : CpuidResults) → length (image t) ≤ 2132
image_fits t =
    let p = t.present in
    omega (
      arith,
      image_length t,
      among_at_most p 0 Place.extended_features,
      among_at_most p Place.extended_max_function (Place.cache_topology 0),
      among_at_most p Place.processor_topology_definition places,
      among_at_most p Place.extended_features Place.extended_max_function,
      among_at_most p (Place.cache_topology 0) Place.processor_topology_definition,
    )

-- what stands in the array after the write
module _ (t : CpuidResults) (array : List ℕ) (room : length array ≡ 2132) {b : List ℕ} (written : b ≡ (write_front (image t) array).buffer) where
  stored : b ≡ sets array 0 (image t)
  stored = written ∙ ap (λ (w : AfterWrite). w.buffer) (front_whole (image t) array (omega (arith, image_fits t)))

  pub array_kept : length b ≡ 2132
  array_kept = ap length stored ∙ length-sets array 0 (image t) ∙ room

  pub image_in_front : {n : ℕ} → n ≡ length (image t) → take n b ≡ image t
  image_in_front {n} e =
      rw (stored, sets-eq (image t) array 0 (omega (arith, image_fits t))) (take_at (image t) (drop (0 + length (image t)) array) n (sym e))
