-- What is answered and stored, by the test that decides.
use Rattle.std.specs.Prelude.{◌≡◌, true, false, List, ℕ, ◌+◌, ◌≤◌, ◌<◌, length, take, drop, Err, None, Ok, Some}
use Rattle.std.proofs.Common.{sym, arith, take_at}
use Rattle.std.proofs.lemmas.List.Edits.{sets, sets-eq}
use Rattle.table.specs.declared.Refusal.TheVariants.{BufferTooShort}
use Rattle.buffer.specs.FrontLaws.{front_short, front_whole}
use Rattle.lines.specs.declared.bytes.LineDetails.{LineDetails}
use Rattle.lines.specs.Line.{writable, line}
use Rattle.lines.specs.WriteLine.{leaves, write_line}

module _ (d : LineDetails) (buffer : List ℕ) where
  pub write_none : writable d ≡ false → write_line d buffer ≡ leaves None buffer
  unfolding write_line
  write_none e = rw e

  pub write_short : writable d ≡ true → length buffer < length (line d) → write_line d buffer ≡ leaves (Some (Err BufferTooShort)) buffer
  unfolding write_line
  write_short e h = rw (e, front_short (line d) buffer h)

  pub write_whole : writable d ≡ true → length (line d) ≤ length buffer
      → write_line d buffer ≡ leaves (Some (Ok (length (line d)))) (sets buffer 0 (line d))
  unfolding write_line
  write_whole e h = rw (e, front_whole (line d) buffer h)

-- what was stored at the front
pub front : (bytes l : List ℕ) {m : List ℕ} {n : ℕ} → m ≡ sets l 0 bytes → n ≡ length bytes → n ≤ length l → take n m ≡ bytes
front bytes l {m} {n} p e h = rw (p, sets-eq bytes l 0 (omega arith)) (take_at bytes (drop (0 + length bytes) l) n (sym e))
