-- Stores one after another are one run of stores, and so are bytes copied over others. A run from the front on is what `write_front` leaves.
use Rattle.std.specs.Prelude.{◌≡◌, List, [], ◌∷◌, ◌++◌, ℕ, suc, ◌+◌, ◌-◌, ◌≤◌, ◌<◌, length, set, Err, Ok}
use Rattle.std.proofs.Common.{append_assoc, add-zero, arith, le-leb}
use Rattle.std.proofs.Math.Nat.{zero-add}
use Rattle.std.proofs.Math.Numerals.{towards_suc}
use Rattle.std.proofs.lemmas.List.{drop-drop}
use Rattle.std.proofs.lemmas.List.Edits.{sets}
use Rattle.std.proofs.Math.Seq.{sets-eq}
use Rattle.std.proofs.lemmas.Bool.{lt-leb}
use borrow.Rule.Slice.PartMut.{put_mid}
use Rattle.x86defs.specs.declared.CpuidResult.{CpuidResult}
use Rattle.table.specs.declared.Refusal.TheVariants.{BufferTooShort}
use Rattle.buffer.specs.Front.{word_bytes, register_bytes, write_front}

pub sets_append : (xs ys l : List ℕ) (i : ℕ) → sets (sets l i xs) (i + length xs) ys ≡ sets l i (xs ++ ys)
sets_append [] ys l i = rw add-zero
sets_append (x ∷ xs) ys l i = let e : i + suc (length xs) ≡ suc i + length xs = omega arith in rw e (sets_append xs ys (set l i x) (suc i))

pub registers_sets : (out : List ℕ) (at : ℕ) (r : CpuidResult)
    → sets (sets (sets (sets out at (word_bytes r.eax)) (at + 4) (word_bytes r.ebx)) (at + 8) (word_bytes r.ecx)) (at + 12) (word_bytes r.edx)
    ≡ sets out at (register_bytes r)
unfolding word_bytes register_bytes
registers_sets out at r = let twelve : at + 12 ≡ suc (suc (suc (suc (at + 8)))) = omega arith in simp (twelve, towards_suc)

-- bytes copied over as many of a list's, from index at to index end
pub part_sets : (bytes vs l : List ℕ) (at end : ℕ) → vs ≡ bytes → end ≡ at + length bytes → end ≤ length l
    → put_mid at (end - at) l vs ≡ sets l at bytes
part_sets bytes vs l at end e n h =
    let k : end - at ≡ length bytes = omega arith in
    rw (e, k, drop-drop (length bytes) at l, sets-eq bytes l at (omega arith), append_assoc)

-- a buffer that is too short, and one with room
module _ (bytes buffer : List ℕ) where
  pub front_short : length buffer < length bytes → write_front bytes buffer ≡ record { answer = Err BufferTooShort; buffer = buffer }
  unfolding write_front
  front_short h = rw (lt-leb (length bytes) (length buffer) h)

  pub front_whole : length bytes ≤ length buffer → write_front bytes buffer ≡ record { answer = Ok (length bytes); buffer = sets buffer 0 bytes }
  unfolding write_front
  front_whole h = rw (le-leb (length bytes) (length buffer) h, sets-eq bytes buffer 0 (rw zero-add h), zero-add)
