-- Inputs written one after another.
use Rattle.std.specs.Prelude.{◌≡◌, refl, List, [], ◌∷◌, ◌++◌, ℕ, suc, ◌+◌, ◌*◌, ◌≤◌, ◌<◌, length}
use Rattle.std.proofs.Common.{ap, ◌∙◌, arith}
use Rattle.std.proofs.Math.Numerals.{add-one}
use Rattle.std.proofs.Math.ListN.{length-append}
use Rattle.std.proofs.lemmas.List.Edits.{sets}
use Rattle.std.proofs.Math.Seq.{length-sets}
use Rattle.buffer.specs.FrontLaws.{sets_append}
use Rattle.topology.specs.Topology.{Inputs}
use Rattle.topologies.specs.Gather.{gather}
use Rattle.topologies.specs.GatherLaws.{gather_le}
use Rattle.topologies.specs.Topologies.{accepted_inputs, inputs_bytes}
use Rattle.topologies.specs.CountLaws.{count_all}

pub inputs_append : (a b : List Inputs) → inputs_bytes (a ++ b) ≡ inputs_bytes a ++ inputs_bytes b
unfolding inputs_bytes
inputs_append [] b = refl
inputs_append (i ∷ a) b = rw (inputs_append a b)

pub bytes_length : (a : List Inputs) → length (inputs_bytes a) ≡ 5 * length a
unfolding inputs_bytes
bytes_length [] = refl
bytes_length (i ∷ a) = let h = bytes_length a in omega arith

pub list_bytes_lem : length (inputs_bytes accepted_inputs) ≡ 5095
list_bytes_lem = omega (arith, bytes_length accepted_inputs, count_all)

-- From index at₀ of a buffer the bytes of some inputs were written, which ended at index at.
pub record Wrote (out₀ : List ℕ) (at₀ : ℕ) (is : List Inputs) (out : List ℕ) (at : ℕ) : Type 0 where
  pub index : at ≡ at₀ + 5 * length is
  pub bytes : out ≡ sets out₀ at₀ (inputs_bytes is)

pub wrote_kept : {out₀ : List ℕ} {at₀ : ℕ} {is : List Inputs} {out : List ℕ} {at : ℕ} → Wrote out₀ at₀ is out at → length out ≡ length out₀
wrote_kept {out₀} {at₀} {is} w = ap length w.bytes ∙ length-sets out₀ at₀ (inputs_bytes is)

pub wrote_none : (out : List ℕ) (at : ℕ) → Wrote out at [] out at
unfolding inputs_bytes
wrote_none out at = record { index = omega arith; bytes = refl }

pub wrote_join : {a b c : List ℕ} {i j k : ℕ} {xs ys : List Inputs} → Wrote a i xs b j → Wrote b j ys c k → Wrote a i (xs ++ ys) c k
wrote_join {a} {b} {c} {i} {j} {k} {xs} {ys} p q =
    let e : j ≡ i + length (inputs_bytes xs) = omega (arith, p.index, bytes_length xs) in
    record {
      index = omega (arith, p.index, q.index, length-append xs ys);
      bytes = q.bytes ∙ rw (p.bytes, e, inputs_append xs ys) (sets_append (inputs_bytes xs) (inputs_bytes ys) a i);
    }

pub wrote_as : {a b : List ℕ} {i j : ℕ} {xs ys : List Inputs} → ys ≡ xs → Wrote a i xs b j → Wrote a i ys b j
wrote_as e w = rw e w

-- a loop over numbers: before turn k the first k lists are written
module _ (f : ℕ → List Inputs) (out₀ : List ℕ) (at₀ : ℕ) where
  pub wrote_first : Wrote out₀ at₀ (gather 0 f) out₀ at₀
  unfolding gather
  wrote_first = wrote_none out₀ at₀

  pub wrote_next : {out out' : List ℕ} {at at' k : ℕ} → Wrote out₀ at₀ (gather k f) out at → Wrote out at (f k) out' at'
      → Wrote out₀ at₀ (gather (k + 1) f) out' at'
  unfolding gather
  wrote_next p q = rw add-one (wrote_join p q)

  -- there is room for one more
  pub wrote_room : {out : List ℕ} {at : ℕ} (k n : ℕ) → k < n → at₀ + 5 * length (gather n f) ≤ length out₀ → Wrote out₀ at₀ (gather k f) out at
      → at + 5 * length (f k) ≤ length out
  unfolding gather
  wrote_room k n l h w = omega (arith, wrote_kept w, w.index, gather_le (suc k) n f l, length-append (gather k f) (f k))
