-- Lists of bytes. The definitions read lists of any numbers; a slice of the code holds bytes, and a statement that needs this says `AreBytes`.
use Rattle.std.specs.Prelude.{◌≡◌, Bool, true, ◌&&◌, List, [], ◌∷◌, ℕ, zero, suc, ◌<◌, ltb, get_or}
use Rattle.std.proofs.Common.{lit<, ltb-true}
use Rattle.bits.specs.ChoiceLaws.{and_left, and_right}

-- each element is a byte
abbrev pub AreBytes : List ℕ → Type 0
AreBytes l = (k : ℕ) → get_or l k 0 < 256

-- the same by one pass over the list, for lists that are written out
unfoldable pub are_bytes : List ℕ → Bool
are_bytes [] = true
are_bytes (n ∷ l) = ltb n 256 && are_bytes l

pub bytes_at : (l : List ℕ) → are_bytes l ≡ true → AreBytes l
unfolding are_bytes
bytes_at [] e k = lit< tt
bytes_at (n ∷ l) e zero = ltb-true n 256 (and_left _ _ e)
bytes_at (n ∷ l) e (suc k) = bytes_at l (and_right (ltb n 256) _ e) k
