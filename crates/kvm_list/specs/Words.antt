-- 32-bit words as bytes, little-endian.
use Rattle.std.specs.Prelude.{List, [], ◌∷◌, ◌++◌, ℕ, ◌%◌}
use Rattle.buffer.specs.Front.{bytes_of}

unfoldable pub bytes_of_words : List ℕ → List ℕ
bytes_of_words [] = []
bytes_of_words (w ∷ ws) = bytes_of w ++ bytes_of_words ws

-- what four bytes hold of a number
abbrev pub low_word : ℕ → ℕ
low_word n = n % 4294967296
