-- A new reader gives every entry of the pages, each once and in order, and of each it says whether it counts; of clean pages each is clean.
use Rattle.std.proofs.Math.Path.{◌≡◌, sym, ap}
use Rattle.std.specs.Prelude.{List, map, ℕ, ◌≤◌, length}
use Rattle.std.proofs.Common.{◌∙◌}
use Rattle.std.proofs.Math.Bool.{true}
use Rattle.bits.specs.Lists.{keep_if}
use Rattle.pages.specs.Entries.{entries, counted}
use Rattle.pages.specs.Parsed.{parsed, counts_read}
use Rattle.pages.specs.Walk.{first_index}
use Rattle.pages.specs.WalkLaws.{first_valid, rest_first}
use Rattle.pages.specs.Reserved.{clean, all_clean}
use Rattle.pages.proofs.ReservedLaws.{clean_kept}
use Rattle.pages.specs.Read.{given}
use Rattle.pages.specs.ReadLaws.{gives_rest, says_counts}

pub reader_gives : (s : List ℕ) (n : ℕ) → length (entries s) ≤ n → given s n (first_index s) ≡ map parsed (entries s)
reader_gives s n l = gives_rest s n (first_index s) (first_valid s) (rw (rest_first s) l) ∙ ap (map parsed) (rest_first s)

-- those that count are the counted entries
pub reader_gives_counted : (s : List ℕ) (n : ℕ) → length (entries s) ≤ n → keep_if counts_read (given s n (first_index s)) ≡ map parsed (counted s)
unfolding counted
reader_gives_counted s n l = ap (keep_if counts_read) (reader_gives s n l) ∙ says_counts (entries s)

-- of clean pages every entry that it gives is clean: it gives those alone, and leaves none out
pub reader_gives_clean : (s : List ℕ) (n : ℕ) → length (entries s) ≤ n → all_clean s ≡ true
    → given s n (first_index s) ≡ map parsed (keep_if (clean s) (entries s))
reader_gives_clean s n l e = reader_gives s n l ∙ ap (map parsed) (sym (clean_kept s e))
