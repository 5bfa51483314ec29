-- Numbers of origins: a number read back is its origin, and a column of numbers is finished as its origins are.
use Rattle.std.specs.Prelude.{◌≡◌, refl, Bool, true, false, List, ℕ, ◌+◌, ◌*◌, ◌-◌, ◌/◌, ◌%◌, ◌<◌, get_or, set}
use Rattle.std.proofs.Common.{sym, ap, ◌∙◌, arith, le-ltb}
use Rattle.bits.specs.Choice.{pick}
use Rattle.bits.specs.ChoiceLaws.{pick_false}
use Rattle.bits.specs.Lists.{tabulate}
use Rattle.bits.specs.ListsLaws.{get_d_tabulate, tabulate_ext}
use Rattle.masking.specs.Kept.{places}
use Rattle.masking.specs.Place
use Rattle.memory.specs.Origin.{Origin, is_made_here, origin_of, origin_number, finished_origins, origin_read, origin_told}
use Rattle.memory.specs.Origin.Origin.{neither, made_here, not_known, entry}

-- "Pages beyond 32 bits of number": any page, and any position below 64
pub entry_read : (p q : ℕ) → q < 64 → origin_read (origin_number (entry p q)) ≡ origin_told (entry p q)
unfolding origin_read
entry_read p q l =
    let a : (4 + 64 * p + q - 4) / 64 ≡ p = omega arith in
    let b : (4 + 64 * p + q - 4) % 64 ≡ q = omega arith in
    pick_false _ _ (le-ltb (4 + 64 * p + q) 4 (omega arith)) ∙ rw (a, b)

pub neither_read : origin_read (origin_number neither) ≡ origin_told neither
unfolding origin_read
neither_read = refl

pub made_read : origin_read (origin_number made_here) ≡ origin_told made_here
unfolding origin_read
made_read = refl

pub not_known_read : origin_read (origin_number not_known) ≡ origin_told not_known
unfolding origin_read
not_known_read = refl

pub number_pick : (b : Bool) (x y : Origin) → origin_number (pick b x y) ≡ pick b (origin_number x) (origin_number y)
number_pick true x y = refl
number_pick false x y = refl

number_of : (b : Bool) (i : ℕ) (o : Origin) → origin_number (origin_of b i o) ≡ pick b (pick (is_made_here i) 1 (origin_number o)) 0
unfolding origin_of
number_of b i o =
    number_pick b (pick (is_made_here i) made_here o) neither
    ∙ ap (λ (n : ℕ). pick b n 0) (number_pick (is_made_here i) made_here o)

-- the column of a table's origins, from the column of its first entries'
pub finished_origins_lem : (present : List Bool) (first : ℕ → Origin)
    → finished_origins present (tabulate places (λ i. origin_number (first i))) ≡ tabulate places (λ i. origin_number (origin_of (get_or present i false) i (first i)))
unfolding finished_origins
finished_origins_lem present first =
    tabulate_ext places _ _ (λ i l.
    ap (λ (n : ℕ). pick (get_or present i false) (pick (is_made_here i) 1 n) 0) (get_d_tabulate places (λ j. origin_number (first j)) i 0 l)
    ∙ sym (number_of (get_or present i false) i (first i)))

-- the stores of the code: the four rows that are made here

abbrev pub marked : List ℕ → List ℕ
marked l = set (set (set (set l Place.core_level 1) Place.thread_level 1) Place.extended_max_function 1) Place.vendor_and_max_function 1
