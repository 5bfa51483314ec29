-- Document 02, P11: "Each row shall hold its page and entry, or "made here" for 0, 80000000h, B.0 and B.1; an absent row holds neither." A row that
-- was read from an image has an origin that is not known: an image holds none.
use Rattle.std.specs.Prelude.{Bool, false, ◌||◌, List, ℕ, ◌+◌, ◌*◌, ◌-◌, ◌/◌, ◌%◌, eqb, ltb, get_or}
use Rattle.bits.specs.Choice.{pick}
use Rattle.bits.specs.Lists.{tabulate}
use Rattle.masking.specs.Kept.{places}
use Rattle.masking.specs.Place
use Rattle.memory.specs.declared.origins.OriginRead.{OriginRead}

-- an entry is told by its page and its position there, both from 0
pub data Origin : Type 0 where
  neither made_here not_known : Origin
  entry : ℕ → ℕ → Origin

-- "made here" for 0, 80000000h, B.0 and B.1
unfoldable pub is_made_here : ℕ → Bool
is_made_here i =
    eqb i Place.vendor_and_max_function || (eqb i Place.extended_max_function || (eqb i Place.thread_level || eqb i Place.core_level))

-- the origin of the row at place i: whether it is there, and where the first entry of the place stands
unfoldable pub origin_of : Bool → ℕ → Origin → Origin
origin_of present i first = pick present (pick (is_made_here i) made_here first) neither

-- ---- as numbers: a page has 64 entries at most, so that each origin has a number of its own. 2 is no origin's: numbers below 4 are read back as
-- themselves, and read back 2 is "an entry".

abbrev pub origin_number : Origin → ℕ
origin_number neither = 0
origin_number made_here = 1
origin_number not_known = 3
origin_number (entry page position) = 4 + 64 * page + position

-- a table's column of origins, from the flags of its rows and the numbers of the first entries
unfoldable pub finished_origins : List Bool → List ℕ → List ℕ
finished_origins present found = tabulate places (λ i. pick (get_or present i false) (pick (is_made_here i) 1 (get_or found i 0)) 0)

-- a number read back: which of the four cases, and the entry's page and position, or zeros
unfoldable pub origin_read : ℕ → OriginRead
origin_read n =
    pick (ltb n 4) (record { origin = n; page = 0; position = 0 }) (record { origin = 2; page = (n - 4) / 64; position = (n - 4) % 64 })

-- the three numbers of an origin itself
abbrev pub origin_told : Origin → OriginRead
origin_told neither = record { origin = 0; page = 0; position = 0 }
origin_told made_here = record { origin = 1; page = 0; position = 0 }
origin_told not_known = record { origin = 3; page = 0; position = 0 }
origin_told (entry page position) = record { origin = 2; page = page; position = position }
