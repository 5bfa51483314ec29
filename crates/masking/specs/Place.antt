-- The places that have a name. `KeptLaws` shows that each is the place that the table of kept leaves gives.
use Rattle.std.specs.Prelude.{Bool, ◌||◌, ℕ, ◌+◌, eqb}

abbrev pub vendor_and_max_function : ℕ
vendor_and_max_function = 0

abbrev pub version_and_features : ℕ
version_and_features = 1

abbrev pub monitor_mwait : ℕ
monitor_mwait = 2

abbrev pub extended_features : ℕ
extended_features = 3

-- B.0, the level of threads, and B.1, the level of cores
abbrev pub thread_level : ℕ
thread_level = 4

abbrev pub core_level : ℕ
core_level = 5

-- D.k
abbrev pub extended_state : ℕ → ℕ
extended_state k = 6 + k

abbrev pub extended_max_function : ℕ
extended_max_function = 70

abbrev pub extended_version_and_features : ℕ
extended_version_and_features = 71

abbrev pub extended_address_space_sizes : ℕ
extended_address_space_sizes = 78

abbrev pub extended_optimization_identifiers : ℕ
extended_optimization_identifiers = 81

-- 8000001Dh.k
abbrev pub cache_topology : ℕ → ℕ
cache_topology k = 82 + k

abbrev pub processor_topology_definition : ℕ
processor_topology_definition = 86

abbrev pub extended_sev_features : ℕ
extended_sev_features = 87

-- the places of leaves 0 and 80000000h, to which no entry goes: the builder makes their rows
abbrev pub made_here : ℕ → Bool
made_here i = eqb i vendor_and_max_function || eqb i extended_max_function
