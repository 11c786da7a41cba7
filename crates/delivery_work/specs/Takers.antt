-- Which bindings take a list.
use Rattle.std.specs.Prelude.{ℕ, zero, suc, ◌+◌, ◌-◌, Bool, List, [], ◌∷◌, if◌then◌else◌, slice_index, slice_index_or}
use Rattle.stack_rules.specs.Deliveries.{is_taken_by}
use Rattle.stack_rules.specs.Net.{Net}

-- the numbers that pass a test, among so many from this one on
abbrev pub passing : (ℕ → Bool) → ℕ → ℕ → List ℕ
passing p from zero = []
passing p from (suc many) = if p from then from ∷ passing p (from + 1) many else passing p (from + 1) many

-- the packet filter of a binding takes a list
abbrev pub is_taker : Net → List (List ℕ) → ℕ → Bool
is_taker net frames b = is_taken_by (slice_index net.port.delivers_by b) net.head.port.address (slice_index_or frames 0 [])

-- the bindings from this one on that take a list, of so many in all
abbrev pub takers_from : Net → List (List ℕ) → ℕ → ℕ → List ℕ
takers_from net frames from many = passing (is_taker net frames) from (many - from)
