-- From which place on each lane's calls are left.
use Rattle.std.specs.Prelude.{ℕ, ◌≡◌, ◌≤◌, All, List, ◌++◌, take, drop, length, slice_index_or}
use Rattle.script_types.specs.declared.Call.{Call}
use Rattle.lane_orders.specs.Orders.{calls_of, without_next, taken, left_by}

-- the calls of a lane from its place on; a lane without a place has none
abbrev pub left_of : List Call → List ℕ → ℕ → List Call
left_of calls nexts lane = calls_of lane (drop (slice_index_or nexts lane (length calls)) calls)

-- each place is one of the calls, or past the last
abbrev pub AreWithin : List Call → List ℕ → Type 0
AreWithin calls nexts = All (λ next. next ≤ length calls) nexts

-- of each lane those calls are left that these have
pub record Leaves (calls : List Call) (nexts : List ℕ) (rest : List Call) : Type 0 where
  pub of : (lane : ℕ) → left_of calls nexts lane ≡ calls_of lane rest

-- a lane's next call was added, if it has one left
pub record MovesOn (calls : List Call) (lane : ℕ) (nexts : List ℕ) (made : List Call) (nexts' : List ℕ) (made' : List Call) : Type 0 where
  pub within : AreWithin calls nexts'
  pub leaves : (rest : List Call) → Leaves calls nexts rest → Leaves calls nexts' (without_next lane rest)
  pub adds : made' ≡ made ++ take 1 (left_of calls nexts lane)

-- so were those of the lanes of an order
pub record MovesAlong (calls : List Call) (order : List ℕ) (nexts : List ℕ) (made : List Call) (nexts' : List ℕ) (made' : List Call) : Type 0 where
  pub within : AreWithin calls nexts'
  pub leaves : (rest : List Call) → Leaves calls nexts rest → Leaves calls nexts' (left_by order rest)
  pub adds : (rest : List Call) → Leaves calls nexts rest → made' ≡ made ++ taken order rest
