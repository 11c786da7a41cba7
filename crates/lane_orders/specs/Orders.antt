-- In which order the calls of several lanes are made: for each lane of an order the lane's next call, a lane without
-- calls left being skipped, and then the rest, lane by lane in rising order.
use Rattle.std.specs.Prelude.{ℕ, ◌==◌, nat_lt, Bool, List, [], ◌∷◌, ◌++◌, filter, take, zero, suc, if◌then◌else◌}
use Rattle.script_types.specs.declared.Call.{Call}

-- the calls of a lane
abbrev pub calls_of : ℕ → List Call → List Call
calls_of lane calls = filter (λ c. c.lane.0 == lane) calls

-- the calls without a lane's next one
abbrev pub without_next : ℕ → List Call → List Call
without_next lane [] = []
without_next lane (c ∷ calls) = if c.lane.0 == lane then calls else c ∷ without_next lane calls

-- the calls that an order takes, and those that it leaves
abbrev pub taken : List ℕ → List Call → List Call
taken [] calls = []
taken (lane ∷ order) calls = take 1 (calls_of lane calls) ++ taken order (without_next lane calls)

abbrev pub left_by : List ℕ → List Call → List Call
left_by [] calls = calls
left_by (lane ∷ order) calls = left_by order (without_next lane calls)

-- the calls of the first so many lanes, lane by lane
abbrev pub lane_by_lane : ℕ → List Call → List Call
lane_by_lane zero calls = []
lane_by_lane (suc lane) calls = lane_by_lane lane calls ++ calls_of lane calls

-- the calls of so many lanes, as an order asks for them
abbrev pub ordered : ℕ → List ℕ → List Call → List Call
ordered lanes order calls = taken order calls ++ lane_by_lane lanes (left_by order calls)

-- a call of one of so many lanes
abbrev pub is_below : ℕ → Call → Bool
is_below lanes c = nat_lt c.lane.0 lanes
