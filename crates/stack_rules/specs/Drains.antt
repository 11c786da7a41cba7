-- A drain moves what stands still while the stack is to become empty: where a pump would move something
-- it does that, else the first module from the top that keeps a ready list gives it away.
use Rattle.std.specs.Prelude.{ℕ, Bool, List, [], ◌∷◌, ◌++◌, Option, Some, None, if◌then◌else◌, map}
use Rattle.ndis_base.specs.declared.ModuleId.TheVariants.{Miniport, Filter, Binding}
use Rattle.ndis_base.specs.declared.ListStatus.TheVariants.{Success, Paused}
use Rattle.journal_types.specs.declared.Row.{Row}
use Rattle.journal_types.specs.declared.Reply.TheVariants as reply
use Rattle.stack_rules.specs.declared.LiveList.{LiveList}
use Rattle.stack_rules.specs.Tests.{is_retain, is_virtual, phase_is_running}
use Rattle.stack_rules.specs.Heads.{kind_of_binding, binding_numbers}
use Rattle.stack_rules.specs.Net.{Net}
use Rattle.stack_rules.specs.Places.{position, ready_lists}
use Rattle.stack_rules.specs.Targets.{onward, homeward, turned_back}
use Rattle.stack_rules.specs.Outcome.{Outcome, answered}
use Rattle.stack_rules.specs.Sends.{first_of, transmitted}
use Rattle.stack_rules.specs.Pumps.{is_pump_moving, pump_outcome}
use Rattle.stack_rules.specs.Cancels.{is_hold_filter}

-- a retain protocol returns all that it keeps, the oldest first
abbrev pub returned_by : Net → LiveList → Row
returned_by net l = homeward net.modules l 0 Success

abbrev pub returns_all : Net → ℕ → List Row
returns_all net b = if is_retain (kind_of_binding net.head b) then map (returned_by net) (ready_lists net (Binding b)) else []

-- a hold filter passes on all ready lists that it keeps, the oldest first
abbrev pub passed_by : Net → ℕ → LiveList → Row
passed_by net f l = onward net.modules l.list l.direction (position net.modules.order (Filter f))

abbrev pub passes_all : Net → ℕ → List Row
passes_all net f = if is_hold_filter net.modules f then map (passed_by net f) (ready_lists net (Filter f)) else []

-- a ring or loop adapter transmits its oldest; a virtual miniport turns its oldest uncrossed list back,
-- only while the phase isn't Running
abbrev pub empties : Net → Option LiveList → List Row
empties net None = []
empties net (Some l) =
    if is_virtual net.head.kind
    then (if phase_is_running net.phase then [] else turned_back net.modules l Miniport Paused)
    else transmitted net l

abbrev pub empties_ring : Net → List Row
empties_ring net = empties net (first_of (ready_lists net Miniport))

-- the rows of the first module that has any
abbrev pub first_rows : List (List Row) → List Row
first_rows [] = []
first_rows ([] ∷ others) = first_rows others
first_rows ((r ∷ rows) ∷ others) = r ∷ rows

abbrev pub drain_rows : Net → List Row
drain_rows net =
    first_rows (map (returns_all net) (binding_numbers net.head) ++ (map (passes_all net) net.modules.order ++ empties_ring net ∷ []))

abbrev pub drained : List Row → Outcome
drained [] = answered reply.Idle
drained (r ∷ rows) = record { reply = reply.Moved; rows = r ∷ rows }

abbrev pub drain_outcome : Net → Bool → Outcome
drain_outcome net keeps = if is_pump_moving net then pump_outcome net keeps else drained (drain_rows net)
