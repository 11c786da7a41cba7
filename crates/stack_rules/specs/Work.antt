-- How much there is still to do: each pump that moves something lowers it, and so does each drain, but one
-- in which a loop adapter indicates what it transmits.
use Rattle.std.specs.Prelude.{ℕ, ◌+◌, ◌-◌, ◌*◌, Bool, true, false, Option, Some, None, if◌then◌else◌, length, count_by, sum_by}
use Rattle.ndis_base.specs.declared.ModuleId.{ModuleId}
use Rattle.journal_types.specs.declared.PassWay.TheVariants as way
use Rattle.stack_rules.specs.declared.Stand.{Stand}
use Rattle.stack_rules.specs.declared.Stand.TheVariants as stand
use Rattle.stack_rules.specs.declared.LiveList.{LiveList}
use Rattle.stack_rules.specs.declared.Thing.{Thing}
use Rattle.stack_rules.specs.declared.Thing.TheVariants as thing
use Rattle.stack_rules.specs.declared.RequestAt.{RequestAt}
use Rattle.stack_rules.specs.declared.RequestAt.TheVariants as at
use Rattle.stack_rules.specs.declared.Request.{Request}
use Rattle.stack_rules.specs.Tests.{is_binding, is_down, is_echo, phase_is_running}
use Rattle.stack_rules.specs.Heads.{kind_of_binding, binding_numbers}
use Rattle.stack_rules.specs.Net.{Net, request_of}
use Rattle.stack_rules.specs.Places.{position, position_of_target, is_waiting}

-- the miniport's position
abbrev pub bottom : Net → ℕ
bottom net = length net.modules.order + 1

-- the echo bindings, while the stack runs
abbrev pub echo_count : Net → ℕ
echo_count net = if phase_is_running net.phase then count_by (λ b. is_echo (kind_of_binding net.head b)) (binding_numbers net.head) else 0

-- how far a receive has to go at t, with the sends of the echo bindings
abbrev pub up_work : Net → ℕ → ℕ
up_work net t = 2 * t + bottom net + 1 + 3 * bottom net * echo_count net

abbrev pub kept_work : Net → Bool → ModuleId → ℕ
kept_work net true m = 2 * (bottom net - position net.modules.order m) + bottom net + 1
kept_work net false m = if is_binding m then bottom net + 1 else up_work net (position net.modules.order m)

abbrev pub list_work : Net → LiveList → Stand → ℕ
list_work net l stand.Unplaced = 0
list_work net l (stand.Kept m) = kept_work net (is_down l.direction) m
list_work net l (stand.Passed way.Down to) = 2 * (bottom net - position_of_target net.modules.order to) + bottom net + 2
list_work net l (stand.Passed (way.Done status) to) = position_of_target net.modules.order to + 1
list_work net l (stand.Passed way.Up to) = up_work net (position_of_target net.modules.order to) + 1
list_work net l (stand.Passed (way.Back status) to) = bottom net - position_of_target net.modules.order to + 1

abbrev pub given_position : Net → RequestAt → ℕ
given_position net (at.Given m) = position net.modules.order m
given_position net _ = 0

-- where a filter's answered clone goes: the module that its parent was given to
abbrev pub holder_position : Net → Option Request → ℕ
holder_position net None = 0
holder_position net (Some r) = given_position net r.at

abbrev pub thing_work : Net → Thing → ℕ
thing_work net (thing.List l) = if is_waiting net l then 0 else list_work net l l.stand
thing_work net (thing.Status s) = position_of_target net.modules.order s.to + 1
thing_work net (thing.Answer a) = holder_position net (request_of a.parent.0 net.requests)

abbrev pub request_work : Net → RequestAt → ℕ
request_work net at.Entry = 2 * bottom net - 1
request_work net (at.Waiting m) = 2 * bottom net - position net.modules.order m
request_work net (at.Given m) = 0

abbrev pub work : Net → ℕ
work net = sum_by (thing_work net) net.things + sum_by (λ r. request_work net r.at) net.requests
