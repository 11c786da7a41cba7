-- A pump works the first item on its way; where there is none, a request that may be worked.
use Rattle.std.specs.Prelude.{Bool, List, [], Option, Some, None, is_some, ◌||◌}
use Rattle.journal_types.specs.declared.PassWay.TheVariants as way
use Rattle.journal_types.specs.declared.Target.TheVariants.{Module}
use Rattle.journal_types.specs.declared.Row.{Row}
use Rattle.journal_types.specs.declared.Reply.TheVariants as reply
use Rattle.stack_rules.specs.declared.Stand.{Stand}
use Rattle.stack_rules.specs.declared.Stand.TheVariants as stand
use Rattle.stack_rules.specs.declared.LiveList.{LiveList}
use Rattle.stack_rules.specs.declared.Thing.{Thing}
use Rattle.stack_rules.specs.declared.Thing.TheVariants as thing
use Rattle.stack_rules.specs.Net.{Net}
use Rattle.stack_rules.specs.Places.{agenda_first}
use Rattle.stack_rules.specs.Outcome.{Outcome, answered}
use Rattle.stack_rules.specs.Sends.{down_rows}
use Rattle.stack_rules.specs.Dones.{homeward_rows}
use Rattle.stack_rules.specs.Receives.{up_rows}
use Rattle.stack_rules.specs.Requests.{Giving, next_giving, giving_rows, answer_rows}
use Rattle.stack_rules.specs.Statuses.{status_rows}

-- a list on its way is worked
abbrev pub moved_rows : Net → LiveList → Stand → Bool → List Row
moved_rows net l (stand.Passed way.Down (Module m)) keeps = down_rows net l m keeps
moved_rows net l (stand.Passed way.Up to) keeps = up_rows net l to keeps
moved_rows net l (stand.Passed (way.Done status) (Module m)) keeps = homeward_rows net l m status
moved_rows net l (stand.Passed (way.Back status) (Module m)) keeps = homeward_rows net l m status
moved_rows net l _ keeps = []

abbrev pub thing_rows : Net → Thing → Bool → List Row
thing_rows net (thing.List l) keeps = moved_rows net l l.stand keeps
thing_rows net (thing.Status s) keeps = status_rows net s.number s.name s.to
thing_rows net (thing.Answer a) keeps = answer_rows a.parent a.status a.value

abbrev pub request_pump : Net → Option Giving → Outcome
request_pump net None = answered reply.Idle
request_pump net (Some g) = record { reply = reply.Moved; rows = giving_rows net g }

abbrev pub pump_of : Net → Bool → Option Thing → Outcome
pump_of net keeps None = request_pump net (next_giving net)
pump_of net keeps (Some t) = record { reply = reply.Moved; rows = thing_rows net t keeps }

abbrev pub pump_outcome : Net → Bool → Outcome
pump_outcome net keeps = pump_of net keeps (agenda_first net)

-- a pump would move something
abbrev pub is_pump_moving : Net → Bool
is_pump_moving net = is_some (agenda_first net) || is_some (next_giving net)
