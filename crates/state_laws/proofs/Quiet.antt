-- The events whose rows change no state of a module: all but those that initialise, pause, restart, halt or
-- rewire the stack.
use Rattle.std.proofs.Common.{◌≡◌, Bool, true, false, Option, Some, None, refl}
use Rattle.ndis_base.specs.declared.ModuleId.{ModuleId}
use Rattle.ndis_base.specs.declared.ModuleId.TheVariants.{Miniport, Filter, Binding}
use Rattle.journal_types.specs.declared.Event.{Event}
use Rattle.journal_types.specs.declared.Event.TheVariants as event
use Rattle.stack_rules.specs.declared.Thing.{Thing}
use Rattle.stack_rules.specs.declared.Thing.TheVariants as thing
use Rattle.stack_rules.specs.declared.Choice.{Choice}
use Rattle.stack_rules.specs.Tests.{is_unbound}
use Rattle.stack_rules.specs.Net.{Net}
use Rattle.stack_rules.specs.Places.{agenda_first, state_of}
use Rattle.stack_rules.specs.Outcome.{Outcome}
use Rattle.stack_rules.specs.Drains.{drain_rows, drained}
use Rattle.stack_rules.specs.Pumps.{moved_rows, thing_rows, request_pump, pump_of, is_pump_moving}
use Rattle.stack_rules.specs.Requests.{Giving, given_rows_by, giving_rows, next_giving}
use Rattle.stack_rules.specs.Statuses.{status_rows}
use Rattle.stack_rules.specs.Sound.{outcome}
use Rattle.state_laws.proofs.Rows.{by_test, AreQuiet, calm_quiet}
use Rattle.state_laws.proofs.Calm.{calm_moved, calm_status, calm_drained, calm_event}

quiet_thing : (net : Net) (t : Thing) (keeps : Bool) → AreQuiet (thing_rows net t keeps)
quiet_thing net (thing.List l) keeps = calm_quiet (moved_rows net l l.stand keeps) (calm_moved net l l.stand keeps)
quiet_thing net (thing.Status s) keeps = calm_quiet (status_rows net s.number s.name s.to) (calm_status net s.number s.name s.to)
quiet_thing net (thing.Answer a) keeps = (refl, tt)

quiet_given : (net : Net) (g : Giving) → AreQuiet (giving_rows net g)
quiet_given net g = (refl, given g.module_id)
  where
    given : (m : ModuleId) → AreQuiet (given_rows_by net g.request m)
    given Miniport = (refl, tt)
    given (Filter f) = (refl, tt)
    given (Binding b) = tt

quiet_request : (net : Net) (o : Option Giving) → AreQuiet (request_pump net o).rows
quiet_request net None = tt
quiet_request net (Some g) = quiet_given net g

quiet_pump : (net : Net) (keeps : Bool) (o : Option Thing) → AreQuiet (pump_of net keeps o).rows
quiet_pump net keeps None = quiet_request net (next_giving net)
quiet_pump net keeps (Some t) = quiet_thing net t keeps

abbrev Quiet : Outcome → Type 0
Quiet o = AreQuiet o.rows

-- the event changes no state of a module
abbrev pub is_plain : Event → Bool
is_plain event.Initialize = false
is_plain (event.Insert kind position setup) = false
is_plain (event.Remove filter) = false
is_plain (event.Replace filter kind setup) = false
is_plain event.BeginPause = false
is_plain event.PauseNext = false
is_plain event.RestartNext = false
is_plain event.Halt = false
is_plain _ = true

pub quiet_event : (net : Net) (e : Event) (c : Choice) → is_plain e ≡ true → Quiet (outcome net e c)
quiet_event net event.Initialize c p = cc
quiet_event net (event.Insert kind position setup) c p = cc
quiet_event net (event.Remove filter) c p = cc
quiet_event net (event.Replace filter kind setup) c p = cc
quiet_event net event.BeginPause c p = cc
quiet_event net event.PauseNext c p = cc
quiet_event net event.RestartNext c p = cc
quiet_event net event.Halt c p = cc
quiet_event net (event.Ask binding kind code value) c p =
    by_test Quiet (is_unbound (state_of net (Binding binding))) _ _ (λ _. tt) (λ _. (refl, tt))
quiet_event net event.Pump c p = quiet_pump net c.keeps (agenda_first net)
quiet_event net event.Drain c p =
    by_test Quiet (is_pump_moving net) _ _ (λ _. quiet_pump net c.keeps (agenda_first net)) (λ _. calm_quiet (drained (drain_rows net)).rows (calm_drained net))
quiet_event net e c p = calm_quiet (outcome net e c).rows (calm_event net e c refl)
