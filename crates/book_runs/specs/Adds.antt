-- Which turns a run adds to its journal.
use Rattle.std.specs.Prelude.{◌≡◌, ℕ, ◌==◌, Bool, true, false, List, [], ◌∷◌, ◌++◌, Option, Some, None, if◌then◌else◌}
use Rattle.ndis_base.specs.declared.LaneNo.{LaneNo}
use Rattle.ndis_base.specs.declared.Who.{Who}
use Rattle.ndis_base.specs.declared.Who.TheVariants as who
use Rattle.journal_types.specs.declared.Asked.{Asked}
use Rattle.journal_types.specs.declared.Event.{Event}
use Rattle.journal_types.specs.declared.Event.TheVariants as event
use Rattle.journal_types.specs.declared.Reply.{Reply}
use Rattle.journal_types.specs.declared.Reply.TheVariants as reply
use Rattle.journal_types.specs.declared.Turn.{Turn}
use Rattle.script_types.specs.declared.FilterSetup.{FilterSetup}
use Rattle.promise_rules.specs.declared.Opening.{Opening}
use Rattle.promise_rules.specs.declared.Ending.{Ending}
use Rattle.promise_rules.specs.declared.Tail.{Tail}
use Rattle.promise_rules.specs.declared.Tail.TheVariants.{Ended, Pumping}
use Rattle.promise_rules.specs.Own.{opening_event, opening_after, filters_after, ending_event, ending_after}
use Rattle.promise_rules.specs.Tails.{next_event, next_stack, paused, pumping_if, restarted, tail_after, unless_refused}
use Rattle.book_lemmas.specs.Turns.{AddsTurn}
use Rattle.book_lemmas.specs.Views.{BookView}
use Rattle.book_parts.specs.Events.{IsBook}

abbrev pub asked_of : Turn → Asked
asked_of turn = record { who = turn.who; event = turn.event }

-- the turn was added: it may come next, the drivers did what its rows say, and the book stands again
pub record AddsThis (old new : BookView) (turn : Turn) : Type 0 where
  pub adds : AddsTurn old new (asked_of turn) turn.reply
  pub rows : turn.rows ≡ adds.rows
  pub book : IsBook new

-- so were some turns, one after the other
abbrev pub Adds : BookView → BookView → List Turn → Type 0
Adds old new [] = old ≡ new
Adds old new (t ∷ ts) = (mid : BookView) × AddsThis old mid t × Adds mid new ts

-- turns of this kind were added
pub record AddsTurns (Kind : List Turn → Type 0) (old new : BookView) : Type 0 where
  pub more : List Turn
  pub adds : Adds old new more
  pub kind : Kind more

-- the turn asks for this event, and is answered so
pub record Told (asker : Who) (asked : Event) (answer : Reply) (turn : Turn) : Type 0 where
  pub by : turn.who ≡ asker
  pub what : turn.event ≡ asked
  pub told : turn.reply ≡ answer

-- one such turn
pub record IsOne (asker : Who) (asked : Event) (answer : Reply) (turns : List Turn) : Type 0 where
  pub turn : Turn
  pub only : turns ≡ turn ∷ []
  pub told : Told asker asked answer turn

-- turns that each ask for this event, and are answered so
abbrev pub AreEach : Who → Event → Reply → List Turn → Type 0
AreEach asker asked answer [] = Unit {0}
AreEach asker asked answer (t ∷ ts) = Told asker asked answer t × AreEach asker asked answer ts

-- turns that ask for this event until it is answered as at last
pub record AreUntil (asker : Who) (asked : Event) (again at_last : Reply) (turns : List Turn) : Type 0 where
  pub before : List Turn
  pub last : Turn
  pub all : turns ≡ before ++ last ∷ []
  pub each : AreEach asker asked again before
  pub over : Told asker asked at_last last

-- a pump is answered by whether anything moved, and a restart by whether the stack runs
abbrev pub pump_reply : Bool → Reply
pump_reply true = reply.Moved
pump_reply false = reply.Idle

abbrev pub restart_reply : Bool → Reply
restart_reply true = reply.Running
restart_reply false = reply.Next

-- pumps until nothing moves
abbrev pub ArePumps : Who → List Turn → Type 0
ArePumps asker turns = AreUntil asker event.Pump reply.Moved reply.Idle turns

-- restarts until the stack runs
abbrev pub AreRestarts : Who → List Turn → Type 0
AreRestarts asker turns = AreUntil asker event.RestartNext reply.Next reply.Running turns

-- a step of a pause that isn't its last: it waits, or goes on
abbrev pub IsPauseStep : Who → Bool → Turn → Type 0
IsPauseStep asker true turn = (lists : ℕ) × Told asker event.PauseNext (reply.Waiting lists) turn
IsPauseStep asker false turn = Told asker event.PauseNext reply.Next turn

-- steps of a pause, with a drain after each that waits; they begin with a drain, or with a step
abbrev pub ArePauseSteps : Who → Bool → List Turn → Type 0
ArePauseSteps asker true [] = ⊥
ArePauseSteps asker false [] = Unit {0}
ArePauseSteps asker true (t ∷ ts) = Told asker event.Drain reply.Moved t × ArePauseSteps asker false ts
ArePauseSteps asker false (t ∷ ts) = (waits : Bool) × IsPauseStep asker waits t × ArePauseSteps asker waits ts

-- a pause to its end
pub record ArePauses (asker : Who) (turns : List Turn) : Type 0 where
  pub before : List Turn
  pub last : Turn
  pub all : turns ≡ before ++ last ∷ []
  pub steps : ArePauseSteps asker false before
  pub over : Told asker event.PauseNext reply.Paused last

-- the turns of one step of a pause: it is over, or goes on
abbrev pub ArePausing : Who → Bool → List Turn → Type 0
ArePausing asker true turns = IsOne asker event.PauseNext reply.Paused turns
ArePausing asker false turns = ArePauseSteps asker false turns

abbrev pub is_refused : Reply → Bool
is_refused (reply.Refused cause) = true
is_refused _ = false

-- turns lead from one state to another: each asks for what the state before it asks, and its answer leads on
abbrev pub TurnsLead : {S : Type 0} → Who → (S → Option Event) → (S → Reply → S) → S → S → List Turn → Type 0
TurnsLead asker asks goes from to [] = from ≡ to
TurnsLead asker asks goes from to (t ∷ ts) = (t.who ≡ asker) × (asks from ≡ Some t.event) × TurnsLead asker asks goes (goes from t.reply) to ts

-- the tail of a call of the only stack that wants one, asked so and answered so
abbrev pub tail_of_call : Event → Reply → Tail
tail_of_call event.BeginPause told = paused 0 told
tail_of_call event.PauseNext told = paused 0 told
tail_of_call event.RestartNext told = restarted 0 told
tail_of_call (event.Insert kind position setup) told = Ended
tail_of_call (event.Remove filter) told = Ended
tail_of_call (event.Replace filter kind setup) told = Ended
tail_of_call _ told = unless_refused (Pumping 0) told

-- what a tail asks next of the only stack
abbrev pub asked_here : Option ℕ → Option Event → Option Event
asked_here None asked = None
asked_here (Some stack) asked = if stack == 0 then asked else None

abbrev pub tail_asks : Tail → Option Event
tail_asks tail = asked_here (next_stack tail) (next_event tail)

-- the lane's help leads a tail to its end
abbrev pub IsTail : LaneNo → Tail → List Turn → Type 0
IsTail lane tail turns = TurnsLead (who.Help lane) tail_asks tail_after tail Ended turns

-- a call of a lane, and then its tail, unless it wants none or is refused
pub record IsCall (lane : LaneNo) (asked : Event) (pump : Bool) (turns : List Turn) : Type 0 where
  pub call : Turn
  pub tail : List Turn
  pub all : turns ≡ call ∷ tail
  pub by : call.who ≡ who.Call lane
  pub what : call.event ≡ asked
  pub follows : IsTail lane (pumping_if pump (tail_of_call asked call.reply)) tail

-- an opening with the filters that are left to it
abbrev pub opening_asks : (Opening × List FilterSetup) → Option Event
opening_asks at = opening_event at.0 at.1

abbrev pub opening_goes : (Opening × List FilterSetup) → Reply → (Opening × List FilterSetup)
opening_goes at told = (opening_after at.0 at.1 told, filters_after at.0 at.1)

-- the stack's own turns lead the opening from one state, where these filters are left, to another
abbrev pub OpensTo : Opening → List FilterSetup → Opening → List FilterSetup → List Turn → Type 0
OpensTo from filters to left turns = TurnsLead who.Own opening_asks opening_goes (from, filters) (to, left) turns

-- the stack's own turns lead the ending from one state to another
abbrev pub EndsTo : Ending → Ending → List Turn → Type 0
EndsTo from to turns = TurnsLead who.Own ending_event ending_after from to turns
