-- Each call once: the journals follow a script, lane by lane, each call in its turn and then its tail; and
-- each stack is opened before all calls and ended after them.
use Rattle.std.specs.Prelude.{ℕ, ◌≡◌, ◌≢◌, ◌+◌, ◌==◌, Bool, true, false, All, List, [], ◌∷◌, ◌++◌, Option, Some, None, slice_get, if◌then◌else◌}
use Rattle.ndis_base.specs.declared.LaneNo.{LaneNo}
use Rattle.ndis_base.specs.declared.Who.{Who}
use Rattle.ndis_base.specs.declared.Who.TheVariants as who
use Rattle.journal_types.specs.declared.Event.{Event}
use Rattle.journal_types.specs.declared.StackHead.{StackHead}
use Rattle.journal_types.specs.declared.Turn.{Turn}
use Rattle.script_types.specs.declared.Call.{Call}
use Rattle.script_types.specs.declared.FilterSetup.{FilterSetup}
use Rattle.script_types.specs.declared.MiniportSetup.{MiniportSetup}
use Rattle.script_types.specs.declared.StackSetup.{StackSetup}
use Rattle.stack_rules.specs.Net.{seen}
use Rattle.promise_rules.specs.declared.Link.{Link}
use Rattle.promise_rules.specs.declared.Opening.{Opening}
use Rattle.promise_rules.specs.declared.Opening.TheVariants.{Initialising, Opened}
use Rattle.promise_rules.specs.declared.Ending.{Ending}
use Rattle.promise_rules.specs.declared.Ending.TheVariants as ending_step
use Rattle.promise_rules.specs.declared.Tail.{Tail}
use Rattle.promise_rules.specs.declared.Tail.TheVariants as tails
use Rattle.promise_rules.specs.Tails.{next_stack, next_event, tail_after, tail_of, stack_asked, event_asked}
use Rattle.promise_rules.specs.Own.{opening_event, opening_after, filters_after, ending_of, ending_event, ending_after}

-- whether a lane makes the turn
abbrev pub is_of_lane : ℕ → Who → Bool
is_of_lane lane who.Own = false
is_of_lane lane (who.Call l) = l.0 == lane
is_of_lane lane (who.Help l) = l.0 == lane

-- the lane's next turn in what is left of a journal, and what is left after it
abbrev pub next_turn : ℕ → List Turn → Option Turn
next_turn lane [] = None
next_turn lane (t ∷ ts) = if is_of_lane lane t.who then Some t else next_turn lane ts

abbrev pub after_next : ℕ → List Turn → List Turn
after_next lane [] = []
after_next lane (t ∷ ts) = if is_of_lane lane t.who then ts else after_next lane ts

-- the lane's next turn on a stack, where this is left of the journals from a stack on; and what is left of
-- them after it
abbrev pub next_turn_on : ℕ → ℕ → ℕ → List (List Turn) → Option Turn
next_turn_on lane s from [] = None
next_turn_on lane s from (rest ∷ rests) = if from == s then next_turn lane rest else next_turn_on lane s (from + 1) rests

abbrev pub rests_after : ℕ → ℕ → ℕ → List (List Turn) → List (List Turn)
rests_after lane s from [] = []
rests_after lane s from (rest ∷ rests) = (if from == s then after_next lane rest else rest) ∷ rests_after lane s (from + 1) rests

-- a virtual miniport's link; other miniports have none
abbrev pub no_link : Link
no_link = record { lower = 0; binding = 0; vlan = 0 }

abbrev pub vlan_of : Option ℕ → ℕ
vlan_of None = 0
vlan_of (Some vlan) = vlan

abbrev pub link_with : Option ℕ → Option (ℕ × ℕ) → Link
link_with vlan None = no_link
link_with vlan (Some below) = record { lower = below.0; binding = below.1; vlan = vlan_of vlan }

abbrev pub link_in : Option StackSetup → Link
link_in None = no_link
link_in (Some setup) = link_with setup.miniport.port.vlan setup.miniport.link

abbrev pub link_of : List StackSetup → ℕ → Link
link_of stacks s = link_in (slice_get stacks s)

-- the lane's calls among these, after the rest of a tail, are what is left of the journals: each call in its
-- order makes the lane's next turn on the stack that it asks, and then each turn of its tail is the lane's
-- next one on its stack; calls of other lanes are passed over; and at last no turn of the lane is left
pub data Follows (stacks : List StackSetup) (lane : LaneNo) : List Call → Tail → List (List Turn) → Type 0 where
  done : (rests : List (List Turn)) → All (λ rest. next_turn lane.0 rest ≡ None) rests → Follows stacks lane [] tails.Ended rests
  other : (call : Call) (calls : List Call) (rests : List (List Turn)) → call.lane.0 ≢ lane.0 → Follows stacks lane calls tails.Ended rests → Follows stacks lane (call ∷ calls) tails.Ended rests
  called : (call : Call) (calls : List Call) (rests : List (List Turn)) (turn : Turn)
      → next_turn_on lane.0 (stack_asked (link_of stacks call.stack) call.stack call.kind) 0 rests ≡ Some turn
      → turn.who ≡ who.Call lane
      → turn.event ≡ event_asked (link_of stacks call.stack) call.kind
      → call.lane ≡ lane
      → Follows stacks lane calls (tail_of (link_of stacks call.stack) call.stack call.pump call.kind turn.reply) (rests_after lane.0 (stack_asked (link_of stacks call.stack) call.stack call.kind) 0 rests)
      → Follows stacks lane (call ∷ calls) tails.Ended rests
  helped : (calls : List Call) (tail : Tail) (rests : List (List Turn)) (s : ℕ) (turn : Turn)
      → next_stack tail ≡ Some s
      → next_turn_on lane.0 s 0 rests ≡ Some turn
      → turn.who ≡ who.Help lane
      → next_event tail ≡ Some turn.event
      → Follows stacks lane calls (tail_after tail turn.reply) (rests_after lane.0 s 0 rests)
      → Follows stacks lane calls tail rests

-- the lane's calls stand in the journals of the stacks, each once and in order, each with its tail, and
-- nothing else of the lane stands there
abbrev pub IsFollowed : List StackSetup → LaneNo → List Call → List (List Turn) → Type 0
IsFollowed stacks lane calls journals = Follows stacks lane calls tails.Ended journals

-- a turn of the run itself that asks this
pub record IsOwnTurn (asked : Option Event) (turn : Turn) : Type 0 where
  pub by : turn.who ≡ who.Own
  pub what : asked ≡ Some turn.event

-- the turns are those of an opening, or of an ending, and nothing else
abbrev pub Opens : Opening → List FilterSetup → List Turn → Type 0
Opens opening filters [] = opening ≡ Opened
Opens opening filters (t ∷ ts) = IsOwnTurn (opening_event opening filters) t × Opens (opening_after opening filters t.reply) (filters_after opening filters) ts

abbrev pub Ends : Ending → List Turn → Type 0
Ends ending [] = ending ≡ ending_step.Ended
Ends ending (t ∷ ts) = IsOwnTurn (ending_event ending) t × Ends (ending_after ending t.reply) ts

-- a journal is the opening of its stack, the turns of the lanes, and its ending by the phase that it is then
-- in
pub record IsOpenedAndEnded (head : StackHead) (filters : List FilterSetup) (turns : List Turn) : Type 0 where
  pub opening : List Turn
  pub middle : List Turn
  pub last : List Turn
  pub split : turns ≡ opening ++ (middle ++ last)
  pub opens : Opens Initialising filters opening
  pub calls : All (λ t. t.who ≢ who.Own) middle
  pub ends : Ends (ending_of (seen head (opening ++ middle)).phase) last
