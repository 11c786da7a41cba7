-- Which scripts can be run, and what their run gives.
use Rattle.std.specs.Prelude.{◌≡◌, ℕ, ◌&&◌, nat_le, Bool, true, false, List, [], ◌∷◌, length}
use Rattle.std.specs.List.{list_all}
use Rattle.ndis_base.specs.declared.LaneNo.{LaneNo}
use Rattle.ndis_base.specs.declared.MiniportKind.{MiniportKind}
use Rattle.ndis_base.specs.declared.MiniportKind.TheVariants as miniport_kind
use Rattle.ndis_base.specs.declared.ProtocolKind.{ProtocolKind}
use Rattle.ndis_base.specs.declared.ProtocolKind.TheVariants as protocol_kind
use Rattle.journal_types.specs.declared.StackHead.{StackHead}
use Rattle.journal_types.specs.declared.Turn.{Turn}
use Rattle.stack_rules.specs.Conditions.{is_between}
use Rattle.stack_rules.specs.Sound.{Sound}
use Rattle.script_types.specs.declared.Script.{Script}
use Rattle.script_types.specs.declared.StackSetup.{StackSetup}
use Rattle.script_types.specs.declared.Call.{Call}
use Rattle.promise_rules.specs.Followed.{IsFollowed, IsOpenedAndEnded}
use Rattle.book_scripts.specs.Scripts.{is_fine}
use Rattle.lane_orders.specs.Orders.{is_below, ordered}
use Rattle.book_scripts.specs.Laws.{MeetsLaws}
use Rattle.book_scripts.specs.Orders.{CallsInOrder}
use Rattle.book_scripts.specs.Asked.{PausesAreAsked}
use Rattle.book_scripts.specs.Scripts.{is_asked_call}

-- the head of the journal of a script's only stack
abbrev pub head_of : StackSetup → StackHead
head_of s = record { stack = 0; kind = s.miniport.kind; port = s.miniport.port; link = s.miniport.link; bindings = s.bindings; uppers = [] }

-- the drivers that can be run: adapters with a ring, protocols that log, retain or echo, and filters of any kind
abbrev pub is_built_miniport : MiniportKind → Bool
is_built_miniport miniport_kind.Virtual = false
is_built_miniport _ = true

abbrev pub is_built_binding : (ProtocolKind × ℕ) → Bool
is_built_binding (protocol_kind.Mux, pool) = false
is_built_binding _ = true

-- a stack that can be run: such an adapter below 1 to 8 such protocols, and at most 16 filters whose set-up is fine
abbrev pub is_built_stack : StackSetup → Bool
is_built_stack s =
    is_built_miniport s.miniport.kind
    && (is_between 1 8 (length s.bindings) && (list_all is_built_binding s.bindings && (nat_le (length s.filters) 16 && list_all is_fine s.filters)))

-- and calls that may be asked of it
abbrev pub are_built : List StackSetup → List Call → Bool
are_built (s ∷ []) calls = is_built_stack s && list_all (is_asked_call (head_of s)) calls
are_built _ calls = false

-- a script that can be run: one stack, and calls of the script's lanes
abbrev pub is_built : Script → Bool
is_built s = list_all (is_below s.lanes) s.calls && are_built s.stacks s.calls

-- the journal of a run in an order of lanes: of the script's stack, and sound; it ends Halted, and meets the laws;
-- each lane's calls stand there once and in order, each with its tail, between the opening and the ending; all calls
-- stand in the order that is asked for, each together with its tail; and no pause begins but by a call that asks for
-- it, or in the ending
pub record IsRun (script : Script) (order : List ℕ) (head : StackHead) (turns : List Turn) : Type 0 where
  pub stack : StackSetup
  pub only : script.stacks ≡ stack ∷ []
  pub head_is : head ≡ head_of stack
  pub sound : Sound head turns
  pub laws : MeetsLaws head turns
  pub followed : (lane : LaneNo) → IsFollowed script.stacks lane script.calls (turns ∷ [])
  pub ended : IsOpenedAndEnded head stack.filters turns
  pub in_order : CallsInOrder script.stacks head stack.filters (ordered script.lanes order script.calls) turns
  pub pauses_asked : PausesAreAsked script.calls ended.last turns
