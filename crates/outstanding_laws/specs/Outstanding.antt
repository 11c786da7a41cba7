-- How many lists a position has outstanding, by what is in hand: the pools, the kept lists and the queue of what is
-- on its way. Of a list on its way up or done the queue doesn't tell who had it last; its target does.
use Rattle.std.specs.Prelude.{◌≡◌, ◌≢◌, ◌≤◌, ℕ, ◌+◌, ◌==◌, ◌&&◌, not, Bool, true, false, List, [], Option, Some, None, length, count_by, sum_by, slice_index_or}
use Rattle.ndis_base.specs.declared.ModuleId.{ModuleId}
use Rattle.ndis_base.specs.declared.ModuleId.TheVariants.{Miniport, Filter, Binding}
use Rattle.ndis_base.specs.declared.Phase.TheVariants as phase
use Rattle.journal_types.specs.declared.StackHead.{StackHead}
use Rattle.journal_types.specs.declared.Turn.{Turn}
use Rattle.journal_types.specs.declared.PassWay.TheVariants as way
use Rattle.journal_types.specs.declared.Target.TheVariants.{Module}
use Rattle.stack_rules.specs.declared.LiveList.{LiveList}
use Rattle.stack_rules.specs.declared.Stand.{Stand}
use Rattle.stack_rules.specs.declared.Stand.TheVariants as stand
use Rattle.stack_rules.specs.declared.Thing.{Thing}
use Rattle.stack_rules.specs.declared.Thing.TheVariants as thing
use Rattle.stack_rules.specs.Tests.{same_number}
use Rattle.stack_rules.specs.Net.{Net, Modules, lists, seen}
use Rattle.stack_rules.specs.Places.{position, position_of_target, position_in, is_passed, outstanding, owned, kept_lists, agenda}
use Rattle.stack_rules.specs.Targets.{has_send, has_receive, first_filter, filters_below, next_up, next_done}
use Rattle.stack_rules.specs.Rewires.{is_in}
use Rattle.stack_rules.specs.Pauses.{floors, first_unpaused}
use Rattle.stack_rules.specs.Sound.{Sound}
use Rattle.rule_basics.specs.Live.{Each}
use Rattle.state_laws.specs.Laws.{IsThere}

-- the module passes sends: it is the miniport, or a filter of the order with the send pair
abbrev pub passes_sends : Modules → ModuleId → Bool
passes_sends ms Miniport = true
passes_sends ms (Filter f) = is_in f ms.order && has_send ms f
passes_sends ms (Binding b) = false

-- the module passes receives: it is the miniport, or a filter of the order with the receive pair
abbrev pub passes_receives : Modules → ModuleId → Bool
passes_receives ms Miniport = true
passes_receives ms (Filter f) = is_in f ms.order && has_receive ms f
passes_receives ms (Binding b) = false

-- a list on its way up or done was passed by such a module, to the next target from there
abbrev pub IsPassedAt : Modules → LiveList → Stand → Type 0
IsPassedAt ms l (stand.Passed way.Up to) = (passes_receives ms l.last ≡ true) × (to ≡ next_up ms (position ms.order l.last))
IsPassedAt ms l (stand.Passed (way.Done status) to) = (passes_sends ms l.last ≡ true) × (to ≡ next_done ms (position ms.order l.last) l.owner)
IsPassedAt ms l _ = Unit {0}

abbrev pub IsPassed : Modules → LiveList → Type 0
IsPassed ms l = IsPassedAt ms l l.stand

-- After each sound journal of a stack that has a binding.
abbrev pub EachIsPassed : Type 0
EachIsPassed = (head : StackHead) (turns : List Turn) → Sound head turns → 1 ≤ length head.bindings → Each (IsPassed (seen head turns).modules) (lists (seen head turns).things)

-- the position of the nearest filter below a position that has the pair, else that of the miniport
abbrev pub nearest_below : Modules → (ℕ → Bool) → ℕ → ℕ
nearest_below ms has i = position_of_target ms.order (first_filter has (filters_below ms i) (Module Miniport))

-- the position of a list on its way, by its way and its target alone
abbrev pub way_position : Modules → Stand → Option ℕ
way_position ms (stand.Passed way.Down to) = Some (position_of_target ms.order to)
way_position ms (stand.Passed (way.Back status) to) = Some (position_of_target ms.order to)
way_position ms (stand.Passed (way.Done status) to) = Some (nearest_below ms (has_send ms) (position_of_target ms.order to))
way_position ms (stand.Passed way.Up to) = Some (nearest_below ms (has_receive ms) (position_of_target ms.order to))
way_position ms stand.Unplaced = None
way_position ms (stand.Kept m) = None

-- a list on its way is at the position that its way and its target tell
abbrev pub IsAtItsWay : Modules → LiveList → Type 0
IsAtItsWay ms l = is_passed l.stand ≡ true → position_in ms.order l.last l.stand ≡ way_position ms l.stand

-- After each sound journal of a stack that has a binding.
abbrev pub EachIsAtItsWay : Type 0
EachIsAtItsWay = (head : StackHead) (turns : List Turn) → Sound head turns → 1 ≤ length head.bindings → Each (IsAtItsWay (seen head turns).modules) (lists (seen head turns).things)

-- the owner is a module of the configuration, and no module at the owner's position keeps the list
pub record IsKeptApart (net : Net) (l : LiveList) : Type 0 where
  pub there : IsThere net l.owner
  pub apart : (m : ModuleId) → l.stand ≡ stand.Kept m → position net.modules.order m ≢ position net.modules.order l.owner

-- After each sound journal of a stack that has a binding.
abbrev pub EachIsKeptApart : Type 0
EachIsKeptApart = (head : StackHead) (turns : List Turn) → Sound head turns → 1 ≤ length head.bindings → Each (IsKeptApart (seen head turns)) (lists (seen head turns).things)

-- the modules of a position: all bindings, a filter, or the miniport
abbrev pub modules_at : Net → ℕ → List ModuleId
modules_at net i = slice_index_or (floors net.modules) i []

-- how many live lists a module owns, and how many it keeps
abbrev pub in_module : Net → ModuleId → ℕ
in_module net m = owned net m + length (kept_lists net m)

-- a list on its way counts at a position that it is at and its owner isn't, by its way and its target alone
abbrev pub counts_away : Modules → ℕ → ModuleId → Stand → Bool
counts_away ms i owner at = not (position ms.order owner == i) && same_number (way_position ms at) (Some i)

abbrev pub is_counted_away : Modules → ℕ → Thing → Bool
is_counted_away ms i (thing.List l) = counts_away ms i l.owner l.stand
is_counted_away ms i (thing.Status s) = false
is_counted_away ms i (thing.Answer a) = false

-- what a position has in hand: what its modules own and keep, and what else on its way counts there
abbrev pub in_hand_at : Net → ℕ → ℕ
in_hand_at net i = sum_by (in_module net) (modules_at net i) + count_by (is_counted_away net.modules i) (agenda net)

-- While a stack that has a binding pauses, after each sound journal, the first position that isn't Paused has
-- outstanding what it has in hand.
abbrev pub EachIsInHand : Type 0
EachIsInHand = (head : StackHead) (turns : List Turn) → Sound head turns → 1 ≤ length head.bindings → (seen head turns).phase ≡ phase.Pausing → outstanding (seen head turns) (first_unpaused (seen head turns)) ≡ in_hand_at (seen head turns) (first_unpaused (seen head turns))
