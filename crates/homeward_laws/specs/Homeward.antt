-- Where a list goes on its way home, and who owns a list.
use Rattle.std.specs.Prelude.{◌≡◌, ◌≤◌, ◌⊎◌, ℕ, Bool, true, false, List, length}
use Rattle.ndis_base.specs.declared.ModuleId.{ModuleId}
use Rattle.ndis_base.specs.declared.ModuleId.TheVariants.{Miniport, Filter, Binding}
use Rattle.journal_types.specs.declared.StackHead.{StackHead}
use Rattle.journal_types.specs.declared.Turn.{Turn}
use Rattle.journal_types.specs.declared.PassWay.{PassWay}
use Rattle.journal_types.specs.declared.PassWay.TheVariants as way
use Rattle.journal_types.specs.declared.Target.{Target}
use Rattle.journal_types.specs.declared.Target.TheVariants.{Module}
use Rattle.stack_rules.specs.declared.LiveList.{LiveList}
use Rattle.stack_rules.specs.declared.Stand.{Stand}
use Rattle.stack_rules.specs.declared.Stand.TheVariants as stand
use Rattle.stack_rules.specs.Tests.{is_down}
use Rattle.stack_rules.specs.Net.{Net, Modules, lists, seen}
use Rattle.stack_rules.specs.Targets.{has_send, has_receive}
use Rattle.stack_rules.specs.Rewires.{is_in}
use Rattle.stack_rules.specs.Sound.{Sound}
use Rattle.rule_basics.specs.Live.{Each}
use Rattle.state_laws.specs.Laws.{IsThere}

-- a filter of the order that has the pair
pub record IsPasser (ms : Modules) (has : ℕ → Bool) (to : Target) : Type 0 where
  pub filter : ℕ
  pub is : to ≡ Module (Filter filter)
  pub inside : is_in filter ms.order ≡ true
  pub pair : has filter ≡ true

-- to its owner, or to such a filter
abbrev pub GoesTowards : Modules → (ℕ → Bool) → ModuleId → Target → Type 0
GoesTowards ms has owner to = (to ≡ Module owner) ⊎ IsPasser ms has to

-- a done send goes to its owner or to a filter of the order with the send pair, a returned receive to its owner or to
-- one with the receive pair
abbrev pub GoesHomeAt : Modules → LiveList → Stand → Type 0
GoesHomeAt ms l (stand.Passed (way.Done status) to) = (is_down l.direction ≡ true) × GoesTowards ms (has_send ms) l.owner to
GoesHomeAt ms l (stand.Passed (way.Back status) to) = (is_down l.direction ≡ false) × GoesTowards ms (has_receive ms) l.owner to
GoesHomeAt ms l _ = Unit {0}

abbrev pub GoesHome : Modules → LiveList → Type 0
GoesHome ms l = GoesHomeAt ms l l.stand

-- After each sound journal of a stack that has a binding.
abbrev pub EachGoesHome : Type 0
EachGoesHome = (head : StackHead) (turns : List Turn) → Sound head turns → 1 ≤ length head.bindings → Each (GoesHome (seen head turns).modules) (lists (seen head turns).things)

-- filters own both sends and receives, bindings own sends only, the miniport receives only
abbrev pub MayOwn : Bool → ModuleId → Type 0
MayOwn down (Filter f) = Unit {0}
MayOwn down (Binding b) = down ≡ true
MayOwn down Miniport = down ≡ false

-- the owner is a module of the configuration, and of those that may own the list
pub record IsOwned (net : Net) (l : LiveList) : Type 0 where
  pub there : IsThere net l.owner
  pub may : MayOwn (is_down l.direction) l.owner

-- After each sound journal of a stack that has a binding.
abbrev pub EachIsOwned : Type 0
EachIsOwned = (head : StackHead) (turns : List Turn) → Sound head turns → 1 ≤ length head.bindings → Each (IsOwned (seen head turns)) (lists (seen head turns).things)

-- the ways to a module: all ways to a filter, done sends to a binding, sends down and receives back to the miniport
abbrev pub LeadsTo : PassWay → ModuleId → Type 0
LeadsTo by (Filter f) = Unit {0}
LeadsTo (way.Done status) (Binding b) = Unit {0}
LeadsTo by (Binding b) = ⊥
LeadsTo way.Down Miniport = Unit {0}
LeadsTo (way.Back status) Miniport = Unit {0}
LeadsTo by Miniport = ⊥

-- a list on its way to a module goes to one of the configuration, by a way that leads there
abbrev pub IsBoundFor : Net → Stand → Type 0
IsBoundFor net (stand.Passed by (Module m)) = IsThere net m × LeadsTo by m
IsBoundFor net _ = Unit {0}

abbrev pub IsBound : Net → LiveList → Type 0
IsBound net l = IsBoundFor net l.stand

-- After each sound journal of a stack that has a binding.
abbrev pub EachIsBound : Type 0
EachIsBound = (head : StackHead) (turns : List Turn) → Sound head turns → 1 ≤ length head.bindings → Each (IsBound (seen head turns)) (lists (seen head turns).things)
