-- Where the lists, statuses and requests of a stack stand between its turns, as far as the work depends on it.
use Rattle.std.specs.Prelude.{◌≡◌, ℕ, ◌==◌, ◌<◌, ◌≤◌, ◌⊎◌, true, false, List, [], ◌∷◌, length}
use Rattle.ndis_base.specs.declared.ListNo.{ListNo}
use Rattle.ndis_base.specs.declared.ModuleId.{ModuleId}
use Rattle.ndis_base.specs.declared.ModuleId.TheVariants.{Miniport, Filter, Binding}
use Rattle.ndis_base.specs.declared.Origin.TheVariants as origin
use Rattle.journal_types.specs.declared.PassWay.TheVariants as way
use Rattle.journal_types.specs.declared.Target.TheVariants.{Module, Bindings}
use Rattle.stack_rules.specs.declared.Attached.{Attached}
use Rattle.stack_rules.specs.declared.LiveList.{LiveList}
use Rattle.stack_rules.specs.declared.Stand.{Stand}
use Rattle.stack_rules.specs.declared.Stand.TheVariants as stand
use Rattle.stack_rules.specs.Tests.{is_down, is_binding, is_virtual}
use Rattle.stack_rules.specs.Net.{Net, Modules, attached, lists, list_of}
use Rattle.stack_rules.specs.Places.{position, is_crossed}
use Rattle.stack_rules.specs.Rewires.{is_in}
use Rattle.std.specs.Prelude.{Some}
use Rattle.ndis_base.specs.declared.OidNo.{OidNo}
use Rattle.journal_types.specs.declared.Target.{Target}
use Rattle.stack_rules.specs.declared.Answered.{Answered}
use Rattle.stack_rules.specs.declared.StatusAway.{StatusAway}
use Rattle.stack_rules.specs.declared.Request.{Request}
use Rattle.stack_rules.specs.declared.RequestAt.{RequestAt}
use Rattle.stack_rules.specs.declared.RequestAt.TheVariants as at
use Rattle.stack_rules.specs.declared.Thing.{Thing}
use Rattle.stack_rules.specs.declared.Thing.TheVariants as thing
use Rattle.stack_rules.specs.Net.{request_of}
use Rattle.rule_basics.specs.Live.{Each, EachRequest, EachApart}
use Rattle.rule_basics.specs.Numbers.{IsNumbered}
use Rattle.state_laws.specs.Shape.{IsDistinct}

-- a done send stops at its owner or below it, a returned receive at its owner or above it
abbrev pub StopsBelow : Modules → ModuleId → ModuleId → Type 0
StopsBelow ms owner m = (m ≡ owner) ⊎ (position ms.order owner < position ms.order m)

abbrev pub StopsAbove : Modules → ModuleId → ModuleId → Type 0
StopsAbove ms owner m = (m ≡ owner) ⊎ (position ms.order m < position ms.order owner)

-- a list is kept by a module that may have it; a send goes down to a filter of the order or to the miniport, a
-- receive up to such a filter or to the bindings
abbrev pub StandsPlaced : Modules → LiveList → Stand → Type 0
StandsPlaced ms l stand.Unplaced = Unit {0}
StandsPlaced ms l (stand.Kept Miniport) = is_down l.direction ≡ true
StandsPlaced ms l (stand.Kept (Filter f)) = is_in f ms.order ≡ true
StandsPlaced ms l (stand.Kept (Binding b)) = is_down l.direction ≡ false
StandsPlaced ms l (stand.Passed way.Down (Module Miniport)) = is_down l.direction ≡ true
StandsPlaced ms l (stand.Passed way.Down (Module (Filter f))) = (is_down l.direction ≡ true) × (is_in f ms.order ≡ true)
StandsPlaced ms l (stand.Passed way.Down _) = ⊥
StandsPlaced ms l (stand.Passed way.Up Bindings) = is_down l.direction ≡ false
StandsPlaced ms l (stand.Passed way.Up (Module (Filter f))) = (is_down l.direction ≡ false) × (is_in f ms.order ≡ true)
StandsPlaced ms l (stand.Passed way.Up _) = ⊥
StandsPlaced ms l (stand.Passed (way.Done status) (Module m)) = (is_down l.direction ≡ true) × StopsBelow ms l.owner m
StandsPlaced ms l (stand.Passed (way.Done status) Bindings) = ⊥
StandsPlaced ms l (stand.Passed (way.Back status) (Module m)) = (is_down l.direction ≡ false) × StopsAbove ms l.owner m
StandsPlaced ms l (stand.Passed (way.Back status) Bindings) = ⊥

-- the owner of a send is above the miniport, that of a receive below the bindings; a list that crossed is a
-- send in a virtual miniport's ring
pub record IsPlaced (net : Net) (l : LiveList) : Type 0 where
  pub down : is_down l.direction ≡ true → position net.modules.order l.owner < position net.modules.order Miniport
  pub up : is_down l.direction ≡ false → 1 ≤ position net.modules.order l.owner
  pub stands : StandsPlaced net.modules l l.stand
  pub crossed : is_crossed l.crossed ≡ true → (l.stand ≡ stand.Kept Miniport) × (is_virtual net.head.kind ≡ true)

-- the list that a clone was made of is kept by the filter that owns the clone; its own owner is further up for a
-- send, further down for a receive
pub record IsOriginal (ms : Modules) (clone l : LiveList) : Type 0 where
  pub kept : l.stand ≡ stand.Kept clone.owner
  pub filter : (f : ℕ) × (clone.owner ≡ Filter f)
  pub same : is_down l.direction ≡ is_down clone.direction
  pub down : is_down clone.direction ≡ true → position ms.order l.owner < position ms.order clone.owner
  pub up : is_down clone.direction ≡ false → position ms.order clone.owner < position ms.order l.owner

abbrev pub HasOriginal : Net → LiveList → Type 0
HasOriginal net clone = (o : ListNo) (l : LiveList) → clone.origin ≡ origin.Clone o → list_of o.0 (lists net.things) ≡ Some l → IsOriginal net.modules clone l

-- each filter of the order is attached, and none is twice in it
pub record IsOrdered (ms : Modules) : Type 0 where
  pub distinct : IsDistinct ms.order
  pub attached : (f : ℕ) → is_in f ms.order ≡ true → (a : Attached) × (attached f ms.filters ≡ Some a) × (a.filter ≡ f)

-- a status goes to a filter or to the bindings
abbrev pub GoesUp : Target → Type 0
GoesUp Bindings = Unit {0}
GoesUp (Module m) = is_binding m ≡ false

-- the position that a request waits at or is given to
abbrev pub place_position : Net → RequestAt → ℕ
place_position net at.Entry = 0
place_position net (at.Waiting m) = position net.modules.order m
place_position net (at.Given m) = position net.modules.order m

-- the request is given to a filter of the order
pub record IsGiven (net : Net) (n : ℕ) : Type 0 where
  pub filter : ℕ
  pub request : Request
  pub found : request_of n net.requests ≡ Some request
  pub at : request.at ≡ at.Given (Filter filter)
  pub there : is_in filter net.modules.order ≡ true

-- a clone waits below the filter that its parent was given to
pub record IsBelow (net : Net) (r : Request) (n : ℕ) : Type 0 where
  pub parent : IsGiven net n
  pub below : position net.modules.order (Filter parent.filter) < place_position net r.at

abbrev pub IsAsked : Net → Request → Type 0
IsAsked net r = (g : OidNo) → r.parent ≡ Some g → IsBelow net r g.0

-- a fact of each answer
abbrev pub EachAnswer : (Answered → Type 0) → List Thing → Type 0
EachAnswer P [] = Unit {0}
EachAnswer P (thing.Answer a ∷ ts) = P a × EachAnswer P ts
EachAnswer P (thing.List l ∷ ts) = EachAnswer P ts
EachAnswer P (thing.Status s ∷ ts) = EachAnswer P ts

-- a fact of each status
abbrev pub EachStatus : (StatusAway → Type 0) → List Thing → Type 0
EachStatus P [] = Unit {0}
EachStatus P (thing.Status s ∷ ts) = P s × EachStatus P ts
EachStatus P (thing.List l ∷ ts) = EachStatus P ts
EachStatus P (thing.Answer a ∷ ts) = EachStatus P ts

-- Everything stands where it may: the stack has a binding, its filters are attached; each list is placed and, if
-- it is a clone, has its original; each status goes up; each clone of a request waits below its parent, and each
-- answer goes to a filter that has the parent.
pub record IsInPlace (net : Net) : Type 0 where
  pub bound : 1 ≤ length net.modules.bindings
  pub ordered : IsOrdered net.modules
  pub numbered : IsNumbered net
  pub placed : Each (IsPlaced net) (lists net.things)
  pub originals : Each (HasOriginal net) (lists net.things)
  pub statuses : EachStatus (λ s. GoesUp s.to) net.things
  pub answers : EachAnswer (λ a. IsGiven net a.parent.0) net.things
  pub apart : EachApart net.requests
  pub asked : EachRequest (IsAsked net) net.requests
