-- Where the live lists are while some positions from the top are Paused: none of them is owned by a module
-- there, and none stands there. Only a receive may still be on its way up to a module there, which then turns
-- it back.
use Rattle.std.specs.Prelude.{ℕ, ◌≡◌, ◌<◌, ◌≤◌, true, false, List}
use Rattle.ndis_base.specs.declared.ModuleId.TheVariants.{Filter}
use Rattle.journal_types.specs.declared.PassWay.TheVariants as way
use Rattle.stack_rules.specs.declared.Stand.{Stand}
use Rattle.stack_rules.specs.declared.Stand.TheVariants as stand
use Rattle.stack_rules.specs.declared.LiveList.{LiveList}
use Rattle.stack_rules.specs.Tests.{is_down}
use Rattle.stack_rules.specs.Net.{Net, Modules, lists}
use Rattle.stack_rules.specs.Places.{position, position_of_target}
use Rattle.stack_rules.specs.Targets.{has_receive}
use Rattle.stack_rules.specs.Rewires.{is_in}
use Rattle.rule_basics.specs.Live.{IsApart, IsBelow, Each}
use Rattle.state_laws.specs.Shape.{IsShaped}

-- no filter with the receive pair stands between two positions
abbrev pub IsNearest : Modules → ℕ → ℕ → Type 0
IsNearest ms from to = (f : ℕ) → has_receive ms f ≡ true → is_in f ms.order ≡ true → position ms.order (Filter f) < from → position ms.order (Filter f) ≤ to

-- a list stands at a position from the front on; a send goes to its owner's position or below it; a receive
-- comes from the front's position or below it, and goes to the next filter that receives
abbrev pub StandsFrom : Modules → ℕ → LiveList → Stand → Type 0
StandsFrom ms front l stand.Unplaced = Unit {0}
StandsFrom ms front l (stand.Kept m) = (l.last ≡ m) × (front ≤ position ms.order m)
StandsFrom ms front l (stand.Passed way.Down to) = (is_down l.direction ≡ true) × (position ms.order l.owner ≤ position_of_target ms.order to)
StandsFrom ms front l (stand.Passed (way.Done status) to) = (is_down l.direction ≡ true) × (position ms.order l.owner ≤ position_of_target ms.order to)
StandsFrom ms front l (stand.Passed way.Up to) =
    (is_down l.direction ≡ false) × ((front ≤ position ms.order l.last) × IsNearest ms (position ms.order l.last) (position_of_target ms.order to))
StandsFrom ms front l (stand.Passed (way.Back status) to) = (is_down l.direction ≡ false) × (front ≤ position_of_target ms.order to)

-- the list's owner is at the front or below it, a send was last at its owner or below it, and the list stands
-- where it may
pub record IsClear (ms : Modules) (front : ℕ) (l : LiveList) : Type 0 where
  pub owner : front ≤ position ms.order l.owner
  pub down : is_down l.direction ≡ true → position ms.order l.owner ≤ position ms.order l.last
  pub stands : StandsFrom ms front l l.stand

-- the live lists have different numbers below the next one, and each is clear of the positions above the front
pub record AreClear (ms : Modules) (front : ℕ) (ls : List LiveList) (next : ℕ) : Type 0 where
  pub apart : IsApart ls
  pub below : IsBelow next ls
  pub each : Each (IsClear ms front) ls

-- the state's shape, and its lists clear of what is Paused
pub record IsHeld (net : Net) : Type 0 where
  pub shape : IsShaped net
  pub clear : AreClear net.modules shape.front (lists net.things) net.next.list
