-- Which events leave the filters' drivers at their places, and where they are while the stack is Halted.
use Rattle.std.specs.Prelude.{◌≡◌, ℕ, ◌<◌, Bool, true, false, List, Some, length}
use Rattle.ndis_base.specs.declared.FilterKind.{FilterKind}
use Rattle.ndis_base.specs.declared.Phase.TheVariants as phase
use Rattle.journal_types.specs.declared.Event.{Event}
use Rattle.journal_types.specs.declared.Event.TheVariants as event
use Rattle.journal_types.specs.declared.Reply.{Reply}
use Rattle.journal_types.specs.declared.Row.{Row}
use Rattle.journal_types.specs.declared.StackHead.{StackHead}
use Rattle.journal_types.specs.declared.Turn.{Turn}
use Rattle.stack_rules.specs.declared.Attached.{Attached}
use Rattle.stack_rules.specs.declared.Choice.{Choice}
use Rattle.stack_rules.specs.Net.{Net, attached, told, after_rows, seen}
use Rattle.stack_rules.specs.Rewires.{is_in}
use Rattle.stack_rules.specs.Sound.{Sound, outcome}
use Rattle.promise_rules.specs.Drivers.{Shelf, shelf_told, shelf_in_rows, shelf_of}

-- filters come or go
abbrev pub is_rewire : Event → Bool
is_rewire (event.Insert kind position setup) = true
is_rewire (event.Remove filter) = true
is_rewire (event.Replace filter kind setup) = true
is_rewire event.Halt = true
is_rewire _ = false

-- the rows leave the shelf, and the drivers of the filters
abbrev pub LeavesShelf : List Row → Type 0
LeavesShelf rows = (shelf : Shelf) → shelf_in_rows rows shelf ≡ shelf

-- a filter of this number is attached
pub record IsAttached (net : Net) (f : ℕ) : Type 0 where
  pub entry : Attached
  pub there : attached f net.modules.filters ≡ Some entry

-- Every event but those leaves the shelf.
abbrev pub EachLeavesShelf : Type 0
EachLeavesShelf =
    (net : Net) (e : Event) (c : Choice) (answer : Reply) (kinds : List FilterKind) (shelf : Shelf) → is_rewire e ≡ false →
    shelf_in_rows (outcome net e c).rows (shelf_told kinds e answer shelf) ≡ shelf

-- After every event but those the filters that are attached were attached.
abbrev pub EachWasAttached : Type 0
EachWasAttached =
    (net : Net) (e : Event) (answer : Reply) (rows : List Row) (f : ℕ) → is_rewire e ≡ false →
    IsAttached (after_rows (told net e answer) rows) f → IsAttached net f

-- While the stack is Halted each filter's driver stands on the shelf.
abbrev pub EachIsOnShelf : Type 0
EachIsOnShelf =
    (head : StackHead) (turns : List Turn) (kinds : List FilterKind) → Sound head turns → (seen head turns).phase ≡ phase.Halted →
    (place : ℕ) → place < length kinds → is_in place (shelf_of kinds turns).places ≡ true
