-- Which of the drivers that are handed in a script's only stack takes, and how they come back.
use Rattle.std.specs.Prelude.{◌≡◌, ℕ, ◌<◌, List, [], ◌∷◌, ◌++◌, length, map, slice_index_or}
use Rattle.driver_views.specs.States.{MiniportState, ProtocolState}
use Rattle.journal_types.specs.declared.Turn.{Turn}
use Rattle.script_types.specs.declared.StackSetup.{StackSetup}
use Rattle.driver_choice.specs.Parts.{PartsView}
use Rattle.driver_choice.specs.Chosen.{Takes, Lacks}
use Rattle.driver_choice.specs.Places.{StandAt}
use Rattle.book_lemmas.specs.Views.{no_protocol}
use Rattle.book_opening.specs.Opened.{HandedView, kind_of}
use Rattle.book_scripts.specs.Served.{AreServed, FiltersServed, RunsUnlessRefused}
use Rattle.script_runs.specs.Built.{head_of}

-- the drivers are too few for the only stack
pub record LacksDrivers (stacks : List StackSetup) (handed : HandedView) : Type 0 where
  pub stack : StackSetup
  pub only : stacks ≡ stack ∷ []
  pub lacks : Lacks (head_of stack) handed.drivers

-- the only stack takes a miniport and protocols, and all filters; the others are left
pub record LeavesDrivers (stacks : List StackSetup) (handed : HandedView) (others : HandedView) : Type 0 where
  pub stack : StackSetup
  pub only : stacks ≡ stack ∷ []
  pub miniport : MiniportState
  pub protocols : List ProtocolState
  pub takes : Takes (head_of stack) handed.drivers miniport protocols others.drivers
  pub no_shelf : others.shelf ≡ []

-- After a run with this journal the miniport stands before the others, and the protocols of the bindings, in the
-- order of the bindings, stand before the others, each of its kind; filters of the same kinds stand in the same order.
-- The drivers that were taken stood at the promised places, and counted and logged what the journal tells; each
-- filter's driver counted the calls of all filters for which it stood; and once it was opened the stack ran, unless
-- its adapter counted that it refused.
pub record ComesBack (stacks : List StackSetup) (turns : List Turn) (handed handed' : HandedView) : Type 0 where
  pub others : HandedView
  pub left : LeavesDrivers stacks handed others
  pub miniport : MiniportState
  pub protocols : List ProtocolState
  pub miniports_are : handed'.drivers.miniports ≡ miniport ∷ others.drivers.miniports
  pub protocols_are : handed'.drivers.protocols ≡ protocols ++ others.drivers.protocols
  pub miniport_kind : miniport.kind ≡ left.miniport.kind
  pub protocol_kinds : (i : ℕ) → i < length protocols → (slice_index_or protocols i no_protocol).kind ≡ (slice_index_or left.protocols i no_protocol).kind
  pub stood : StandAt (head_of left.stack) handed.drivers left.miniport left.protocols
  pub served : AreServed turns left.miniport left.protocols miniport protocols
  pub ran : RunsUnlessRefused (head_of left.stack) left.stack.filters turns left.miniport miniport
  pub filters : map kind_of handed'.shelf ≡ map kind_of handed.shelf
  pub filters_served : FiltersServed turns handed.shelf handed'.shelf
