-- At which places the drivers that a head takes were handed in.
use Rattle.std.specs.Prelude.{◌≡◌, ℕ, List, [], ◌∷◌, Option, Some, map, slice_get}
use Rattle.journal_types.specs.declared.StackHead.{StackHead}
use Rattle.driver_views.specs.States.{MiniportState, ProtocolState}
use Rattle.promise_rules.specs.Drivers.{miniport_place, protocol_places}
use Rattle.driver_choice.specs.Parts.{PartsView}

-- what stands at a place that is there
pub record StandsAtPlace {X : Type 0} (place : Option ℕ) (xs : List X) (x : X) : Type 0 where
  pub at : ℕ
  pub is : place ≡ Some at
  pub here : slice_get xs at ≡ Some x

abbrev pub AreAt : List (Option ℕ) → List ProtocolState → List ProtocolState → Type 0
AreAt [] protocols [] = Unit {0}
AreAt (place ∷ places) protocols (s ∷ ss) = StandsAtPlace place protocols s × AreAt places protocols ss
AreAt _ protocols _ = ⊥

-- the drivers stand, among those that are handed in, at the places that a head is promised
pub record StandAt (head : StackHead) (parts : PartsView) (miniport : MiniportState) (protocols : List ProtocolState) : Type 0 where
  pub miniport_at : StandsAtPlace (miniport_place head.kind (map (λ s. s.kind) parts.miniports)) parts.miniports miniport
  pub protocols_at : AreAt (protocol_places [] head.bindings (map (λ s. s.kind) parts.protocols)) parts.protocols protocols
