-- Which of the drivers that are handed in a stack takes, and which are left.
use Rattle.std.specs.Prelude.{◌≡◌, ℕ, ◌<◌, Bool, List, [], ◌∷◌, ◌++◌, Option, Some, None, option_and_then, count_by, if◌then◌else◌}
use Rattle.ndis_base.specs.declared.MiniportKind.{MiniportKind}
use Rattle.ndis_base.specs.declared.ProtocolKind.{ProtocolKind}
use Rattle.journal_types.specs.declared.StackHead.{StackHead}
use Rattle.driver_views.specs.States.{MiniportState, ProtocolState}
use Rattle.promise_rules.specs.Drivers.{same_miniport_kind, same_protocol_kind}
use Rattle.driver_choice.specs.Parts.{PartsView}

-- whether a driver is of a kind
abbrev pub is_miniport : MiniportKind → MiniportState → Bool
is_miniport kind s = same_miniport_kind s.kind kind

abbrev pub is_protocol : ProtocolKind → ProtocolState → Bool
is_protocol kind s = same_protocol_kind s.kind kind

-- whether a binding is for a protocol of a kind
abbrev pub is_for : ProtocolKind → (ProtocolKind × ℕ) → Bool
is_for kind setup = same_protocol_kind setup.0 kind

-- the first of a list that passes a test, and the others in their order
abbrev pub behind : {X : Type 0} → X → Option (X × List X) → Option (X × List X)
behind x None = None
behind x (Some first) = Some (first.0, x ∷ first.1)

abbrev pub first_of : {X : Type 0} → (X → Bool) → List X → Option (X × List X)
first_of p [] = None
first_of p (x ∷ xs) = if p x then Some (x, xs) else behind x (first_of p xs)

-- the protocols of the bindings in order, for each the first of its kind that no earlier one has; and those
-- that are left, in their order
abbrev pub with_first : ProtocolState → Option (List ProtocolState × List ProtocolState) → Option (List ProtocolState × List ProtocolState)
with_first s None = None
with_first s (Some later) = Some (s ∷ later.0, later.1)

abbrev pub protocols_for : List (ProtocolKind × ℕ) → List ProtocolState → Option (List ProtocolState × List ProtocolState)
protocols_for [] protocols = Some ([], protocols)
protocols_for (b ∷ bs) protocols = option_and_then (λ first. with_first first.0 (protocols_for bs first.1)) (first_of (is_protocol b.0) protocols)

-- a head takes the first miniport of its kind, and the protocols of its bindings, as they were handed in; the
-- others are left
pub record Takes (head : StackHead) (parts : PartsView) (miniport : MiniportState) (protocols : List ProtocolState) (others : PartsView) : Type 0 where
  pub first : first_of (is_miniport head.kind) parts.miniports ≡ Some (miniport, others.miniports)
  pub each : protocols_for head.bindings parts.protocols ≡ Some (protocols, others.protocols)

-- the bindings name more protocols of a kind than there are
pub record LacksProtocols (bindings : List (ProtocolKind × ℕ)) (protocols : List ProtocolState) : Type 0 where
  pub kind : ProtocolKind
  pub few : count_by (is_protocol kind) protocols < count_by (is_for kind) bindings

-- no miniport is of the head's kind, or its bindings name more protocols of a kind than there are
pub data Lacks (head : StackHead) (parts : PartsView) : Type 0 where
  no_miniport : count_by (is_miniport head.kind) parts.miniports ≡ 0 → Lacks head parts
  few_protocols : LacksProtocols head.bindings parts.protocols → Lacks head parts

-- the protocols of these bindings were added to those that were chosen before, and these are left
pub record Chooses (bindings : List (ProtocolKind × ℕ)) (protocols chosen chosen' left : List ProtocolState) : Type 0 where
  pub more : List ProtocolState
  pub are : protocols_for bindings protocols ≡ Some (more, left)
  pub added : chosen' ≡ chosen ++ more
