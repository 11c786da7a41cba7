-- What a head says of its bindings.
use Rattle.std.specs.Prelude.{ℕ, ◌+◌, List, [], ◌∷◌, slice_index_or}
use Rattle.ndis_base.specs.declared.ProtocolKind.{ProtocolKind}
use Rattle.ndis_base.specs.declared.ProtocolKind.TheVariants as protocol_kind
use Rattle.journal_types.specs.declared.StackHead.{StackHead}

-- the numbers of the bindings, in rising order
abbrev pub numbers_from : ℕ → List (ProtocolKind × ℕ) → List ℕ
numbers_from b [] = []
numbers_from b (setup ∷ setups) = b ∷ numbers_from (b + 1) setups

abbrev pub binding_numbers : StackHead → List ℕ
binding_numbers head = numbers_from 0 head.bindings

abbrev pub kind_of_binding : StackHead → ℕ → ProtocolKind
kind_of_binding head binding = (slice_index_or head.bindings binding (protocol_kind.Log, 0)).0
