-- Tests on the small types.
use Rattle.std.specs.Prelude.{ℕ, Bool, true, false, ◌==◌, List, Option, Some, None}
use Rattle.std.specs.Cmp.Lexicographic.{pointwise}
use Rattle.std.specs.Str.{bytes_eq}
use Rattle.ndis_base.specs.declared.ModuleId.{ModuleId}
use Rattle.ndis_base.specs.declared.ModuleId.TheVariants.{Miniport, Filter, Binding}
use Rattle.ndis_base.specs.declared.Phase.{Phase}
use Rattle.ndis_base.specs.declared.Phase.TheVariants as phase
use Rattle.ndis_base.specs.declared.ModuleState.{ModuleState}
use Rattle.ndis_base.specs.declared.ModuleState.TheVariants as state
use Rattle.ndis_base.specs.declared.Direction.{Direction}
use Rattle.ndis_base.specs.declared.Direction.TheVariants as direction
use Rattle.ndis_base.specs.declared.MiniportKind.{MiniportKind}
use Rattle.ndis_base.specs.declared.MiniportKind.TheVariants as miniport_kind
use Rattle.ndis_base.specs.declared.ProtocolKind.{ProtocolKind}
use Rattle.ndis_base.specs.declared.ProtocolKind.TheVariants as protocol_kind
use Rattle.ndis_base.specs.declared.FilterKind.{FilterKind}
use Rattle.ndis_base.specs.declared.FilterKind.TheVariants as filter_kind
use Rattle.ndis_base.specs.declared.OidKind.{OidKind}
use Rattle.ndis_base.specs.declared.OidKind.TheVariants as oid_kind
use Rattle.ndis_base.specs.declared.OidStatus.{OidStatus}
use Rattle.ndis_base.specs.declared.OidStatus.TheVariants as oid_status

abbrev pub same_module : ModuleId → ModuleId → Bool
same_module Miniport Miniport = true
same_module (Filter f) (Filter g) = f == g
same_module (Binding b) (Binding c) = b == c
same_module _ _ = false

abbrev pub is_binding : ModuleId → Bool
is_binding (Binding b) = true
is_binding _ = false

abbrev pub is_miniport : ModuleId → Bool
is_miniport Miniport = true
is_miniport _ = false

abbrev pub phase_is_halted : Phase → Bool
phase_is_halted phase.Halted = true
phase_is_halted _ = false

abbrev pub phase_is_paused : Phase → Bool
phase_is_paused phase.Paused = true
phase_is_paused _ = false

abbrev pub phase_is_restarting : Phase → Bool
phase_is_restarting phase.Restarting = true
phase_is_restarting _ = false

abbrev pub phase_is_running : Phase → Bool
phase_is_running phase.Running = true
phase_is_running _ = false

abbrev pub phase_is_pausing : Phase → Bool
phase_is_pausing phase.Pausing = true
phase_is_pausing _ = false

abbrev pub is_halted : ModuleState → Bool
is_halted state.Halted = true
is_halted _ = false

abbrev pub is_unbound : ModuleState → Bool
is_unbound state.Unbound = true
is_unbound _ = false

abbrev pub is_paused : ModuleState → Bool
is_paused state.Paused = true
is_paused _ = false

abbrev pub is_running : ModuleState → Bool
is_running state.Running = true
is_running _ = false

abbrev pub is_down : Direction → Bool
is_down direction.Down = true
is_down _ = false

abbrev pub is_ring : MiniportKind → Bool
is_ring miniport_kind.Ring = true
is_ring _ = false

abbrev pub is_loop : MiniportKind → Bool
is_loop miniport_kind.Loop = true
is_loop _ = false

abbrev pub is_virtual : MiniportKind → Bool
is_virtual miniport_kind.Virtual = true
is_virtual _ = false

abbrev pub is_retain : ProtocolKind → Bool
is_retain protocol_kind.Retain = true
is_retain _ = false

abbrev pub is_echo : ProtocolKind → Bool
is_echo protocol_kind.Echo = true
is_echo _ = false

abbrev pub is_mux : ProtocolKind → Bool
is_mux protocol_kind.Mux = true
is_mux _ = false

abbrev pub is_hold : FilterKind → Bool
is_hold filter_kind.Hold = true
is_hold _ = false

abbrev pub is_set : OidKind → Bool
is_set oid_kind.Set = true
is_set _ = false

abbrev pub is_success : OidStatus → Bool
is_success oid_status.Success = true
is_success _ = false

-- the same number, where there is one
abbrev pub same_number : Option ℕ → Option ℕ → Bool
same_number None None = true
same_number (Some a) (Some b) = a == b
same_number _ _ = false

-- the same frames
abbrev pub same_frames : List (List ℕ) → List (List ℕ) → Bool
same_frames = pointwise bytes_eq
