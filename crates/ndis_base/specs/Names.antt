-- The name of each value, as journals and scripts write it.
use Rattle.std.specs.Prelude.{ℕ, List, codes}
use Rattle.ndis_base.specs.declared.ModuleState.{ModuleState}
use Rattle.ndis_base.specs.declared.ModuleState.TheVariants as state
use Rattle.ndis_base.specs.declared.Phase.{Phase}
use Rattle.ndis_base.specs.declared.Phase.TheVariants as phase
use Rattle.ndis_base.specs.declared.ListStatus.{ListStatus}
use Rattle.ndis_base.specs.declared.ListStatus.TheVariants as list_status
use Rattle.ndis_base.specs.declared.OidStatus.{OidStatus}
use Rattle.ndis_base.specs.declared.OidStatus.TheVariants as oid_status
use Rattle.ndis_base.specs.declared.OidKind.{OidKind}
use Rattle.ndis_base.specs.declared.OidKind.TheVariants as oid_kind
use Rattle.ndis_base.specs.declared.StatusName.{StatusName}
use Rattle.ndis_base.specs.declared.StatusName.TheVariants as status_name
use Rattle.ndis_base.specs.declared.MiniportKind.{MiniportKind}
use Rattle.ndis_base.specs.declared.MiniportKind.TheVariants as miniport_kind
use Rattle.ndis_base.specs.declared.ProtocolKind.{ProtocolKind}
use Rattle.ndis_base.specs.declared.ProtocolKind.TheVariants as protocol_kind
use Rattle.ndis_base.specs.declared.FilterKind.{FilterKind}
use Rattle.ndis_base.specs.declared.FilterKind.TheVariants as filter_kind
use Rattle.ndis_base.specs.declared.Direction.{Direction}
use Rattle.ndis_base.specs.declared.Direction.TheVariants as direction

abbrev pub state_text : ModuleState → List ℕ
state_text state.Halted = codes "Halted"
state_text state.Detached = codes "Detached"
state_text state.Attaching = codes "Attaching"
state_text state.Unbound = codes "Unbound"
state_text state.Opening = codes "Opening"
state_text state.Closing = codes "Closing"
state_text state.Paused = codes "Paused"
state_text state.Restarting = codes "Restarting"
state_text state.Running = codes "Running"
state_text state.Pausing = codes "Pausing"

abbrev pub phase_text : Phase → List ℕ
phase_text phase.Halted = codes "Halted"
phase_text phase.Paused = codes "Paused"
phase_text phase.Restarting = codes "Restarting"
phase_text phase.Running = codes "Running"
phase_text phase.Pausing = codes "Pausing"

abbrev pub list_status_text : ListStatus → List ℕ
list_status_text list_status.Success = codes "Success"
list_status_text list_status.Paused = codes "Paused"
list_status_text list_status.Aborted = codes "Aborted"
list_status_text list_status.Dropped = codes "Dropped"
list_status_text list_status.Resources = codes "Resources"

abbrev pub oid_status_text : OidStatus → List ℕ
oid_status_text oid_status.Success = codes "Success"
oid_status_text oid_status.NotSupported = codes "NotSupported"
oid_status_text oid_status.BadLength = codes "BadLength"

abbrev pub oid_kind_text : OidKind → List ℕ
oid_kind_text oid_kind.Query = codes "query"
oid_kind_text oid_kind.Set = codes "set"

abbrev pub status_name_text : StatusName → List ℕ
status_name_text status_name.LinkUp = codes "LinkUp"
status_name_text status_name.LinkDown = codes "LinkDown"
status_name_text status_name.Notice = codes "Notice"

abbrev pub miniport_kind_text : MiniportKind → List ℕ
miniport_kind_text miniport_kind.Ring = codes "ring"
miniport_kind_text miniport_kind.Loop = codes "loop"
miniport_kind_text miniport_kind.Virtual = codes "virtual"

abbrev pub protocol_kind_text : ProtocolKind → List ℕ
protocol_kind_text protocol_kind.Log = codes "log"
protocol_kind_text protocol_kind.Retain = codes "retain"
protocol_kind_text protocol_kind.Echo = codes "echo"
protocol_kind_text protocol_kind.Mux = codes "mux"

abbrev pub filter_kind_text : FilterKind → List ℕ
filter_kind_text filter_kind.Pass = codes "pass"
filter_kind_text filter_kind.Rule = codes "rule"
filter_kind_text filter_kind.Hold = codes "hold"
filter_kind_text filter_kind.Tag = codes "tag"
filter_kind_text filter_kind.Count = codes "count"
filter_kind_text filter_kind.Classify = codes "classify"

abbrev pub direction_text : Direction → List ℕ
direction_text direction.Down = codes "down"
direction_text direction.Up = codes "up"
direction_text direction.Lent = codes "lent"
