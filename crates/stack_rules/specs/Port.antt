-- What the miniport answers requests by, and by which packet filters lists are delivered (WDK,
-- "OID_GEN_CURRENT_PACKET_FILTER", "OID_GEN_XMIT_OK", "OID_GEN_RCV_OK").
use Rattle.std.specs.Prelude.{ℕ, ◌+◌, ◌==◌, ◌&&◌, Bool, true, false, List, Option, Some, None, if◌then◌else◌, slice_set, replicate, length}
use Rattle.std.specs.Int.{from_le_bytes, w32}
use Rattle.ndis_base.specs.declared.OidNo.{OidNo}
use Rattle.ndis_base.specs.declared.OidStatus.{OidStatus}
use Rattle.journal_types.specs.declared.StackHead.{StackHead}
use Rattle.journal_types.specs.declared.OutWay.{OutWay}
use Rattle.journal_types.specs.declared.OutWay.TheVariants as out
use Rattle.stack_rules.specs.declared.RequestAt.{RequestAt}
use Rattle.stack_rules.specs.declared.RequestAt.TheVariants as at
use Rattle.stack_rules.specs.declared.Request.{Request}
use Rattle.stack_rules.specs.Tests.{is_miniport, is_set, is_success}

-- what the miniport answers requests by: the frames that it sent and that it indicated, and the packet
-- filter of each binding that it set last; and beside it the packet filter of each binding by which lists
-- are delivered to it
pub record Port : Type 0 where
  pub sent : ℕ
  pub received : ℕ
  pub answers_by : List ℕ
  pub delivers_by : List ℕ

-- a binding's packet filter before it is set: all frames (bit 0x20)
abbrev pub initial_packet_filter : ℕ
initial_packet_filter = 32

abbrev pub initial_packet_filters : StackHead → List ℕ
initial_packet_filters head = replicate (length head.bindings) initial_packet_filter

abbrev pub first_port : StackHead → Port
first_port head = record { sent = 0; received = 0; answers_by = initial_packet_filters head; delivers_by = initial_packet_filters head }

-- OID_GEN_CURRENT_PACKET_FILTER, 0x0001010E
abbrev pub packet_filter_code : ℕ
packet_filter_code = 65806

-- the request sets its binding's packet filter, and was answered so
abbrev pub sets_packet_filter : Request → OidStatus → Bool
sets_packet_filter r status = is_success status && (is_set r.kind && r.code == packet_filter_code)

abbrev pub is_given_to_miniport : RequestAt → Bool
is_given_to_miniport (at.Given m) = is_miniport m
is_given_to_miniport _ = false

-- the request is a binding's own, and no clone
abbrev pub is_root_request : Option OidNo → Bool
is_root_request None = true
is_root_request (Some p) = false

-- the packet filters after a set, where it is one
abbrev pub filters_set_when : Bool → List ℕ → ℕ → List ℕ → List ℕ
filters_set_when b filters binding value = if b then slice_set filters binding (from_le_bytes w32 value) else filters

-- what a request that is done sets: the packet filter that the miniport tells, where it was given to the
-- miniport, and the one that lists are delivered by, where it was the binding's own
abbrev pub port_after_done : Option Request → OidStatus → Port → Port
port_after_done None status port = port
port_after_done (Some r) status port = record port {
  answers_by = filters_set_when (sets_packet_filter r status && is_given_to_miniport r.at) port.answers_by r.binding r.value;
  delivers_by = filters_set_when (sets_packet_filter r status && is_root_request r.parent) port.delivers_by r.binding r.value;
}

-- the frames of a list that leaves downwards count as sent
abbrev pub port_after_out : OutWay → ℕ → Port → Port
port_after_out (out.Down list) many port = record port { sent = port.sent + many }
port_after_out out.Up many port = port
