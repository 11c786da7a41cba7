-- What the miniport answers to OID requests (WDK, "General Objects": OID_GEN_MAXIMUM_FRAME_SIZE,
-- OID_GEN_CURRENT_PACKET_FILTER, OID_GEN_XMIT_OK, OID_GEN_RCV_OK; "Ethernet Objects":
-- OID_802_3_PERMANENT_ADDRESS, OID_802_3_CURRENT_ADDRESS). Values have the least significant byte first.
use Rattle.std.specs.Prelude.{ℕ, ◌==◌, Bool, List, [], if◌then◌else◌, length, bit_and, slice_index}
use Rattle.std.specs.Int.{to_le_bytes, from_le_bytes, w32, w64}
use Rattle.ndis_base.specs.declared.OidStatus.{OidStatus}
use Rattle.ndis_base.specs.declared.OidStatus.TheVariants.{Success, NotSupported, BadLength}
use Rattle.ndis_base.specs.declared.OidKind.{OidKind}
use Rattle.ndis_base.specs.declared.OidKind.TheVariants as oid_kind
use Rattle.stack_rules.specs.declared.Request.{Request}
use Rattle.stack_rules.specs.Port.{packet_filter_code}
use Rattle.stack_rules.specs.Net.{Net}

pub record Reported : Type 0 where
  pub status : OidStatus
  pub value : List ℕ

abbrev pub reported : OidStatus → List ℕ → Reported
reported status value = record { status = status; value = value }

-- a query's value, where the query came with none
abbrev pub queried : List ℕ → List ℕ → Reported
queried asked value = if length asked == 0 then reported Success value else reported BadLength []

abbrev pub query_only : OidKind → List ℕ → List ℕ → Reported
query_only oid_kind.Query asked value = queried asked value
query_only oid_kind.Set asked value = reported NotSupported []

-- the bits that may be set: directed, multicast, broadcast and all (0x1, 0x4, 0x8, 0x20)
abbrev pub settable_bits : ℕ
settable_bits = 45

abbrev pub may_set : ℕ → Bool
may_set value = bit_and value settable_bits == value

abbrev pub packet_filter_set : List ℕ → Reported
packet_filter_set asked =
    if length asked == 4
    then (if may_set (from_le_bytes w32 asked) then reported Success [] else reported NotSupported [])
    else reported BadLength []

abbrev pub packet_filter : OidKind → List ℕ → ℕ → Reported
packet_filter oid_kind.Query asked value = queried asked (to_le_bytes w32 value)
packet_filter oid_kind.Set asked value = packet_filter_set asked

-- OID_GEN_MAXIMUM_FRAME_SIZE, 0x00010106, and the bytes that it tells: a frame without its header
abbrev pub maximum_frame_size_code : ℕ
maximum_frame_size_code = 65798

abbrev pub maximum_frame_size : ℕ
maximum_frame_size = 1500

-- OID_GEN_XMIT_OK, 0x00020101, and OID_GEN_RCV_OK, 0x00020102
abbrev pub transmit_ok_code : ℕ
transmit_ok_code = 131329

abbrev pub receive_ok_code : ℕ
receive_ok_code = 131330

-- OID_802_3_PERMANENT_ADDRESS, 0x01010101, and OID_802_3_CURRENT_ADDRESS, 0x01010102
abbrev pub permanent_address_code : ℕ
permanent_address_code = 16843009

abbrev pub current_address_code : ℕ
current_address_code = 16843010

-- the miniport's answer
abbrev pub report_of : Net → Request → Reported
report_of net r =
    if r.code == maximum_frame_size_code then query_only r.kind r.value (to_le_bytes w32 maximum_frame_size)
    else (if r.code == packet_filter_code then packet_filter r.kind r.value (slice_index net.port.answers_by r.binding)
    else (if r.code == transmit_ok_code then query_only r.kind r.value (to_le_bytes w64 net.port.sent)
    else (if r.code == receive_ok_code then query_only r.kind r.value (to_le_bytes w64 net.port.received)
    else (if r.code == permanent_address_code then query_only r.kind r.value net.head.port.address
    else (if r.code == current_address_code then query_only r.kind r.value net.head.port.address
    else reported NotSupported [])))))
