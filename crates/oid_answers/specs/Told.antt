-- What a driver's answer says, and the part of the table of OIDs that tells what the adapter counts and its address.
use Rattle.std.specs.Prelude.{◌==◌, [], if◌then◌else◌}
use Rattle.std.specs.Int.{to_le_bytes, w64}
use Rattle.ndis_base.specs.declared.OidStatus.TheVariants.{NotSupported}
use Rattle.stack_rules.specs.declared.Request.{Request}
use Rattle.stack_rules.specs.Net.{Net}
use Rattle.stack_rules.specs.OidTable.{Reported, reported, query_only, transmit_ok_code, receive_ok_code, permanent_address_code, current_address_code}
use Rattle.driver_calls.specs.declared.answers.OidAnswer.{OidAnswer}

abbrev pub told : OidAnswer → Reported
told answer = reported answer.status answer.value

-- OID_GEN_XMIT_OK, OID_GEN_RCV_OK, OID_802_3_PERMANENT_ADDRESS and OID_802_3_CURRENT_ADDRESS; no other is supported
abbrev pub report_of_adapter : Net → Request → Reported
report_of_adapter net r =
    if r.code == transmit_ok_code then query_only r.kind r.value (to_le_bytes w64 net.port.sent)
    else (if r.code == receive_ok_code then query_only r.kind r.value (to_le_bytes w64 net.port.received)
    else (if r.code == permanent_address_code then query_only r.kind r.value net.head.port.address
    else (if r.code == current_address_code then query_only r.kind r.value net.head.port.address
    else reported NotSupported [])))
