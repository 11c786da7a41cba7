use Rattle.std.proofs.Common.{rules}
use Rattle.ndis_base.specs.declared.ProtocolKind.TheVariants as protocol_kind
use Rattle.driver_choice.proofs.Choice.{none_for, first_for, left_enough, chooses_at}
use Rattle.driver_choice.proofs.choosing.+take_protocols.Goals as goal

pub unreachable-requires : goal.unreachable-requires
unreachable-requires g t c =
    none_for _ _ _ _ _ _ c.in-len1-up.len_at_least c.requires.enough c.as_slice.ensures.value c.first_protocol.ensures c.in_default-first_protocol.is

pub take_protocols-requires : goal.take_protocols-requires
take_protocols-requires g t c κs within =
    let first = first_for _ c.args.setups.now (protocol_kind.Log, 0) _ _ _ _ _ _ c.as_slice.ensures.value c.first_protocol.ensures c.in-Some.is c.remove-protocol.ensures.value c.remove-protocol.ensures.by_index.2 in
    (search rules, (within, (search rules, left_enough _ c.args.setups.now (protocol_kind.Log, 0) _ _ c.remove-protocol.result c.in-len1-up.len_at_least c.requires.enough first)))

pub returns-clause-chooses : goal.returns-clause-chooses
returns-clause-chooses g t c =
    let first = first_for _ c.args.setups.now (protocol_kind.Log, 0) _ _ _ _ _ _ c.as_slice.ensures.value c.first_protocol.ensures c.in-Some.is c.remove-protocol.ensures.value c.remove-protocol.ensures.by_index.2 in
    chooses_at _ c.args.setups.now (protocol_kind.Log, 0) _ _ _ _ _ _ _ c.in-len1-up.len_at_least first c.push_reserved.ensures.items c.take_protocols.ensures.chooses
