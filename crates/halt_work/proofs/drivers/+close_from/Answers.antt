use Rattle.std.proofs.Common.{◌<◌, ◌≤◌, arith, length, length-set}
use Rattle.halt_work.proofs.Protocols.{first_keeps, rest_keeps, closed_at, all_closed}
use Rattle.halt_work.proofs.drivers.+close_from.Goals as goal

pub returns-then-from-len : goal.returns-then-from-len
returns-then-from-len g t c =
    let past : length c.args.protocols.now.items ≤ c.args.from = omega (arith, c.if-from-len.true, c.len.ensures, c.args.protocols.now.ok.0) in
    all_closed g.P.ProtocolCalls.state c.args.protocols.now.items c.args.from past

pub close_protocol-requires : goal.close_protocol-requires
close_protocol-requires g t c =
    let within : c.args.from < length c.args.protocols.now.items = omega (arith, c.if-from-len.false, c.len.ensures, c.args.protocols.now.ok.0) in
    first_keeps g.P.ProtocolCalls.state c.args.protocols.now.items c.args.from c.index_mut.result.now within c.index_mut.ensures.value c.requires.kept

pub close_from-requires : goal.close_from-requires
close_from-requires g t c κs lent =
    let within : c.args.from < length c.args.protocols.now.items = omega (arith, c.if-from-len.false, c.len.ensures, c.args.protocols.now.ok.0) in
    (rw length-set (omega (arith, within)), (lent, (rw length-set (omega (arith, within)), rest_keeps g.P.ProtocolCalls.state c.args.protocols.now.items c.args.from c.index_mut.result.now c.close_protocol.new.protocol within c.requires.kept)))

pub returns : goal.returns
returns g t c =
    let within : c.args.from < length c.args.protocols.now.items = omega (arith, c.if-from-len.false, c.len.ensures, c.args.protocols.now.ok.0) in
    closed_at g.P.ProtocolCalls.state c.args.protocols.now.items _ c.args.from c.index_mut.result.now c.close_protocol.new.protocol within c.index_mut.ensures.value c.close_protocol.ensures c.close_from.ensures
