use Rattle.std.proofs.Common.{◌<◌, arith, length, length-set}
use Rattle.setup_work.proofs.Protocols.{first_may, rest_may, opened_at, still_empty, closed_again, unseen_at, now_err}
use Rattle.setup_work.proofs.drivers.+open_from.Goals as goal

pub open_binding-requires : goal.open_binding-requires
open_binding-requires g t c =
    let within : c.args.from < length c.args.protocols.now.items = omega (arith, c.requires.within, c.if-at-len.false, c.len.ensures, c.args.protocols.now.ok.0) in
    first_may g.P.ProtocolCalls.state c.args.protocols.now.items c.args.from c.index_mut.result.now within c.index_mut.ensures.value c.requires.may

pub returns-in_err-open_binding-clause-memory : goal.returns-in_err-open_binding-clause-memory
returns-in_err-open_binding-clause-memory g t c = now_err _ _ (unseen_at g.P.ProtocolCalls.state c.args.protocols.now.items c.args.from c.index_mut.result.now _ c.index_mut.ensures.value c.in_err-open_binding.ensures.memory)

pub open_from-requires : goal.open_from-requires
open_from-requires g t c κs lent =
    let within : c.args.from < length c.args.protocols.now.items = omega (arith, c.requires.within, c.if-at-len.false, c.len.ensures, c.args.protocols.now.ok.0) in
    (rw length-set (omega (arith, within)), (lent, (rw length-set c.requires.few, (rw length-set (omega (arith, within)), rest_may g.P.ProtocolCalls.state c.args.protocols.now.items c.args.from c.index_mut.result.now c.open_binding.new.protocol within c.index_mut.ensures.value c.requires.may))))

pub returns-in-Ok-clause-opened : goal.returns-in-Ok-clause-opened
returns-in-Ok-clause-opened g t c =
    let within : c.args.from < length c.args.protocols.now.items = omega (arith, c.requires.within, c.if-at-len.false, c.len.ensures, c.args.protocols.now.ok.0) in
    opened_at g.P.ProtocolCalls.state c.args.protocols.now.items _ c.args.from c.index_mut.result.now c.open_binding.new.protocol within c.index_mut.ensures.value c.in_ok-open_binding.ensures.opened c.in-Ok.ensures.opened

pub close_protocol-requires : goal.close_protocol-requires
close_protocol-requires g t c =
    let within : c.args.from < length c.args.protocols.now.items = omega (arith, c.requires.within, c.if-at-len.false, c.len.ensures, c.args.protocols.now.ok.0) in
    still_empty g.P.ProtocolCalls.state c.args.protocols.now.items _ c.args.from c.index_mut.result.now c.open_binding.new.protocol _ within c.index_mut-in-Err.ensures.value
    (first_may g.P.ProtocolCalls.state c.args.protocols.now.items c.args.from c.index_mut.result.now within c.index_mut.ensures.value c.requires.may) c.in_ok-open_binding.ensures.opened c.in-Err.ensures.memory

pub returns-in-Err-clause-memory : goal.returns-in-Err-clause-memory
returns-in-Err-clause-memory g t c =
    let within : c.args.from < length c.args.protocols.now.items = omega (arith, c.requires.within, c.if-at-len.false, c.len.ensures, c.args.protocols.now.ok.0) in
    closed_again g.P.ProtocolCalls.state c.args.protocols.now.items _ c.args.from c.index_mut.result.now c.open_binding.new.protocol _ _ within c.index_mut.ensures.value c.index_mut-in-Err.ensures.value
    (first_may g.P.ProtocolCalls.state c.args.protocols.now.items c.args.from c.index_mut.result.now within c.index_mut.ensures.value c.requires.may) c.in_ok-open_binding.ensures.opened c.in-Err.ensures.memory c.close_protocol.ensures
