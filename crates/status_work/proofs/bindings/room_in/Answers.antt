use Rattle.std.proofs.Common.{ap, arith}
use Rattle.driver_views.specs.declared.Served.{Served}
use Rattle.status_work.proofs.Heard.{one_more}
use Rattle.status_work.proofs.bindings.room_in.Goals as goal

pub loop-protocol-preserved : goal.loop-protocol-preserved
loop-protocol-preserved g c =
    let count = ap (λ (s : Served). s.status) c.served.ensures in
    one_more g.P.ProtocolCalls.state c.args.protocols.now c.loop-protocol.protocol-index c.protocol-item.result c.loop-protocol.invariant c.protocol-item.is c.loop-protocol-test.true
    (omega (arith, count, c.if-served-ge-FAR.false))
