use Rattle.std.proofs.Common.{sym, ap, ◌∙◌}
use Rattle.pause_work.proofs.Places.{same_shown}
use Rattle.pause_work.proofs.calls.pause_binding.Goals as goal

pub returns : goal.returns
returns g c =
    same_shown g.P.ProtocolCalls.state c.args.protocols.now c.args.place c.index-protocols-place.result c.pause_protocol.new.protocol c.index-protocols-place.is
    (c.pause_protocol.ensures ∙ ap g.P.ProtocolCalls.state (sym c.index-protocols-place.is))
