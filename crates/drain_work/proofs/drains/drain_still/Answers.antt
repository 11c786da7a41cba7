use Rattle.std.proofs.Common.{sym, ◌∙◌}
use Rattle.book_parts.specs.Parts.{view_of}
use Rattle.drain_work.proofs.Drained.{halted_drained}
use Rattle.drain_work.proofs.drains.drain_still.Goals as goal

pub returns-in_ok-rest-in-Halted-clause-did : goal.returns-in_ok-rest-in-Halted-clause-did
returns-in_ok-rest-in-Halted-clause-did g c =
    halted_drained (view_of g.M.MiniportCalls.state g.P.ProtocolCalls.state g.F.FilterCalls.state c.args.book.now) (view_of g.M.MiniportCalls.state g.P.ProtocolCalls.state g.F.FilterCalls.state c.rest.new.book) c.requires.book c.requires.idle c.requires.quiet c.requires.requests (sym c.phase.ensures ∙ c.in-Halted.is) c.rest.ensures.same
