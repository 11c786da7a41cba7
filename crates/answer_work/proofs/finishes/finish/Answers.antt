use Rattle.std.proofs.Common.{sym, ◌∙◌}
use Rattle.book_parts.specs.Parts.{view_of}
use Rattle.answer_work.proofs.Asked.{has_parent, has_holder}
use Rattle.answer_work.proofs.finishes.finish.Goals as goal

pub unreachable-requires-in_default-request_of : goal.unreachable-requires-in_default-request_of
unreachable-requires-in_default-request_of g c =
    has_parent (view_of g.M.MiniportCalls.state g.P.ProtocolCalls.state g.F.FilterCalls.state c.args.book.now) c.in-Some.answer c.requires.book c.requires.idle
    (sym c.first_answer.ensures ∙ c.in-Some.is) (sym c.request_of.ensures ∙ c.in_default-request_of.is)

pub unreachable-requires-in_default-holder_in : goal.unreachable-requires-in_default-holder_in
unreachable-requires-in_default-holder_in g c =
    has_holder (view_of g.M.MiniportCalls.state g.P.ProtocolCalls.state g.F.FilterCalls.state c.args.book.now) c.in-Some.answer c.in-Some-request_of.asked c.requires.book c.requires.idle
    (sym c.first_answer.ensures ∙ c.in-Some.is) (sym c.request_of.ensures ∙ c.in-Some-request_of.is) (sym c.holder_in.ensures ∙ c.in_default-holder_in.is)
