use Rattle.book_parts.specs.Parts.{view_of}
use Rattle.stack_steps.proofs.Held.{held_book, held_idle, held_event, held_rings, still_within, told_seen, steps_shown}
use Rattle.stack_steps.proofs.steps.step.Goals as goal

pub work-requires-clause-rings : goal.work-requires-clause-rings
work-requires-clause-rings g c = held_rings c.hold_event.ensures.same c.requires.book c.requires.idle c.requires.rings

pub end_turn-requires-clause-event : goal.end_turn-requires-clause-event
end_turn-requires-clause-event g c = still_within _ c.in_ok-reply.ensures.did c.in_ok-held.ensures.within

pub end_turn-requires-clause-told : goal.end_turn-requires-clause-told
end_turn-requires-clause-told g c =
    told_seen _ (held_book c.hold_event.ensures.same c.requires.book) (held_idle c.hold_event.ensures.same c.requires.idle) c.in_ok-reply.ensures.did c.in_ok-held.ensures.within

pub returns-clause-steps : goal.returns-clause-steps
returns-clause-steps g c =
    steps_shown _ _ _ c.hold_event.ensures.same c.requires.book c.requires.idle
    (held_event (view_of g.M.MiniportCalls.state g.P.ProtocolCalls.state g.F.FilterCalls.state c.args.book.now) c.hold_event.ensures.same c.in_ok-held.ensures.within c.in_ok-held.ensures.shown c.requires.may c.requires.worked)
    c.in_ok-reply.ensures.did c.in_ok-reply.ensures.shelf c.end_turn.ensures
