use Rattle.std.proofs.Common.{ap, ◌∙◌}
use Rattle.turn_lock.specs.History.{ByStep}
use Rattle.turn_lock.proofs.Calls.{fits_object, makes}
use Rattle.turn_lock.proofs.table.TurnLock.turn.Goals as goal

pub serve-requires-clause-holds : goal.serve-requires-clause-holds
serve-requires-clause-holds g c = let t = c.wait.ensures.view in (t.2, ap (λ m. m.0.role) t.11, ap (λ m. m.1) t.11)

pub serve-requires-clause-call : goal.serve-requires-clause-call
serve-requires-clause-call g c =
    fits_object g.O.Turned.fixed g.O.Turned.steps g.O.Turned.phase_of g.O.Turned.fits c.args.seat.now.place.me.0 c.draw-ticket.result c.args.call _ _ _ c.requires.lock.opens c.draw-ticket.ensures.view c.wait.ensures.view c.requires.fits

pub returns-clause-lock : goal.returns-clause-lock
returns-clause-lock g c = record {
  table = c.serve.ensures.same.0 ∙ (c.wait.ensures.same.0 ∙ (c.draw-ticket.ensures.same.0 ∙ c.requires.lock.table));
  opens =
      (makes (ByStep g.O.Turned.fixed g.O.Turned.steps g.O.Turned.phase_of) g.O.Turned.phase_of c.args.seat.now.place.me.0 c.draw-ticket.result c.args.call c.serve.result _ _ _ _ c.requires.lock.opens c.draw-ticket.ensures.view c.wait.ensures.view c.serve.ensures.view).1
      ∙ c.requires.lock.opens;
}

pub returns-clause-turn : goal.returns-clause-turn
returns-clause-turn g c =
    (makes (ByStep g.O.Turned.fixed g.O.Turned.steps g.O.Turned.phase_of) g.O.Turned.phase_of c.args.seat.now.place.me.0 c.draw-ticket.result c.args.call c.serve.result _ _ _ _ c.requires.lock.opens c.draw-ticket.ensures.view c.wait.ensures.view c.serve.ensures.view).0
