use Rattle.std.proofs.Common.{rules, ◌+◌, ◌*◌, refl, sym, ap, ◌∙◌, Some, ◌∷◌}
use Rattle.atomic_table.specs.Table.{rest}
use Rattle.turn_lock.specs.History.{ByStep, entry}
use Rattle.turn_lock.proofs.Keeps.{readies, served_call}
use Rattle.turn_lock.proofs.Calls.{tag_is, stands}
use Rattle.turn_lock.proofs.table.TurnLock.serve.Goals as goal

pub exchange-requires : goal.exchange-requires
exchange-requires g c = let h = c.requires.holds in (c.requires.lock, (Some h.0, h.2 ∙ ap (λ cs. (0, Some h.0) ∷ rest cs) (sym h.2)))

pub finish-requires : goal.finish-requires
finish-requires g c = record {
  lock = search rules;
  live = (search rules, search rules);
  ready = readies (ByStep g.O.Turned.fixed g.O.Turned.steps g.O.Turned.phase_of) g.O.Turned.phase_of _ _ _ c.args.ticket _ c.unwrap-object.result _ _ _ c.requires.holds c.exchange.ensures.2 c.exchange.ensures.3 c.exchange-emptied.ensures.3
      c.unwrap-object.ensures refl
      (stands g.O.Turned.fixed g.O.Turned.steps g.O.Turned.phase_of _ _ _ _ _ _ _ _ c.of-said.ensures c.of-answered.ensures c.phase-phase.ensures c.step-reply.ensures.steps c.step-reply.ensures.fixed)
      c.requires.few (ap (λ n. (c.args.ticket + 1) * 8 + n) (tag_is c.phase-phase.result));
}

pub returns-clause-view : goal.returns-clause-view
returns-clause-view g c =
    let m = c.exchange-emptied.new.seat.me in
    let phase = c.phase-phase.result in
    served_call (ByStep g.O.Turned.fixed g.O.Turned.steps g.O.Turned.phase_of) g.O.Turned.phase_of _ _ m _ c.args.ticket 0 c.unwrap-object.result c.step-reply.new.self _ c.args.call c.step-reply.result phase
    (entry m.0.number c.of-said.result.value c.of-answered.result.value phase) c.requires.holds c.exchange.ensures.2 c.exchange.ensures.3 c.exchange-emptied.ensures.3 c.unwrap-object.ensures
    (λ i. entry m.0.number (c.of-said.ensures i) (c.of-answered.ensures i) phase)
    (stands g.O.Turned.fixed g.O.Turned.steps g.O.Turned.phase_of _ _ _ _ _ _ _ _ c.of-said.ensures c.of-answered.ensures c.phase-phase.ensures c.step-reply.ensures.steps c.step-reply.ensures.fixed)
    c.finish.ensures.view
