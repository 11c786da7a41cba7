use Rattle.std.proofs.Common.{rules, ◌≡◌, refl, ap, ◌∙◌, le_refl}
use Rattle.turn_lock.specs.declared.view.Role.TheVariants.{Waits}
use Rattle.turn_lock.specs.History.{ByStep}
use Rattle.turn_lock.proofs.Keeps.{tries, took}
use Rattle.turn_lock.proofs.Histories.{starts_self}
use Rattle.turn_lock.proofs.table.TurnLock.wait.Goals as goal

pub loop-init : goal.loop-init
loop-init g c = record { table = refl; id = refl; loaded = (c.args.seat.now.me.0.loads, c.args.seat.now.me.0.seen, le_refl _, starts_self _, λ i. (c.args.seat.now.me.0, c.requires.waits.1 i)) }

pub load-front-requires : goal.load-front-requires
load-front-requires g c = let at_loop = c.loop.invariant.loaded in let role : c.loop.seat.me.0.role ≡ Waits c.args.ticket = ap (λ m. m.0.role) at_loop.4 ∙ c.requires.waits.0 in
    (search rules, search rules, tries (ByStep g.O.Turned.fixed g.O.Turned.steps g.O.Turned.phase_of) g.O.Turned.phase_of _ _ _ _ _ c.args.ticket (ap (λ m. m.0.live) at_loop.4 ∙ c.requires.live.0) (ap (λ m. m.0.named) at_loop.4 ∙ c.requires.live.1) role)

pub returns-then-ticket-lt-MOST-clause-view : goal.returns-then-ticket-lt-MOST-clause-view
returns-then-ticket-lt-MOST-clause-view g c = took (ByStep g.O.Turned.fixed g.O.Turned.steps g.O.Turned.phase_of) g.O.Turned.phase_of c.args.seat.now.me.0 c.args.ticket _ _ _ c.requires.waits.0 c.loop.invariant.loaded c.load-front.ensures.2 (search rules) (search rules)
