use Rattle.std.proofs.Common.{refl, sym, subst, ap, ◌∙◌}
use Rattle.std.specs.Option.{IsSome}
use Rattle.turn_lock.specs.History.{ByStep}
use Rattle.turn_lock.specs.Account.{Closes, account}
use Rattle.turn_lock.proofs.Calls.{closed, closed_with, closed_fixed}
use Rattle.turn_lock.proofs.table.TurnLock.close.Goals as goal

pub unwrap-object-requires : goal.unwrap-object-requires
unwrap-object-requires g c = let s = c.args.seat in let e = c.into_place-place.ensures in
    let d = closed (ByStep g.O.Turned.fixed g.O.Turned.steps g.O.Turned.phase_of) g.O.Turned.phase_of _ _ _ _ _ _ _ c.close_with-closed.ensures.values.2 (ap (λ p. p.me.0.live) e ∙ s.live) (ap (λ p. p.me.0.named) e ∙ s.named) (ap (λ p. p.me.0.role) e ∙ s.idle)
    (ap (λ p. p.me.0.parts) e ∙ c.requires.parts) c.take.ensures.value in
    subst IsSome (sym d.1) refl

pub returns-clause-object : goal.returns-clause-object
returns-clause-object g c = let s = c.args.seat in let e = c.into_place-place.ensures in
    subst (λ p. Closes (ByStep g.O.Turned.fixed g.O.Turned.steps g.O.Turned.phase_of) c.args.self.table.shared.key.object.value (account p.me.0) c.unwrap-object.result) e
    (closed_with (ByStep g.O.Turned.fixed g.O.Turned.steps g.O.Turned.phase_of) g.O.Turned.phase_of _ _ _ _ _ _ _ _ c.close_with-closed.ensures.values.2 (ap (λ p. p.me.0.live) e ∙ s.live) (ap (λ p. p.me.0.named) e ∙ s.named) (ap (λ p. p.me.0.role) e ∙ s.idle)
    (ap (λ p. p.me.0.parts) e ∙ c.requires.parts) c.take.ensures.value c.unwrap-object.ensures)

pub returns-clause-fixed : goal.returns-clause-fixed
returns-clause-fixed g c = let s = c.args.seat in let e = c.into_place-place.ensures in
    closed_fixed g.O.Turned.fixed g.O.Turned.steps g.O.Turned.phase_of c.args.self.table.shared.key.object.value c.into_place-place.result.me.0 _
    (closed_with (ByStep g.O.Turned.fixed g.O.Turned.steps g.O.Turned.phase_of) g.O.Turned.phase_of _ _ _ _ _ _ _ _ c.close_with-closed.ensures.values.2 (ap (λ p. p.me.0.live) e ∙ s.live) (ap (λ p. p.me.0.named) e ∙ s.named) (ap (λ p. p.me.0.role) e ∙ s.idle)
    (ap (λ p. p.me.0.parts) e ∙ c.requires.parts) c.take.ensures.value c.unwrap-object.ensures)
