use Rattle.std.proofs.Common.{rules, ap, ◌∙◌, sym, subst}
use Rattle.turn_lock.specs.History.{ByStep, StartsWith}
use Rattle.turn_lock.specs.Orderly.{IsQuiet, both}
use Rattle.turn_lock.specs.Account.{AreApart, numbers_of, account}
use Rattle.turn_lock.proofs.Seating.{joins, settles}
use Rattle.turn_lock.proofs.Calls.{settles_both}
use Rattle.turn_lock.proofs.table.TurnLock.join.Goals as goal

pub join_seat-requires : goal.join_seat-requires
join_seat-requires g c = let s = c.args.seat.now in let o = c.args.other in let e = c.into_place-place.ensures in (
  search rules,
  ap (λ p. p.table_id) e ∙ c.requires.lock.1.table,
  ap (λ p. p.me.1) e ∙ o.empty,
  search rules,
  joins (ByStep g.O.Turned.fixed g.O.Turned.steps g.O.Turned.phase_of) g.O.Turned.phase_of _ _ _ _ _ _ s.live s.named s.idle (ap (λ p. p.me.0.live) e ∙ o.live) (ap (λ p. p.me.0.named) e ∙ o.named) (ap (λ p. p.me.0.role) e ∙ o.idle),
)

pub load-requires : goal.load-requires
load-requires g c = let s = c.args.seat.now in let e = c.join_seat.ensures.2 in
    (search rules, search rules, settles (ByStep g.O.Turned.fixed g.O.Turned.steps g.O.Turned.phase_of) g.O.Turned.phase_of _ _ _ _ _ (ap (λ m. m.0.live) e ∙ s.live) (ap (λ m. m.0.named) e ∙ s.named) (ap (λ m. IsQuiet m.0.role) e ∙ ap IsQuiet s.idle))

pub returns-clause-seen : goal.returns-clause-seen
returns-clause-seen g c = let s = c.args.seat.now.place in let o = c.args.other.place in
    let t = settles_both s.me.0 o.me.0 s.me.1 0 _ _ (c.join_seat.ensures.2 ∙ ap (λ p. (both s.me.0 p.me.0, s.me.1)) c.into_place-place.ensures) c.load.ensures.2 in
    subst (λ m. StartsWith m.0.seen s.me.0.seen × StartsWith m.0.seen o.me.0.seen) (sym t.0) (t.1, t.2)

pub returns-clause-numbers : goal.returns-clause-numbers
returns-clause-numbers g c = let s = c.args.seat.now.place in let o = c.args.other.place in
    let t = settles_both s.me.0 o.me.0 s.me.1 0 _ _ (c.join_seat.ensures.2 ∙ ap (λ p. (both s.me.0 p.me.0, s.me.1)) c.into_place-place.ensures) c.load.ensures.2 in
    subst (λ m. AreApart (numbers_of (account m.0))) (sym t.0) t.3
