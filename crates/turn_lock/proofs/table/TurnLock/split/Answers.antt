use Rattle.std.proofs.Common.{rules, ap, ◌∙◌, sym, subst, ◌∷◌, ◌≢◌}
use Rattle.std.specs.List.{All}
use Rattle.turn_lock.specs.History.{ByStep}
use Rattle.turn_lock.proofs.Seating.{splits, names, notes, learns}
use Rattle.turn_lock.proofs.Calls.{comes}
use Rattle.turn_lock.proofs.table.TurnLock.split.Goals as goal

pub split_seat-place-requires : goal.split_seat-place-requires
split_seat-place-requires g c = let s = c.args.seat.now in (search rules, search rules, splits (ByStep g.O.Turned.fixed g.O.Turned.steps g.O.Turned.phase_of) g.O.Turned.phase_of _ _ _ _ s.live s.named s.idle c.requires.parts)

pub load-requires : goal.load-requires
load-requires g c = let e = c.split_seat-place.ensures.4 in
    (search rules, search rules, names (ByStep g.O.Turned.fixed g.O.Turned.steps g.O.Turned.phase_of) g.O.Turned.phase_of _ _ _ _ _ (ap (λ m. m.0.live) e) (ap (λ m. m.0.named) e) (ap (λ m. m.0.role) e))

pub split_seat-note-requires : goal.split_seat-note-requires
split_seat-note-requires g c = let n = (comes c.args.seat.now.place.me.0 0 _ _ c.split_seat-place.ensures.4 c.load.ensures.2).1 in
    (search rules, search rules, notes (ByStep g.O.Turned.fixed g.O.Turned.steps g.O.Turned.phase_of) g.O.Turned.phase_of _ _ _ _ (ap (λ m. m.0.live) n) (ap (λ m. m.0.named) n) (ap (λ m. m.0.role) n))

pub join_seat-requires : goal.join_seat-requires
join_seat-requires g c = let s = c.args.seat.now in let e = c.split_seat-place.ensures.2 in let n = c.split_seat-note.ensures.4 in (
  search rules,
  search rules,
  ap (λ m. m.1) n,
  search rules,
  learns (ByStep g.O.Turned.fixed g.O.Turned.steps g.O.Turned.phase_of) g.O.Turned.phase_of _ _ _ _ _ _ (ap (λ m. m.0.live) e ∙ s.live) (ap (λ m. m.0.named) e ∙ s.named) (ap (λ m. m.0.role) e ∙ s.idle) (ap (λ m. m.0.live) n) (ap (λ m. m.0.role) n) (ap (λ m. m.0.parts) n),
)

pub returns-clause-number : goal.returns-clause-number
returns-clause-number g c = let v = c.args.seat.now.place.me.0 in let n = comes v 0 _ _ c.split_seat-place.ensures.4 c.load.ensures.2 in
    subst (λ k. All (λ a. a ≢ k) (v.number ∷ v.known)) (sym (ap (λ p. p.me.0.number) c.of.ensures ∙ (ap (λ m. m.0.number) c.split_seat-note.ensures.2 ∙ ap (λ m. m.0.number) n.1))) n.2
