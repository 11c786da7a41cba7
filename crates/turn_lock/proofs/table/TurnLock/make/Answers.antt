use Rattle.std.proofs.Common.{ap, sym, ◌≡◌, ◌∙◌, ◌++◌, List, [], ◌∷◌, Option, Some}
use Rattle.turn_lock.specs.History.{ByStep, phase_number}
use Rattle.turn_lock.proofs.Calls.{tag_is, opens_items}
use Rattle.turn_lock.proofs.table.TurnLock.make.Goals as goal

pub new-requires : goal.new-requires
new-requires g c =
    let H : Type 0 = g.row.O.Denot in
    let h : H = c.args.object in
    let items : c.push_reserved.new.self.items ≡ Some h ∷ [] = c.push_reserved.ensures.items ∙ ap (λ (l : List (Option H)). l ++ Some h ∷ []) c.in-Ok.ensures.items in
    opens_items (ByStep g.O.Turned.fixed g.O.Turned.steps g.O.Turned.phase_of) g.O.Turned.phase_of c.of.result.value c.args.seats _ _ h items c.requires.0 c.requires.1 (sym c.of.ensures)
    (tag_is c.phase-front.result ∙ ap phase_number (c.phase-front.ensures ∙ ap g.O.Turned.phase_of (sym c.of.ensures)))
