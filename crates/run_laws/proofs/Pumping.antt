-- A pump moves something, or changes nothing.
use Rattle.std.proofs.Common.{◌≡◌, ◌+◌, ◌≤◌, ◌⊎◌, inl, inr, Bool, Option, Some, None, refl, arith, ap, ◌∙◌}
use Rattle.journal_types.specs.declared.Event.TheVariants as event
use Rattle.journal_types.specs.declared.Reply.TheVariants as reply
use Rattle.stack_rules.specs.declared.Thing.{Thing}
use Rattle.stack_rules.specs.Net.{Net, after_rows, after_turn, seen}
use Rattle.stack_rules.specs.Places.{agenda_first}
use Rattle.stack_rules.specs.Requests.{Giving, next_giving}
use Rattle.stack_rules.specs.Pumps.{pump_of, pump_outcome, request_pump}
use Rattle.stack_rules.specs.Work.{work}
use Rattle.state_laws.proofs.Rows.{IsSame}
use Rattle.state_laws.proofs.Events.{plain_same}
use Rattle.work_laws.proofs.Journals.{sound_pump}
use Rattle.drain_laws.proofs.Bounded.{MovesOrIdles}
use Rattle.run_laws.specs.Turns.{ChangesNothing, EachTurn, GoesOn}
use Rattle.run_laws.specs.Pumping.{Pumps}
use Rattle.run_laws.proofs.Turns.{IsTurn, goes_on, nothing, turn_of}

request_moves : (net : Net) (g : Option Giving) → MovesOrIdles (request_pump net g)
request_moves net None = inr (refl, refl)
request_moves net (Some g) = inl refl

pump_moves : (net : Net) (keeps : Bool) (t : Option Thing) → MovesOrIdles (pump_of net keeps t)
pump_moves net keeps None = request_moves net (next_giving net)
pump_moves net keeps (Some t) = inl refl

pub pumps : EachTurn Pumps
pumps head turns turn s bound n e = by (pump_moves net n.choice.keeps (agenda_first net))
  where
    net : Net
    net = seen head turns

    next : Net
    next = after_rows net (pump_outcome net n.choice.keeps).rows

    t : IsTurn net turn (pump_outcome net n.choice.keeps) next
    t = turn_of net turn event.Pump n e

    same : IsSame net next
    same = plain_same net event.Pump n.choice refl

    by : MovesOrIdles (pump_outcome net n.choice.keeps) → GoesOn net turn reply.Moved net.phase work ⊎ ChangesNothing net turn reply.Idle
    by (inl m) =
        let less : work (after_turn net turn) + 1 ≤ work net = sound_pump head turns turn s bound n e (t.answer ∙ m) in
        let there : work (after_turn net turn) ≡ work next = ap work t.after in
        inl (goes_on net turn _ next reply.Moved net.phase work t m same.phase (omega (arith, less, there)))
    by (inr i) = inr (nothing net turn _ next reply.Idle t i.0 (ap (after_rows net) i.1))
