use Rattle.std.proofs.Common.{◌≡◌, None, refl, sym, ap, ◌∙◌, subst}
use Rattle.journal_types.specs.declared.Turn.{Turn}
use Rattle.flat_journal.specs.Flat.{FlatView}
use Rattle.flat_journal.specs.Shown.{event_of, reply_of}
use Rattle.stack_rules.specs.Net.{seen, told}
use Rattle.stack_ledger.specs.Bare.{bare}
use Rattle.driver_tray.specs.Tray.{TrayView, begun_by, turn_of, ended}
use Rattle.driver_tray.specs.Inside.{net_of, told_of}
use Rattle.driver_tray.proofs.Rows.{turn_more, journal_ended, net_ended, shown_ended}
use Rattle.driver_tray.proofs.Waits.{waits_same}
use Rattle.driver_tray.proofs.tray.Tray.end_turn.Goals as goal

abbrev turn_now : goal.After-self-1 → Turn
turn_now c = record { who = c.args.who; event = event_of c.self.inside.journal.payloads c.args.event; reply = reply_of c.self.inside.journal.payloads c.args.reply; rows = c.self.inside.journal.rows }

journal_is : (c : goal.After-self-1) → c.end_turn.new.self ≡ turn_more c.self.inside.journal (turn_now c)
journal_is c =
    journal_ended c.self.inside.journal c.end_turn.new.self (turn_now c) c.end_turn.ensures.head c.end_turn.ensures.turns c.end_turn.ensures.rows c.end_turn.ensures.payloads c.end_turn.ensures.room

told_is : (c : goal.After-self-1) → begun_by (seen c.self.inside.journal.head c.self.inside.journal.turns) (told_of c.self.inside.journal.payloads c.self.inside.told)
    ≡ told (seen c.self.inside.journal.head c.self.inside.journal.turns) (turn_now c).event (turn_now c).reply
told_is c =
    subst (λ (v : TrayView). begun_by (seen v.head v.turns) v.told_by ≡ told (seen v.head v.turns) (event_of v.payloads c.args.event) (reply_of v.payloads c.args.reply)) (sym c.self.view_is) c.requires.told

net_is : (c : goal.After-self-1) → net_of c.end_turn.new.self None ≡ net_of c.self.inside.journal c.self.inside.told
net_is c = ap (λ (v : FlatView). net_of v None) (journal_is c) ∙ net_ended c.self.inside.journal c.self.inside.told (turn_now c) refl (told_is c)

pub invariant_of-self : goal.invariant_of-self
invariant_of-self c = record {
  queue = c.self.invariant.queue;
  ledger = c.self.invariant.ledger ∙ sym (ap bare (net_is c));
  within = tt;
  waits = waits_same (net_is c) c.self.invariant.waits;
  asks = c.self.invariant.asks;
}

pub returns : goal.returns
returns c =
    shown_ended c.self.inside.journal c.end_turn.new.self c.self.inside.told c.self.inside.queue.items c.self.inside.slack c.self.inside.caller c.self.inside.pool (turn_now c) (journal_is c) refl (told_is c)
    ∙ ap (λ (v : TrayView). ended v (turn_of v c.args.who (event_of v.payloads c.args.event) (reply_of v.payloads c.args.reply))) c.self.view_is
