use Rattle.std.proofs.Common.{◌≡◌, sym, ap, ◌∙◌}
use Rattle.flat_journal.specs.Flat.{FlatView}
use Rattle.stack_ledger.specs.Bare.{bare}
use Rattle.driver_tray.specs.Tray.{TrayView}
use Rattle.driver_tray.specs.Inside.{net_of, shown_of}
use Rattle.driver_tray.proofs.Rows.{payloads_are, journal_grown, net_grown, within_grown, shown_grown}
use Rattle.driver_tray.proofs.Waits.{waits_same}
use Rattle.driver_tray.proofs.tray.Tray.hold_event.Goals as goal

journal_is : (c : goal.After-copy_event) → c.copy_event.new.self ≡ payloads_are c.self.inside.journal c.copy_event.new.self.payloads c.copy_event.new.self.room
journal_is c =
    let g = c.copy_event.ensures.grows in
    journal_grown c.self.inside.journal c.copy_event.new.self g.head g.turns g.rows

net_is : (c : goal.After-copy_event) → net_of c.copy_event.new.self c.self.inside.told ≡ net_of c.self.inside.journal c.self.inside.told
net_is c =
    ap (λ (v : FlatView). net_of v c.self.inside.told) (journal_is c)
    ∙ net_grown c.self.inside.journal c.self.inside.told c.copy_event.new.self.payloads c.copy_event.new.self.room c.copy_event.ensures.grows.payloads c.self.invariant.within

pub invariant_of-self : goal.invariant_of-self
invariant_of-self c = record {
  queue = c.self.invariant.queue;
  ledger = c.self.invariant.ledger ∙ sym (ap bare (net_is c));
  within = within_grown c.self.inside.journal.payloads c.copy_event.new.self.payloads c.self.inside.told c.copy_event.ensures.grows.payloads c.self.invariant.within;
  waits = waits_same (net_is c) c.self.invariant.waits;
  asks = c.self.invariant.asks;
}

pub returns-clause-same : goal.returns-clause-same
returns-clause-same c =
    ap (λ (v : FlatView). shown_of v c.self.inside.told c.self.inside.queue.items c.self.inside.slack c.self.inside.caller c.self.inside.pool) (journal_is c)
    ∙ shown_grown c.self.inside.journal c.self.inside.told c.self.inside.queue.items c.self.inside.slack c.self.inside.caller c.self.inside.pool c.copy_event.new.self.payloads c.copy_event.new.self.room
    c.copy_event.ensures.grows.payloads c.self.invariant.within
    ∙ ap (λ (v : TrayView). record v { payloads = c.copy_event.new.self.payloads; room = c.copy_event.new.self.room }) c.self.view_is
