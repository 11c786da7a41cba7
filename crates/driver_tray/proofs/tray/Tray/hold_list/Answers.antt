use Rattle.std.proofs.Common.{◌≡◌, sym, ap, ◌∙◌, subst}
use Rattle.flat_journal.specs.Flat.{FlatView}
use Rattle.stack_ledger.specs.Bare.{bare}
use Rattle.driver_tray.specs.Tray.{TrayView, framed}
use Rattle.driver_tray.specs.Inside.{net_of, shown_of, ToldWithin}
use Rattle.driver_tray.proofs.Rows.{frames_more, journal_framed, net_framed, within_framed, shown_framed}
use Rattle.driver_tray.proofs.Waits.{waits_same}
use Rattle.driver_tray.proofs.tray.Tray.hold_list.Goals as goal

journal_is : (c : goal.After-push_list) → c.push_list.new.journal ≡ frames_more c.self.inside.journal c.args.list.now.frames
journal_is c =
    journal_framed c.self.inside.journal c.push_list.new.journal c.args.list.now.frames c.push_list.ensures.head c.push_list.ensures.turns c.push_list.ensures.rows
    c.push_list.ensures.payloads c.push_list.ensures.room

net_is : (c : goal.After-push_list) → net_of c.push_list.new.journal c.self.inside.told ≡ net_of c.self.inside.journal c.self.inside.told
net_is c =
    ap (λ (v : FlatView). net_of v c.self.inside.told) (journal_is c) ∙ net_framed c.self.inside.journal c.self.inside.told c.args.list.now.frames c.self.invariant.within

pub invariant_of-self : goal.invariant_of-self
invariant_of-self c = record {
  queue = c.self.invariant.queue;
  ledger = c.self.invariant.ledger ∙ sym (ap bare (net_is c));
  within = subst (λ (v : FlatView). ToldWithin v.payloads c.self.inside.told) (sym (journal_is c)) (within_framed c.self.inside.journal c.self.inside.told c.args.list.now.frames c.self.invariant.within);
  waits = waits_same (net_is c) c.self.invariant.waits;
  asks = c.self.invariant.asks;
}

pub returns-clause-tray : goal.returns-clause-tray
returns-clause-tray c =
    ap (λ (v : FlatView). shown_of v c.self.inside.told c.self.inside.queue.items c.self.inside.slack c.self.inside.caller c.self.inside.pool) (journal_is c)
    ∙ shown_framed c.self.inside.journal c.self.inside.told c.self.inside.queue.items c.self.inside.slack c.self.inside.caller c.self.inside.pool c.args.list.now.frames c.self.invariant.within
    ∙ ap (λ (v : TrayView). framed v c.args.list.now.frames) c.self.view_is
