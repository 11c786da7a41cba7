use Rattle.std.proofs.Common.{◌≡◌, sym, ap, ◌∙◌, subst}
use Rattle.journal_types.specs.declared.Row.{Row}
use Rattle.journal_types.specs.declared.Row.TheVariants as row
use Rattle.frame_arena.specs.Spans.{frames_at, SpanWithin}
use Rattle.flat_journal.specs.Flat.{FlatView}
use Rattle.flat_journal.specs.Payloads.{Payloads}
use Rattle.stack_rules.specs.Net.{after}
use Rattle.driver_tray.specs.Tray.{TrayView, written}
use Rattle.driver_tray.specs.Inside.{net_of, ToldWithin}
use Rattle.driver_tray.proofs.Rows.{row_more, journal_written, net_written, shown_written, ledger_wired, span_count, asks_same}
use Rattle.driver_tray.proofs.Waits.{waits_same, waits_wired}
use Rattle.driver_tray.proofs.tray.Tray.write_wire.Goals as goal

abbrev row_now : goal.After-wire → Row
row_now c = row.Wire c.args.list (frames_at c.self.inside.journal.payloads.frames c.args.frames)

journal_is : (c : goal.After-wire) → c.write_row.new.self ≡ row_more c.self.inside.journal (row_now c)
journal_is c =
    journal_written c.self.inside.journal c.write_row.new.self (row_now c) c.write_row.ensures.head c.write_row.ensures.turns c.write_row.ensures.rows c.write_row.ensures.payloads c.write_row.ensures.room

net_is : (c : goal.After-wire) → net_of c.write_row.new.self c.self.inside.told ≡ after (net_of c.self.inside.journal c.self.inside.told) (row_now c)
net_is c = ap (λ (v : FlatView). net_of v c.self.inside.told) (journal_is c) ∙ net_written c.self.inside.journal c.self.inside.told (row_now c)

pub invariant_of-self : goal.invariant_of-self
invariant_of-self c = record {
  queue = c.self.invariant.queue;
  ledger = ledger_wired c.self.inside.ledger _ (net_of c.self.inside.journal c.self.inside.told) _ c.args.list (frames_at c.self.inside.journal.payloads.frames c.args.frames) c.args.frames.count c.self.invariant.ledger c.wire.ensures
      (span_count c.self.inside.journal.payloads.frames c.args.frames (subst (λ (v : TrayView). SpanWithin v.payloads.frames c.args.frames) (sym c.self.view_is) c.requires.within)) (net_is c);
  within = subst (λ (p : Payloads). ToldWithin p c.self.inside.told) (sym c.write_row.ensures.payloads) c.self.invariant.within;
  waits = waits_same (net_is c) (waits_wired (net_of c.self.inside.journal c.self.inside.told) c.args.list (frames_at c.self.inside.journal.payloads.frames c.args.frames) c.self.inside.waits c.self.inside.slack c.self.invariant.waits);
  asks = asks_same c.self.inside.ledger _ _ c.self.inside.slack c.wire.ensures c.self.invariant.asks;
}

pub returns : goal.returns
returns c =
    shown_written c.self.inside.journal c.write_row.new.self c.self.inside.told c.self.inside.queue.items c.self.inside.slack c.self.inside.caller c.self.inside.pool (row_now c) (journal_is c)
    ∙ ap (λ (v : TrayView). written v (row.Wire c.args.list (frames_at v.payloads.frames c.args.frames))) c.self.view_is
