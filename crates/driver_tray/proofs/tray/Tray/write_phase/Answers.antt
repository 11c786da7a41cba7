use Rattle.std.proofs.Common.{◌≡◌, sym, ap, ◌∙◌, subst}
use Rattle.journal_types.specs.declared.Row.{Row}
use Rattle.journal_types.specs.declared.Row.TheVariants as row
use Rattle.flat_journal.specs.Flat.{FlatView}
use Rattle.flat_journal.specs.Payloads.{Payloads}
use Rattle.stack_rules.specs.Net.{after}
use Rattle.driver_tray.specs.Tray.{TrayView, written}
use Rattle.driver_tray.specs.Inside.{net_of, ToldWithin}
use Rattle.driver_tray.proofs.Rows.{row_more, journal_written, net_written, shown_written, ledger_noted, asks_same}
use Rattle.driver_tray.proofs.Waits.{waits_same, waits_phase}
use Rattle.driver_tray.proofs.tray.Tray.write_phase.Goals as goal

abbrev row_now : goal.After-enter → Row
row_now c = row.Phase c.args.of

journal_is : (c : goal.After-enter) → c.write_row.new.self ≡ row_more c.self.inside.journal (row_now c)
journal_is c =
    journal_written c.self.inside.journal c.write_row.new.self (row_now c) c.write_row.ensures.head c.write_row.ensures.turns c.write_row.ensures.rows c.write_row.ensures.payloads c.write_row.ensures.room

net_is : (c : goal.After-enter) → net_of c.write_row.new.self c.self.inside.told ≡ after (net_of c.self.inside.journal c.self.inside.told) (row_now c)
net_is c = ap (λ (v : FlatView). net_of v c.self.inside.told) (journal_is c) ∙ net_written c.self.inside.journal c.self.inside.told (row_now c)

pub invariant_of-self : goal.invariant_of-self
invariant_of-self c = record {
  queue = c.self.invariant.queue;
  ledger = ledger_noted c.self.inside.ledger _ (net_of c.self.inside.journal c.self.inside.told) _ (row_now c) c.self.invariant.ledger c.enter.ensures (net_is c);
  within = subst (λ (p : Payloads). ToldWithin p c.self.inside.told) (sym c.write_row.ensures.payloads) c.self.invariant.within;
  waits = waits_same (net_is c) (waits_phase (net_of c.self.inside.journal c.self.inside.told) c.args.of c.self.inside.waits c.self.inside.slack c.self.invariant.waits);
  asks = asks_same c.self.inside.ledger _ _ c.self.inside.slack c.enter.ensures c.self.invariant.asks;
}

pub returns : goal.returns
returns c =
    shown_written c.self.inside.journal c.write_row.new.self c.self.inside.told c.self.inside.queue.items c.self.inside.slack c.self.inside.caller c.self.inside.pool (row_now c) (journal_is c)
    ∙ ap (λ (v : TrayView). written v (row.Phase c.args.of)) c.self.view_is
