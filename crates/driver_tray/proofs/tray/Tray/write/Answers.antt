use Rattle.std.proofs.Common.{◌≡◌, sym, ap, ◌∙◌, subst}
use Rattle.journal_types.specs.declared.Row.{Row}
use Rattle.flat_journal.specs.Payloads.{Payloads}
use Rattle.flat_journal.specs.Shown.{row_of}
use Rattle.stack_rules.specs.Net.{after}
use Rattle.flat_journal.specs.Flat.{FlatView}
use Rattle.stack_ledger.specs.Bare.{bare}
use Rattle.driver_tray.specs.Tray.{TrayView, written}
use Rattle.driver_tray.specs.Inside.{net_of, ToldWithin}
use Rattle.driver_tray.proofs.Rows.{steady, row_more, journal_written, net_written, shown_written}
use Rattle.driver_tray.proofs.Waits.{waits_written}
use Rattle.driver_tray.proofs.tray.Tray.write.Goals as goal

abbrev row_now : goal.After-follow → Row
row_now c = row_of c.self.inside.journal.payloads c.args.row

journal_is : (c : goal.After-follow) → c.write_row.new.self ≡ row_more c.self.inside.journal (row_now c)
journal_is c =
    journal_written c.self.inside.journal c.write_row.new.self (row_now c) c.write_row.ensures.head c.write_row.ensures.turns c.write_row.ensures.rows c.write_row.ensures.payloads c.write_row.ensures.room

pub invariant_of-self : goal.invariant_of-self
invariant_of-self c =
    let net = net_of c.self.inside.journal c.self.inside.told in
    let e : net_of c.write_row.new.self c.self.inside.told ≡ after net (row_now c) = ap (λ (v : FlatView). net_of v c.self.inside.told) (journal_is c) ∙ net_written c.self.inside.journal c.self.inside.told (row_now c) in
    record {
      queue = c.self.invariant.queue;
      ledger = c.self.invariant.ledger ∙ sym (ap bare e ∙ steady net c.self.inside.journal.payloads c.args.row c.requires.steady);
      within = subst (λ (p : Payloads). ToldWithin p c.self.inside.told) (sym c.write_row.ensures.payloads) c.self.invariant.within;
      waits = waits_written net _ c.self.inside.journal.payloads c.args.row c.self.inside.waits c.follow.new.waits c.self.inside.slack c.requires.steady e c.follow.ensures c.self.invariant.waits;
      asks = c.self.invariant.asks;
    }

pub returns : goal.returns
returns c =
    shown_written c.self.inside.journal c.write_row.new.self c.self.inside.told c.self.inside.queue.items c.self.inside.slack c.self.inside.caller c.self.inside.pool (row_now c) (journal_is c)
    ∙ ap (λ (v : TrayView). written v (row_of v.payloads c.args.row)) c.self.view_is
