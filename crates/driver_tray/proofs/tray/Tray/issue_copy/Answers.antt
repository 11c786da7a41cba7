use Rattle.std.proofs.Common.{◌≡◌, sym, ap, ◌∙◌, subst}
use Rattle.journal_types.specs.declared.Row.{Row}
use Rattle.frame_arena.specs.Spans.{frames_at, SpanWithin}
use Rattle.flat_journal.specs.Flat.{FlatView}
use Rattle.flat_journal.specs.Payloads.{Payloads}
use Rattle.stack_rules.specs.Net.{after}
use Rattle.driver_tray.specs.Tray.{TrayView, issue_row, written}
use Rattle.driver_tray.specs.Inside.{net_of, ToldWithin}
use Rattle.driver_tray.proofs.Rows.{row_more, journal_written, net_written, shown_written, ledger_issued, span_count, asks_same}
use Rattle.driver_tray.proofs.Waits.{waits_same, waits_copied}
use Rattle.driver_tray.proofs.tray.Tray.issue_copy.Goals as goal

abbrev row_now : goal.After-issue → Row
row_now c = issue_row c.args.label (frames_at c.self.inside.journal.payloads.frames c.args.span)

journal_is : (c : goal.After-issue) → c.write_issue.new.journal ≡ row_more c.self.inside.journal (row_now c)
journal_is c =
    journal_written c.self.inside.journal c.write_issue.new.journal (row_now c) c.write_issue.ensures.head c.write_issue.ensures.turns c.write_issue.ensures.rows c.write_issue.ensures.payloads c.write_issue.ensures.room

net_is : (c : goal.After-issue) → net_of c.write_issue.new.journal c.self.inside.told ≡ after (net_of c.self.inside.journal c.self.inside.told) (row_now c)
net_is c = ap (λ (v : FlatView). net_of v c.self.inside.told) (journal_is c) ∙ net_written c.self.inside.journal c.self.inside.told (row_now c)

pub invariant_of-self : goal.invariant_of-self
invariant_of-self c = record {
  queue = c.self.invariant.queue;
  ledger = ledger_issued c.self.inside.ledger _ (net_of c.self.inside.journal c.self.inside.told) _ c.args.label (frames_at c.self.inside.journal.payloads.frames c.args.span) c.args.span.count c.self.invariant.ledger c.issue.ensures
      (span_count c.self.inside.journal.payloads.frames c.args.span (subst (λ (v : TrayView). SpanWithin v.payloads.frames c.args.span) (sym c.self.view_is) c.requires.within)) (net_is c);
  within = subst (λ (p : Payloads). ToldWithin p c.self.inside.told) (sym c.write_issue.ensures.payloads) c.self.invariant.within;
  waits = waits_same (net_is c) (waits_copied (net_of c.self.inside.journal c.self.inside.told) c.args.label c.args.lent (frames_at c.self.inside.journal.payloads.frames c.args.span) c.self.inside.waits c.self.inside.slack
      (subst (λ (v : TrayView). c.args.label.number.0 ≡ v.net.next.list) (sym c.self.view_is) c.requires.number) c.requires.copy c.self.invariant.waits);
  asks = asks_same c.self.inside.ledger _ _ c.self.inside.slack c.issue.ensures c.self.invariant.asks;
}

pub returns : goal.returns
returns c =
    shown_written c.self.inside.journal c.write_issue.new.journal c.self.inside.told c.self.inside.queue.items c.self.inside.slack c.self.inside.caller c.self.inside.pool (row_now c) (journal_is c)
    ∙ ap (λ (v : TrayView). written v (issue_row c.args.label (frames_at v.payloads.frames c.args.span))) c.self.view_is
