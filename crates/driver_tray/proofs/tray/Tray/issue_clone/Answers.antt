use Rattle.std.proofs.Common.{◌≡◌, ◌≤◌, ◌-◌, sym, ap, ◌∙◌, subst, arith}
use Rattle.journal_types.specs.declared.Row.{Row}
use Rattle.frame_arena.specs.Spans.{frames_at, SpanWithin}
use Rattle.flat_journal.specs.Flat.{FlatView}
use Rattle.flat_journal.specs.Payloads.{Payloads}
use Rattle.stack_rules.specs.Net.{after}
use Rattle.waiting_lists.specs.Waiting.{WaitView}
use Rattle.driver_tray.specs.Tray.{TrayView, issue_row, clone_issued}
use Rattle.driver_tray.specs.Inside.{net_of, ToldWithin}
use Rattle.driver_tray.specs.Waits.{HasWaits}
use Rattle.driver_tray.proofs.Rows.{row_more, journal_written, net_written, shown_cloned, ledger_issued, span_count, asks_same}
use Rattle.driver_tray.proofs.Waits.{waits_same, waits_cloned}
use Rattle.driver_tray.proofs.tray.Tray.issue_clone.Goals as goal

abbrev row_now : goal.After-self-1 → Row
row_now c = issue_row c.args.label (frames_at c.self.inside.journal.payloads.frames c.args.span)

journal_is : (c : goal.After-self-1) → c.write_issue.new.journal ≡ row_more c.self.inside.journal (row_now c)
journal_is c =
    journal_written c.self.inside.journal c.write_issue.new.journal (row_now c) c.write_issue.ensures.head c.write_issue.ensures.turns c.write_issue.ensures.rows c.write_issue.ensures.payloads
    c.write_issue.ensures.room

net_is : (c : goal.After-self-1) → net_of c.write_issue.new.journal c.self.inside.told ≡ after (net_of c.self.inside.journal c.self.inside.told) (row_now c)
net_is c = ap (λ (v : FlatView). net_of v c.self.inside.told) (journal_is c) ∙ net_written c.self.inside.journal c.self.inside.told (row_now c)

pub invariant_of-self : goal.invariant_of-self
invariant_of-self c =
    let some : 1 ≤ c.self.inside.slack = subst (λ (v : TrayView). 1 ≤ v.slack) (sym c.self.view_is) c.requires.slack in
    record {
      queue = omega (arith, c.self.invariant.queue, c.enqueue.ensures.len, c.enqueue.ensures.capacity, some);
      ledger = ledger_issued c.self.inside.ledger _ (net_of c.self.inside.journal c.self.inside.told) _ c.args.label (frames_at c.self.inside.journal.payloads.frames c.args.span) c.args.span.count c.self.invariant.ledger c.issue.ensures
          (span_count c.self.inside.journal.payloads.frames c.args.span (subst (λ (v : TrayView). SpanWithin v.payloads.frames c.args.span) (sym c.self.view_is) c.requires.within)) (net_is c);
      within = subst (λ (p : Payloads). ToldWithin p c.self.inside.told) (sym c.write_issue.ensures.payloads) c.self.invariant.within;
      waits = waits_same (net_is c) (subst (λ (v : WaitView). HasWaits (after (net_of c.self.inside.journal c.self.inside.told) (row_now c)) v (c.self.inside.slack - 1)) (sym c.push_clone.ensures)
          (waits_cloned (net_of c.self.inside.journal c.self.inside.told) c.args.label c.args.original (frames_at c.self.inside.journal.payloads.frames c.args.span) c.self.inside.waits c.self.inside.slack
          (subst (λ (v : TrayView). c.args.label.number.0 ≡ v.net.next.list) (sym c.self.view_is) c.requires.number) c.requires.clone some c.self.invariant.waits));
      asks = omega (arith, asks_same c.self.inside.ledger _ _ c.self.inside.slack c.issue.ensures c.self.invariant.asks);
    }

pub returns : goal.returns
returns c =
    shown_cloned c.self.inside.journal c.write_issue.new.journal c.self.inside.told c.self.inside.queue.items c.enqueue.new.queue.items c.self.inside.slack c.self.inside.caller c.self.inside.pool
    c.args.label (frames_at c.self.inside.journal.payloads.frames c.args.span) c.args.clone c.args.way c.args.to (journal_is c) c.enqueue.ensures.items
    ∙ ap (λ (v : TrayView). clone_issued v c.args.label (frames_at v.payloads.frames c.args.span) c.args.clone c.args.way c.args.to) c.self.view_is
