use Rattle.std.proofs.Common.{◌≡◌, ℕ, [], ◌∷◌, ◌++◌, List, sym, ap, ◌∙◌, subst, arith}
use Rattle.ndis_base.specs.declared.OidNo.{OidNo}
use Rattle.journal_types.specs.declared.Row.{Row}
use Rattle.journal_types.specs.declared.Row.TheVariants as row
use Rattle.flat_journal.specs.Flat.{FlatView}
use Rattle.flat_journal.specs.Payloads.{Payloads, value_at}
use Rattle.stack_rules.specs.Net.{Net, after}
use Rattle.stack_rules.specs.Outcome.{oid_no}
use Rattle.driver_tray.specs.Tray.{TrayView, request_issued}
use Rattle.driver_tray.specs.Inside.{net_of, ToldWithin}
use Rattle.driver_tray.proofs.Rows.{row_more, journal_written, net_written, shown_asked, ledger_asked, asks_less}
use Rattle.driver_tray.proofs.Waits.{waits_same, waits_asked}
use Rattle.driver_tray.proofs.tray.Tray.write_issued.Goals as goal

abbrev row_now : goal.After-self-1 → Row
row_now c = row.OidIssue c.next_request-request.result c.args.parent c.args.binding c.args.kind c.args.code c.args.value.now

shown_value : (c : goal.After-self-1) → value_at c.self.inside.journal.payloads.frames c.args.held ≡ c.args.value.now
shown_value c = subst (λ (v : TrayView). value_at v.payloads.frames c.args.held ≡ c.args.value.now) (sym c.self.view_is) c.requires.shown

number_is : (c : goal.After-self-1) → c.next_request-request.result ≡ oid_no (net_of c.self.inside.journal c.self.inside.told).next.request
number_is c = c.next_request-request.ensures ∙ ap (λ (n : Net). oid_no n.next.request) c.self.invariant.ledger

journal_is : (c : goal.After-self-1) → c.write_row.new.self ≡ row_more c.self.inside.journal (row_now c)
journal_is c =
    journal_written c.self.inside.journal c.write_row.new.self (row_now c) c.write_row.ensures.head c.write_row.ensures.turns
    (c.write_row.ensures.rows ∙ ap (λ (value : List ℕ). c.self.inside.journal.rows ++ row.OidIssue c.next_request-request.result c.args.parent c.args.binding c.args.kind c.args.code value ∷ []) (shown_value c))
    c.write_row.ensures.payloads c.write_row.ensures.room

net_is : (c : goal.After-self-1) → net_of c.write_row.new.self c.self.inside.told ≡ after (net_of c.self.inside.journal c.self.inside.told) (row_now c)
net_is c = ap (λ (v : FlatView). net_of v c.self.inside.told) (journal_is c) ∙ net_written c.self.inside.journal c.self.inside.told (row_now c)

pub invariant_of-self : goal.invariant_of-self
invariant_of-self c = record {
  queue = omega (arith, c.self.invariant.queue);
  ledger = ledger_asked c.self.inside.ledger _ (net_of c.self.inside.journal c.self.inside.told) _ (row_now c) c.self.invariant.ledger c.oid_issue.ensures (net_is c);
  within = subst (λ (p : Payloads). ToldWithin p c.self.inside.told) (sym c.write_row.ensures.payloads) c.self.invariant.within;
  waits = waits_same (net_is c) (waits_asked (net_of c.self.inside.journal c.self.inside.told) c.next_request-request.result c.args.parent c.args.binding c.args.kind c.args.code c.args.value.now c.self.inside.waits c.self.inside.slack c.self.invariant.waits);
  asks = asks_less c.self.inside.ledger _ (row_now c) c.self.inside.slack c.oid_issue.ensures c.self.invariant.asks;
}

pub returns : goal.returns
returns c =
    shown_asked c.self.inside.journal c.write_row.new.self c.self.inside.told c.self.inside.queue.items c.self.inside.slack c.self.inside.caller c.self.inside.pool (row_now c) (journal_is c)
    ∙ ap (λ (v : TrayView). request_issued v (row_now c)) c.self.view_is
    ∙ ap (λ (n : OidNo). request_issued c.args.self.now (row.OidIssue n c.args.parent c.args.binding c.args.kind c.args.code c.args.value.now)) (number_is c ∙ ap (λ (v : TrayView). oid_no v.net.next.request) c.self.view_is)
