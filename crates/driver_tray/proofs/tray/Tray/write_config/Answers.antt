use Rattle.std.proofs.Common.{◌≡◌, [], ◌∷◌, ◌++◌, refl, sym, ap, ◌∙◌, subst}
use Rattle.journal_types.specs.declared.Row.{Row}
use Rattle.journal_types.specs.declared.Row.TheVariants as row
use Rattle.flat_journal.specs.Flat.{FlatView}
use Rattle.flat_journal.specs.Grows.{Grows}
use Rattle.flat_journal.specs.Payloads.{filters_at}
use Rattle.flat_journal.proofs.Grown.{grown_by_filters}
use Rattle.stack_rules.specs.Net.{Net, after}
use Rattle.driver_tray.specs.Tray.{TrayView, written, configured}
use Rattle.driver_tray.specs.Inside.{net_of, shown_of, ToldWithin}
use Rattle.driver_tray.proofs.Rows.{row_more, filters_more, journal_listed, journal_written, net_grown, net_written, within_grown, shown_grown, shown_written, ledger_noted, asks_same}
use Rattle.driver_tray.proofs.Waits.{waits_same, waits_configured}
use Rattle.driver_tray.proofs.tray.Tray.write_config.Goals as goal

abbrev row_now : goal.After-configure → Row
row_now c = row.Config c.args.config c.args.filters.now

-- the journal once it has the filters
abbrev mid : goal.After-configure → FlatView
mid c = filters_more c.self.inside.journal c.args.filters.now

grows : (c : goal.After-configure) → Grows c.self.inside.journal.payloads (mid c).payloads
grows c = grown_by_filters c.self.inside.journal.payloads (mid c).payloads c.args.filters.now refl refl refl

mid_is : (c : goal.After-configure) → c.push_filters-span.new.self ≡ mid c
mid_is c =
    let e = c.push_filters-span.ensures in
    journal_listed c.self.inside.journal c.push_filters-span.new.self c.args.filters.now e.head e.turns e.rows e.payloads e.room

shown_row : (c : goal.After-configure) → row.Config c.args.config (filters_at c.push_filters-span.new.self.payloads.filters c.push_filters-span.result) ≡ row_now c
shown_row c = ap (λ fs. row.Config c.args.config fs) c.push_filters-span.ensures.shown

journal_is : (c : goal.After-configure) → c.write_row.new.self ≡ row_more (mid c) (row_now c)
journal_is c =
    let k = c.push_filters-span.new.self in
    let w = c.write_row.ensures in
    journal_written k c.write_row.new.self (row_now c) w.head w.turns (w.rows ∙ ap (λ (r : Row). k.rows ++ r ∷ []) (shown_row c)) w.payloads w.room
    ∙ ap (λ (v : FlatView). row_more v (row_now c)) (mid_is c)

net_is : (c : goal.After-configure) → net_of c.write_row.new.self c.self.inside.told ≡ after (net_of c.self.inside.journal c.self.inside.told) (row_now c)
net_is c =
    ap (λ (v : FlatView). net_of v c.self.inside.told) (journal_is c)
    ∙ net_written (mid c) c.self.inside.told (row_now c)
    ∙ ap (λ (n : Net). after n (row_now c)) (net_grown c.self.inside.journal c.self.inside.told (mid c).payloads (mid c).room (grows c) c.self.invariant.within)

pub invariant_of-self : goal.invariant_of-self
invariant_of-self c = record {
  queue = c.self.invariant.queue;
  ledger = ledger_noted c.self.inside.ledger _ (net_of c.self.inside.journal c.self.inside.told) _ (row_now c) c.self.invariant.ledger c.configure.ensures (net_is c);
  within = subst (λ (v : FlatView). ToldWithin v.payloads c.self.inside.told) (sym (journal_is c)) (within_grown c.self.inside.journal.payloads (mid c).payloads c.self.inside.told (grows c) c.self.invariant.within);
  waits = waits_same (net_is c) (waits_configured (net_of c.self.inside.journal c.self.inside.told) c.args.config c.args.filters.now c.self.inside.waits c.self.inside.slack c.self.invariant.waits);
  asks = asks_same c.self.inside.ledger _ _ c.self.inside.slack c.configure.ensures c.self.invariant.asks;
}

pub returns : goal.returns
returns c =
    let t = c.self.inside.told in
    ap (λ (v : FlatView). shown_of v t c.self.inside.queue.items c.self.inside.slack c.self.inside.caller c.self.inside.pool) (journal_is c)
    ∙ shown_written (mid c) (row_more (mid c) (row_now c)) t c.self.inside.queue.items c.self.inside.slack c.self.inside.caller c.self.inside.pool (row_now c) refl
    ∙ ap (λ (v : TrayView). written v (row_now c)) (shown_grown c.self.inside.journal t c.self.inside.queue.items c.self.inside.slack c.self.inside.caller c.self.inside.pool (mid c).payloads (mid c).room (grows c) c.self.invariant.within)
    ∙ ap (λ (v : TrayView). configured v c.args.config c.args.filters.now) c.self.view_is
