use Rattle.std.proofs.Common.{◌≡◌, ◌≤◌, ◌<◌, true, false, length, map, get_or, sym, ap, ◌∙◌, subst}
use Rattle.std.specs.Prelude.{IfOk}
use Rattle.ndis_base.specs.declared.ModuleId.TheVariants.{Filter}
use Rattle.stack_rules.specs.Cancels.{is_hold_filter}
use Rattle.stack_rules.specs.Net.{Modules}
use Rattle.book_lemmas.specs.Views.{HeldView, filter_at, seat_of, kept_of}
use Rattle.book_parts.specs.Parts.{held_of}
use Rattle.cancel_work.specs.Cancels.{kept_by, IsCounted}
use Rattle.cancel_work.proofs.Queues.{queues_later, kept_past, kept_here}
use Rattle.cancel_work.proofs.cancels.+kept_from.Goals as goal

pub returns-then-index-count : goal.returns-then-index-count
returns-then-index-count g t c =
    let held : HeldView = held_of g.M.MiniportCalls.state g.P.ProtocolCalls.state g.F.FilterCalls.state c.args.book.now in
    subst (λ n. IfOk c.added.result (IsCounted n))
    (kept_past held c.args.book.now.tray.net.modules c.args.index c.held.result (subst (λ n. n ≤ c.args.index) c.requires c.if-index-count.true) c.held.ensures)
    c.added.ensures

pub returns-then-not-is_hold_filter : goal.returns-then-not-is_hold_filter
returns-then-not-is_hold_filter g t c =
    let held : HeldView = held_of g.M.MiniportCalls.state g.P.ProtocolCalls.state g.F.FilterCalls.state c.args.book.now in
    let ms : Modules = c.args.book.now.tray.net.modules in
    let f = get_or c.order.result.now c.args.index 0 in
    let other : is_hold_filter ms f ≡ false = ap (λ (ms : Modules). is_hold_filter ms f) (sym c.modules.ensures) ∙ sym c.is_hold_filter.ensures ∙ c.if-not-is_hold_filter.true in
    subst (λ qs. IsCounted (kept_by held qs) c.in_ok-others.others)
    (sym (queues_later ms c.args.index f (subst (λ n. c.args.index < n) c.requires c.if-index-count.false) (ap (λ fs. get_or fs c.args.index 0) c.order.ensures) other))
    c.in_ok-others.ensures

pub returns : goal.returns
returns g t c =
    let held : HeldView = held_of g.M.MiniportCalls.state g.P.ProtocolCalls.state g.F.FilterCalls.state c.args.book.now in
    let ms : Modules = c.args.book.now.tray.net.modules in
    let f = get_or c.order.result.now c.args.index 0 in
    let hold : is_hold_filter ms f ≡ true = ap (λ (ms : Modules). is_hold_filter ms f) (sym c.modules.ensures) ∙ sym c.is_hold_filter.ensures ∙ c.if-not-is_hold_filter.false in
    let here : c.kept_at.result ≡ length (kept_of held (Filter f)) =
    c.kept_at.ensures
    ∙ ap (λ fs. length (filter_at (map g.F.FilterCalls.state fs) c.place_of-place.result).kept) c.as_slice-2.ensures.value
    ∙ ap (λ o. length (filter_at held.filters o).kept) (c.place_of-place.ensures ∙ ap (λ seats. seat_of seats f) c.as_slice.ensures.value) in
    subst (λ n. IfOk c.added-2.result (IsCounted n))
    (kept_here held ms c.args.index f c.kept_at.result c.in_ok-others.others (subst (λ n. c.args.index < n) c.requires c.if-index-count.false) (ap (λ fs. get_or fs c.args.index 0) c.order.ensures) hold here c.in_ok-others.ensures.is)
    c.added-2.ensures
