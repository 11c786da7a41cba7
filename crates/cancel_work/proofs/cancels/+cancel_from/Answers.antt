use Rattle.std.proofs.Common.{rules, true, false, ◌≡◌, ◌+◌, ◌≤◌, ◌<◌, length, get_or, sym, ap, ◌∙◌, subst, arith}
use Rattle.ndis_base.specs.declared.ModuleId.TheVariants.{Miniport}
use Rattle.stack_rules.specs.Cancels.{is_hold_filter}
use Rattle.stack_rules.specs.Net.{Modules}
use Rattle.state_laws.specs.Shape.{IsDistinct}
use Rattle.book_lemmas.specs.Views.{BookView}
use Rattle.book_parts.specs.Parts.{view_of}
use Rattle.cancel_work.specs.Cancels.{queues_from, HasRoomToCancel, Cancelled}
use Rattle.cancel_work.proofs.Queues.{queues_past, queues_later, cancelled_last, room_behind, cancelled_from, low_both}
use Rattle.cancel_work.proofs.cancels.+cancel_from.Goals as goal

pub cancel_miniport-requires-clause-room : goal.cancel_miniport-requires-clause-room
cancel_miniport-requires-clause-room g t c =
    let old : BookView = view_of g.M.MiniportCalls.state g.P.ProtocolCalls.state g.F.FilterCalls.state c.args.book.now in
    subst (HasRoomToCancel old) (queues_past old.tray.net.modules c.args.index (subst (λ n. n ≤ c.args.index) c.requires.all c.if-index-count.true)) c.requires.room

pub returns-then-index-count : goal.returns-then-index-count
returns-then-index-count g t c =
    let old : BookView = view_of g.M.MiniportCalls.state g.P.ProtocolCalls.state g.F.FilterCalls.state c.args.book.now in
    let new : BookView = view_of g.M.MiniportCalls.state g.P.ProtocolCalls.state g.F.FilterCalls.state c.cancel_miniport.new.book in
    subst (λ ms. Cancelled old new c.args.id ms c.cancel_miniport.result) (sym (queues_past old.tray.net.modules c.args.index (subst (λ n. n ≤ c.args.index) c.requires.all c.if-index-count.true)))
    (cancelled_last old new c.args.id c.cancel_miniport.result Miniport c.cancel_miniport.ensures)

pub cancel_from-requires : goal.cancel_from-requires
cancel_from-requires g t c κs within =
    let old : BookView = view_of g.M.MiniportCalls.state g.P.ProtocolCalls.state g.F.FilterCalls.state c.args.book.now in
    let f = get_or c.order.result.now c.args.index 0 in
    let other : is_hold_filter old.tray.net.modules f ≡ false = ap (λ (ms : Modules). is_hold_filter ms f) (sym c.modules.ensures) ∙ sym c.is_hold_filter.ensures ∙ c.if-not-is_hold_filter.true in
    let room : HasRoomToCancel old (queues_from old.tray.net.modules (c.args.index + 1)) =
    subst (HasRoomToCancel old) (queues_later old.tray.net.modules c.args.index f (subst (λ n. c.args.index < n) c.requires.all c.if-index-count.false) (ap (λ fs. get_or fs c.args.index 0) c.order.ensures) other) c.requires.room in
    search rules

pub returns-then-not-is_hold_filter : goal.returns-then-not-is_hold_filter
returns-then-not-is_hold_filter g t c =
    let old : BookView = view_of g.M.MiniportCalls.state g.P.ProtocolCalls.state g.F.FilterCalls.state c.args.book.now in
    let new : BookView = view_of g.M.MiniportCalls.state g.P.ProtocolCalls.state g.F.FilterCalls.state c.cancel_from.new.book in
    let f = get_or c.order.result.now c.args.index 0 in
    let other : is_hold_filter old.tray.net.modules f ≡ false = ap (λ (ms : Modules). is_hold_filter ms f) (sym c.modules.ensures) ∙ sym c.is_hold_filter.ensures ∙ c.if-not-is_hold_filter.true in
    subst (λ ms. Cancelled old new c.args.id ms c.cancel_from.result)
    (sym (queues_later old.tray.net.modules c.args.index f (subst (λ n. c.args.index < n) c.requires.all c.if-index-count.false) (ap (λ fs. get_or fs c.args.index 0) c.order.ensures) other))
    c.cancel_from.ensures

pub cancel_from-below-requires : goal.cancel_from-below-requires
cancel_from-below-requires g t c κs within =
    let old : BookView = view_of g.M.MiniportCalls.state g.P.ProtocolCalls.state g.F.FilterCalls.state c.args.book.now in
    let mid : BookView = view_of g.M.MiniportCalls.state g.P.ProtocolCalls.state g.F.FilterCalls.state c.cancel_filter-here.new.book in
    let f = get_or c.order.result.now c.args.index 0 in
    let hold : is_hold_filter old.tray.net.modules f ≡ true = ap (λ (ms : Modules). is_hold_filter ms f) (sym c.modules.ensures) ∙ sym c.is_hold_filter.ensures ∙ c.if-not-is_hold_filter.false in
    let all : c.args.count ≡ length mid.tray.net.modules.order = c.requires.all ∙ ap (λ (ms : Modules). length ms.order) (sym c.cancel_filter-here.ensures.modules) in
    let distinct : IsDistinct mid.tray.net.modules.order = subst (λ (ms : Modules). IsDistinct ms.order) (sym c.cancel_filter-here.ensures.modules) c.requires.distinct in
    let room : HasRoomToCancel mid (queues_from mid.tray.net.modules (c.args.index + 1)) =
    room_behind old mid c.args.id c.cancel_filter-here.result c.args.index f c.requires.distinct (subst (λ n. c.args.index < n) c.requires.all c.if-index-count.false) (ap (λ fs. get_or fs c.args.index 0) c.order.ensures) hold c.requires.room c.cancel_filter-here.ensures in
    search rules

pub overflow_add-result : goal.overflow_add-result
overflow_add-result g t c =
    let old : BookView = view_of g.M.MiniportCalls.state g.P.ProtocolCalls.state g.F.FilterCalls.state c.args.book.now in
    let mid : BookView = view_of g.M.MiniportCalls.state g.P.ProtocolCalls.state g.F.FilterCalls.state c.cancel_filter-here.new.book in
    let new : BookView = view_of g.M.MiniportCalls.state g.P.ProtocolCalls.state g.F.FilterCalls.state c.cancel_from-below.new.book in
    let f = get_or c.order.result.now c.args.index 0 in
    let hold : is_hold_filter old.tray.net.modules f ≡ true = ap (λ (ms : Modules). is_hold_filter ms f) (sym c.modules.ensures) ∙ sym c.is_hold_filter.ensures ∙ c.if-not-is_hold_filter.false in
    let low = low_both old mid c.args.id c.cancel_filter-here.result c.args.index f c.requires.distinct (subst (λ n. c.args.index < n) c.requires.all c.if-index-count.false) (ap (λ fs. get_or fs c.args.index 0) c.order.ensures) hold
    new c.cancel_from-below.result c.requires.room c.cancel_filter-here.ensures c.cancel_from-below.ensures in
    omega (arith, low)

pub returns : goal.returns
returns g t c =
    let old : BookView = view_of g.M.MiniportCalls.state g.P.ProtocolCalls.state g.F.FilterCalls.state c.args.book.now in
    let mid : BookView = view_of g.M.MiniportCalls.state g.P.ProtocolCalls.state g.F.FilterCalls.state c.cancel_filter-here.new.book in
    let new : BookView = view_of g.M.MiniportCalls.state g.P.ProtocolCalls.state g.F.FilterCalls.state c.cancel_from-below.new.book in
    let f = get_or c.order.result.now c.args.index 0 in
    let hold : is_hold_filter old.tray.net.modules f ≡ true = ap (λ (ms : Modules). is_hold_filter ms f) (sym c.modules.ensures) ∙ sym c.is_hold_filter.ensures ∙ c.if-not-is_hold_filter.false in
    cancelled_from old mid c.args.id c.cancel_filter-here.result c.args.index f c.requires.distinct (subst (λ n. c.args.index < n) c.requires.all c.if-index-count.false) (ap (λ fs. get_or fs c.args.index 0) c.order.ensures) hold
    new c.cancel_from-below.result c.requires.book c.cancel_filter-here.ensures c.cancel_from-below.ensures
