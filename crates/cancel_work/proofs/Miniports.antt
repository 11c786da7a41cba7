-- The miniport was called for a cancel.
use Rattle.std.proofs.Common.{◌≡◌, ℕ, ◌≤◌, [], ◌∷◌, length, refl, sym, ap, ◌∙◌, subst, arith}
use Rattle.std.proofs.lemmas.List.Sums.{sum_by-cons}
use Rattle.ndis_base.specs.declared.ModuleId.TheVariants.{Miniport}
use Rattle.buffer_pools.specs.Views.{PoolView}
use Rattle.stack_rules.specs.Cancels.{cancel_rows_at}
use Rattle.driver_views.specs.States.{MiniportState}
use Rattle.driver_tray.specs.Tray.{TrayView}
use Rattle.driver_calls.specs.Miniports.{MayCancel}
use Rattle.book_lemmas.specs.Called.{miniport_called}
use Rattle.book_lemmas.specs.Views.{BookView, HeldView, kept_of}
use Rattle.book_lemmas.proofs.Called.{miniport_is_called, miniport_leaves}
use Rattle.call_lemmas.specs.Served.{Counts}
use Rattle.call_lemmas.proofs.Served.{counts_none, did_miniport}
use Rattle.book_parts.specs.Events.{IsBook}
use Rattle.book_parts.proofs.Events.{Ends, begins_called, ends_call}
use Rattle.drain_work.proofs.Sames.{book_is, same_self}
use Rattle.cancel_work.specs.Cancels.{HasRoomToCancel, MiniportTurns, CancelledAt}
use Rattle.cancel_work.proofs.Turned.{Turned, turned, cancelled_at_end}

pub may_cancel : (v : BookView) → HasRoomToCancel v (Miniport ∷ []) → MayCancel v.held.miniport v.tray
may_cancel v room =
    let one = sum_by-cons (λ m. length (kept_of v.held m)) Miniport [] in
    record { room = record { rows = omega (arith, room.rows, one); slack = omega (arith, room.slack, one) } }

pub miniport_cancelled : (old new : BookView) (id n : ℕ) (s' : MiniportState) (pool' : PoolView) → IsBook old → MiniportTurns id old.held.miniport old.tray old.held.miniport_pool n s' new.tray pool'
    → new.held ≡ miniport_called old.held s' pool' → CancelledAt old new id Miniport n
miniport_cancelled old new id n s' pool' k t held =
    let s : MiniportState = old.held.miniport in
    let left : TrayView = t.turns.left in
    let held' : HeldView = miniport_called old.held s' left.pool in
    let d : Turned old Miniport id n s'.kept left = turned old Miniport id n s'.kept left k t.turns.cancels t.turns.count in
    let ring : length s.kept ≤ old.tray.net.head.port.ring = k.stands.ring in
    let ends : Ends old (record { tray = record left { pool = old.tray.pool }; held = held' }) (cancel_rows_at old.tray.net id Miniport) =
    ends_call held' old.tray.pool k (begins_called Miniport old.held.miniport_pool (same_self old).tray) d.call (miniport_is_called old.held s' left.pool)
    (miniport_leaves old.held s' left.pool (ap (λ (x : MiniportState). x.kind) t.same) (ap (λ (x : MiniportState). x.port) t.same) d.call.size d.call.bytes)
    (omega (arith, ring, d.fewer))
    (did_miniport old.held s' left.pool d.call tt (subst (λ (x : MiniportState). Counts Miniport [] [] s.did x.did) (sym t.same) (counts_none Miniport s.did))
    (let rose = ap (λ (x : MiniportState). x.refusals) t.same in omega (arith, rose))) in
    subst (λ (v : BookView). CancelledAt old v id Miniport n) (book_is t.turns.tray (held ∙ ap (miniport_called old.held s') t.turns.pool_is))
    (cancelled_at_end old Miniport id n s'.kept left (record left { pool = old.tray.pool }) held' k d (miniport_is_called old.held s' left.pool) refl refl refl ends)
