-- The miniport was called with its pool: where its event begins and where it ends.
use Rattle.std.proofs.Common.{◌≡◌, ℕ, ◌≤◌, List, [], ◌∷◌, ◌++◌, length, refl, sym, subst}
use Rattle.std.proofs.lemmas.List.Elements.{All-head, All-tail, All-nil, All-cons}
use Rattle.ndis_base.specs.declared.ModuleId.TheVariants.{Miniport}
use Rattle.journal_types.specs.declared.Row.{Row}
use Rattle.buffer_pools.specs.Views.{PoolView}
use Rattle.promise_rules.specs.declared.Call.{Call}
use Rattle.agenda_items.specs.declared.Carried.{Carried}
use Rattle.driver_views.specs.States.{MiniportState}
use Rattle.driver_tray.specs.Tray.{TrayView}
use Rattle.book_lemmas.specs.Called.{miniport_called}
use Rattle.book_lemmas.specs.Stands.{IsCarriedSized}
use Rattle.book_lemmas.specs.Views.{BookView, hands_of}
use Rattle.book_lemmas.proofs.Called.{miniport_is_called, miniport_leaves}
use Rattle.call_lemmas.specs.InCall.{InCall}
use Rattle.call_lemmas.specs.Served.{AreCallsOf, Counts}
use Rattle.call_lemmas.proofs.Ends.{enters}
use Rattle.call_lemmas.proofs.Served.{did_miniport}
use Rattle.book_parts.specs.Events.{IsBook}
use Rattle.book_parts.proofs.Events.{Begins, begins_called, begins_stands, Ends, ends_call}
use Rattle.miniport_work.specs.Works.{called_with}

-- the call begins
pub begins_call : {old : BookView} {t : TrayView} → IsBook old → Begins old.tray t []
    → InCall (called_with t old.held.miniport_pool) (hands_of t.queue old.held []) Miniport [] [] [] (called_with t old.held.miniport_pool) (record { front = []; loose = []; kept = old.held.miniport.kept })
begins_call {old} {t} k g =
    let s = begins_stands k (begins_called Miniport old.held.miniport_pool g) in
    enters (called_with t old.held.miniport_pool) old.held Miniport [] [] s refl refl (All-nil IsCarriedSized) s.sized.carried

-- and with the list that is worked
pub begins_work : {old : BookView} {t : TrayView} (c : Carried) → IsBook old → Begins old.tray t (c ∷ [])
    → InCall (called_with t old.held.miniport_pool) (hands_of (c ∷ t.queue) old.held []) Miniport [] [] [] (called_with t old.held.miniport_pool) (record { front = c ∷ []; loose = []; kept = old.held.miniport.kept })
begins_work {old} {t} c k g =
    let s = begins_stands k (begins_called Miniport old.held.miniport_pool g) in
    enters (called_with t old.held.miniport_pool) old.held Miniport (c ∷ []) [] s refl refl (All-cons IsCarriedSized c [] (All-head IsCarriedSized c t.queue s.sized.carried) (All-nil IsCarriedSized)) (All-tail IsCarriedSized c t.queue s.sized.carried)

-- what the miniport did, and what it left
pub record Works (old : BookView) (t : TrayView) (front : List Carried) (s' : MiniportState) (left : TrayView) (rows : List Row) (calls : List Call) (log : List (List (List ℕ))) : Type 0 where
  pub call : InCall (called_with t old.held.miniport_pool) (hands_of (front ++ t.queue) old.held []) Miniport rows calls log left (record { front = []; loose = []; kept = s'.kept })
  pub kind : s'.kind ≡ old.held.miniport.kind
  pub port : s'.port ≡ old.held.miniport.port
  pub refusals : old.held.miniport.refusals ≤ s'.refusals
  pub ring : length s'.kept ≤ old.tray.net.head.port.ring
  pub calls_are : AreCallsOf Miniport calls
  pub counts : Counts Miniport calls log old.held.miniport.did s'.did

-- the event ends, and turns have as much room as before the call
pub record Ended (old : BookView) (t : TrayView) (new : BookView) (rows : List Row) : Type 0 where
  pub ends : Ends old new rows
  pub turns : t.room.turns ≤ new.tray.room.turns

pub ended : {old : BookView} {t : TrayView} {front : List Carried} {s' : MiniportState} {left t' : TrayView} {pool' : PoolView} {rows : List Row} {calls : List Call} {log : List (List (List ℕ))}
    → IsBook old → Begins old.tray t front → Works old t front s' left rows calls log → t' ≡ record left { pool = t.pool } → pool' ≡ left.pool
    → Ended old t (record { tray = t'; held = miniport_called old.held s' pool' }) rows
ended {old} {t} {front} {s'} {left} {t'} {pool'} {rows} k g w tray_is pool_is =
    subst (λ (q : TrayView). Ended old t (record { tray = q; held = miniport_called old.held s' pool' }) rows) (sym tray_is)
    (subst (λ (p : PoolView). Ended old t (record { tray = record left { pool = t.pool }; held = miniport_called old.held s' p }) rows) (sym pool_is)
    (record {
      ends = ends_call (miniport_called old.held s' left.pool) t.pool k (begins_called Miniport old.held.miniport_pool g) w.call (miniport_is_called old.held s' left.pool)
          (miniport_leaves old.held s' left.pool w.kind w.port w.call.size w.call.bytes) w.ring (did_miniport old.held s' left.pool w.call w.calls_are w.counts w.refusals);
      turns = w.call.used.turns;
    }))
