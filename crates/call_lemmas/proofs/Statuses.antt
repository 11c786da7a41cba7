-- A status goes up: the module that is called sees it, and indicates it further.
use Rattle.std.proofs.Common.{ℕ, ◌≡◌, ◌-◌, not, filter, List, [], ◌∷◌, ◌++◌, All, refl, subst, append-nil, arith}
use Rattle.std.proofs.lemmas.List.Elements.{All-nil, All-cons, All-append, All-filter}
use Rattle.ndis_base.specs.declared.ModuleId.{ModuleId}
use Rattle.ndis_base.specs.declared.ModuleId.TheVariants.{Miniport, Filter, Binding}
use Rattle.ndis_base.specs.declared.StatusName.{StatusName}
use Rattle.ndis_base.specs.declared.StatusNo.{StatusNo}
use Rattle.journal_types.specs.declared.Row.{Row}
use Rattle.journal_types.specs.declared.Row.TheVariants as row
use Rattle.journal_types.specs.declared.Target.{Target}
use Rattle.buffer_pools.specs.Views.{ListView}
use Rattle.stack_rules.specs.declared.StatusAway.{StatusAway}
use Rattle.promise_rules.specs.declared.Call.{Call}
use Rattle.promise_rules.specs.declared.Called.TheVariants as called
use Rattle.promise_rules.specs.Calls.{call, logged_at}
use Rattle.agenda_items.specs.declared.Carried.{Carried}
use Rattle.agenda_items.specs.declared.Carried.TheVariants.{Status as a_status}
use Rattle.agenda_items.specs.Views.{carries_status}
use Rattle.hand_lemmas.specs.Hands.{Hands}
use Rattle.hand_lemmas.proofs.Rows.{seen_by, statused}
use Rattle.book_lemmas.specs.Stands.{IsCarriedSized}
use Rattle.driver_tray.specs.Tray as tray
use Rattle.driver_tray.specs.Tray.{TrayView}
use Rattle.call_lemmas.specs.InCall.{Beside, hands_in, InCall}
use Rattle.call_lemmas.proofs.Steps.{in_row, in_still, wrote}

-- the queue without the status of this number
abbrev without : ℕ → List Carried → List Carried
without n queue = filter (λ c. not (carries_status n c)) queue

still_seen : (n : StatusNo) (m k : ModuleId) → logged_at k (row.Seen n m) ≡ []
still_seen n m Miniport = refl
still_seen n m (Filter f) = refl
still_seen n m (Binding b) = refl

-- the module that is called sees a status, which is no longer on its way
pub in_seen : {b : TrayView} {h : Hands} {m : ModuleId} {rows : List Row} {calls : List Call} {log : List (List (List ℕ))} {t : TrayView} {loose kept : List ListView} (n : StatusNo)
    → InCall b h m rows calls log t (record { front = []; loose = loose; kept = kept })
    → InCall b h m (rows ++ row.Seen n m ∷ []) (calls ++ call m called.Status) log (tray.seen_at t n m) (record { front = []; loose = loose; kept = kept })
in_seen {b} {h} {m} {rows} {calls} {log} {t} {loose} {kept} n i =
    let r : Row = row.Seen n m in
    let x : Beside = record { front = []; loose = loose; kept = kept } in
    let t' : TrayView = tray.seen_at t n m in
    subst (λ ls. InCall b h m (rows ++ r ∷ []) (calls ++ call m called.Status) ls t' x) (append-nil log)
    (in_row r (call m called.Status) [] t' x i (wrote t r (without n.0 t.queue) t.slack t.pool (omega arith) refl refl) tt refl
    (still_seen n m m) (λ k other. still_seen n m k)
    (seen_by t.net n m (hands_in h m t x) i.agrees)
    (record { front = All-nil IsCarriedSized; queue = All-filter (λ c. not (carries_status n.0 c)) IsCarriedSized t.queue i.sized.queue; loose = i.sized.loose; kept = i.sized.kept }))

still_status : (n : StatusNo) (name : StatusName) (to : Target) (k : ModuleId) → logged_at k (row.Status n name to) ≡ []
still_status n name to Miniport = refl
still_status n name to (Filter f) = refl
still_status n name to (Binding b) = refl

-- a status goes on its way, behind all else
pub in_status : {b : TrayView} {h : Hands} {m : ModuleId} {rows : List Row} {calls : List Call} {log : List (List (List ℕ))} {t : TrayView} {loose kept : List ListView} (s : StatusAway)
    → InCall b h m rows calls log t (record { front = []; loose = loose; kept = kept })
    → InCall b h m (rows ++ row.Status s.number s.name s.to ∷ []) calls log (tray.status_on t s) (record { front = []; loose = loose; kept = kept })
in_status {b} {h} {m} {rows} {calls} {log} {t} {loose} {kept} s i =
    let r : Row = row.Status s.number s.name s.to in
    let x : Beside = record { front = []; loose = loose; kept = kept } in
    let n : ℕ = s.number.0 in
    let queue : All IsCarriedSized (without n t.queue) = All-filter (λ c. not (carries_status n c)) IsCarriedSized t.queue i.sized.queue in
    in_still r (tray.status_on t s) x i (wrote t r (without n t.queue ++ a_status s ∷ []) (t.slack - 1) t.pool (omega arith) refl refl) tt refl
    (still_status s.number s.name s.to)
    (statused t.net s.number s.name s.to (hands_in h m t x) i.agrees)
    (record {
      front = All-nil IsCarriedSized;
      queue = All-append IsCarriedSized (without n t.queue) (a_status s ∷ []) queue (All-cons IsCarriedSized (a_status s) [] tt (All-nil IsCarriedSized));
      loose = i.sized.loose;
      kept = i.sized.kept;
    })
