-- A request goes down: a binding asks, the module that is called is given the request, and a filter forwards it by a clone.
use Rattle.std.proofs.Common.{ℕ, ◌≡◌, ◌+◌, ◌-◌, List, [], ◌∷◌, ◌++◌, Option, Some, None, length, sum_by, refl, subst, append-nil, arith}
use Rattle.std.proofs.lemmas.List.Sums.{sum_by-cons}
use Rattle.ndis_base.specs.declared.ModuleId.{ModuleId}
use Rattle.ndis_base.specs.declared.ModuleId.TheVariants.{Miniport, Filter, Binding}
use Rattle.ndis_base.specs.declared.OidKind.{OidKind}
use Rattle.ndis_base.specs.declared.OidNo.{OidNo}
use Rattle.flat_journal.proofs.Grown.{grown_by_frames}
use Rattle.journal_types.specs.declared.Row.{Row}
use Rattle.journal_types.specs.declared.Row.TheVariants as row
use Rattle.stack_rules.specs.declared.Request.{Request}
use Rattle.stack_rules.specs.Outcome.{oid_no}
use Rattle.promise_rules.specs.declared.Call.{Call}
use Rattle.promise_rules.specs.declared.Called.TheVariants as called
use Rattle.promise_rules.specs.Calls.{call, logged_at}
use Rattle.hand_lemmas.specs.Hands.{Hands}
use Rattle.hand_lemmas.proofs.Rows.{asked, oid_given}
use Rattle.driver_tray.specs.Tray as tray
use Rattle.driver_tray.specs.Tray.{TrayView}
use Rattle.call_lemmas.specs.InCall.{Beside, hands_in, InCall}
use Rattle.call_lemmas.proofs.Steps.{in_row, in_still, wrote, used_row, Wrote}

still_given : (request : OidNo) (m k : ModuleId) → logged_at k (row.OidGive request m) ≡ []
still_given request m Miniport = refl
still_given request m (Filter f) = refl
still_given request m (Binding b) = refl

-- the module that is called is given a request
pub in_request_given : {b : TrayView} {h : Hands} {m : ModuleId} {rows : List Row} {calls : List Call} {log : List (List (List ℕ))} {t : TrayView} {x : Beside} (request : OidNo)
    → InCall b h m rows calls log t x
    → InCall b h m (rows ++ row.OidGive request m ∷ []) (calls ++ call m called.Oid) log (tray.request_given t request m) x
in_request_given {b} {h} {m} {rows} {calls} {log} {t} {x} request i =
    let r : Row = row.OidGive request m in
    let t' : TrayView = tray.request_given t request m in
    subst (λ ls. InCall b h m (rows ++ r ∷ []) (calls ++ call m called.Oid) ls t' x) (append-nil log)
    (in_row r (call m called.Oid) [] t' x i (wrote t r t.queue t.slack t.pool (omega arith) refl refl) tt refl
    (still_given request m m) (λ k other. still_given request m k)
    (oid_given t.net request m (hands_in h m t x) i.agrees)
    (record { front = i.sized.front; queue = i.sized.queue; loose = i.sized.loose; kept = i.sized.kept }))

-- a request as it is issued
abbrev issue : TrayView → Option OidNo → ℕ → OidKind → ℕ → List ℕ → Row
issue t parent binding kind code value = row.OidIssue (oid_no t.net.next.request) parent binding kind code value

still_asked : (t : TrayView) (parent : Option OidNo) (binding : ℕ) (kind : OidKind) (code : ℕ) (value : List ℕ) (k : ModuleId) → logged_at k (issue t parent binding kind code value) ≡ []
still_asked t parent binding kind code value Miniport = refl
still_asked t parent binding kind code value (Filter f) = refl
still_asked t parent binding kind code value (Binding b) = refl

-- a binding asks: the journal has the value already
pub in_asked : {b : TrayView} {h : Hands} {m : ModuleId} {rows : List Row} {calls : List Call} {log : List (List (List ℕ))} {t : TrayView} {x : Beside} (binding : ℕ) (kind : OidKind) (code : ℕ) (value : List ℕ)
    → InCall b h m rows calls log t x
    → InCall b h m (rows ++ row.OidIssue (oid_no t.net.next.request) None binding kind code value ∷ []) calls log (tray.asked t binding kind code value) x
in_asked {b} {h} {m} {rows} {calls} {log} {t} {x} binding kind code value i =
    let r : Row = issue t None binding kind code value in
    in_still r (tray.asked t binding kind code value) x i (wrote t r t.queue (t.slack - 1) t.pool (omega arith) refl refl) tt refl
    (still_asked t None binding kind code value)
    (asked t.net (oid_no t.net.next.request) None binding kind code value (hands_in h m t x) i.agrees)
    (record { front = i.sized.front; queue = i.sized.queue; loose = i.sized.loose; kept = i.sized.kept })

-- the tray that shows a value more, and a clone that has it
valued_wrote : (t : TrayView) (request : Request) → Wrote t (issue t (Some request.request) request.binding request.kind request.code request.value) (tray.forwarded t request)
valued_wrote t request =
    let r : Row = issue t (Some request.request) request.binding request.kind request.code request.value in
    let long : sum_by length (request.value ∷ []) ≡ length request.value + 0 = sum_by-cons length request.value [] in
    record {
      net = refl;
      rows = refl;
      head = refl;
      turns = refl;
      told_by = refl;
      caller = refl;
      size = refl;
      bytes = refl;
      used = used_row t (tray.forwarded t request) r (omega arith) (omega arith) (omega (arith, long)) (omega arith) (omega arith) (grown_by_frames t.payloads _ (request.value ∷ []) refl refl refl);
    }

-- a filter forwards a request by a clone, whose value the journal then has
pub in_forwarded : {b : TrayView} {h : Hands} {m : ModuleId} {rows : List Row} {calls : List Call} {log : List (List (List ℕ))} {t : TrayView} {x : Beside} (request : Request)
    → InCall b h m rows calls log t x
    → InCall b h m (rows ++ row.OidIssue (oid_no t.net.next.request) (Some request.request) request.binding request.kind request.code request.value ∷ []) calls log (tray.forwarded t request) x
in_forwarded {b} {h} {m} {rows} {calls} {log} {t} {x} request i =
    let parent : Option OidNo = Some request.request in
    in_still (issue t parent request.binding request.kind request.code request.value) (tray.forwarded t request) x i (valued_wrote t request) tt refl
    (still_asked t parent request.binding request.kind request.code request.value)
    (asked t.net (oid_no t.net.next.request) parent request.binding request.kind request.code request.value (hands_in h m t x) i.agrees)
    (record { front = i.sized.front; queue = i.sized.queue; loose = i.sized.loose; kept = i.sized.kept })
