-- A binding's own lists: it sends one, and a pool of a binding changes hands.
use Rattle.std.proofs.Common.{◌≡◌, ℕ, ◌<◌, Bool, true, false, List, [], ◌∷◌, ◌++◌, Option, length, count_by, slice_set, length-set, refl, sym, ap, ◌∙◌, subst, append_assoc, append-nil, arith}
use Rattle.ndis_base.specs.declared.ModuleId.{ModuleId}
use Rattle.ndis_base.specs.declared.ModuleId.TheVariants.{Miniport, Filter, Binding}
use Rattle.ndis_base.specs.declared.Direction.{Direction}
use Rattle.journal_types.specs.declared.Row.{Row}
use Rattle.buffer_pools.specs.declared.label.Label.{Label}
use Rattle.buffer_pools.specs.Views.{ListView, PoolView}
use Rattle.stack_rules.specs.Net.{Net}
use Rattle.stack_rules.specs.Outcome.{root, list_no}
use Rattle.stack_rules.specs.Places.{position}
use Rattle.stack_rules.specs.Targets.{onward}
use Rattle.stack_rules.specs.Tests.{same_module}
use Rattle.promise_rules.specs.declared.Call.{Call}
use Rattle.promise_rules.specs.Calls.{is_call_of}
use Rattle.agenda_items.specs.declared.Carried.{Carried}
use Rattle.hand_lemmas.specs.Hands.{Hands, put_at}
use Rattle.hand_lemmas.specs.Frames.{AreSized}
use Rattle.hand_lemmas.proofs.Modules.{same_is}
use Rattle.book_lemmas.specs.Called.{IsCalled}
use Rattle.book_lemmas.specs.Did.{Did, IsServed, calls_in, logs_in}
use Rattle.book_lemmas.specs.Leaves.{Leaves}
use Rattle.book_lemmas.specs.Views.{HeldView, kept_of, held_pool}
use Rattle.book_lemmas.proofs.Keeps.{keeps_same}
use Rattle.book_lemmas.proofs.Called.{called_pool}
use Rattle.book_lemmas.proofs.Seats.{protocol_pooled}
use Rattle.driver_views.specs.States.{Record}
use Rattle.driver_tray.specs.Tray as tray
use Rattle.driver_tray.specs.Tray.{TrayView, Starts}
use Rattle.call_lemmas.specs.InCall.{Beside, InCall}
use Rattle.call_lemmas.proofs.Steps.{wrote, put_same, onward_is, in_issued, in_passed_loose}

-- the rows by which a module begins a new list of its own, in the words of the rules
abbrev pub start_rows : Net → ModuleId → Direction → Option ℕ → List (List ℕ) → List Row
start_rows net m direction cancel frames =
    root net net.next.list m direction cancel frames ∷ onward net.modules (list_no net.next.list) direction (position net.modules.order m) ∷ []

rows_are : (t : TrayView) (m : ModuleId) (direction : Direction) (cancel : Option ℕ) (made : List (List ℕ)) (l : ListView) (t1 : TrayView)
    → l.label ≡ tray.root_label t direction cancel → l.frames ≡ made → t.caller ≡ m → t1.net.modules ≡ t.net.modules → t1.caller ≡ t.caller
    → tray.issue_row l.label l.frames ∷ tray.onward_row t1 l ∷ [] ≡ start_rows t.net m direction cancel made
rows_are t m direction cancel made l t1 label frames caller modules same =
    ap (λ (k : Label). tray.issue_row k l.frames ∷ onward t1.net.modules k.number k.direction (position t1.net.modules.order t1.caller) ∷ []) label
    ∙ ap (λ fs. tray.issue_row (tray.root_label t direction cancel) fs ∷ onward t1.net.modules (list_no t.net.next.list) direction (position t1.net.modules.order t1.caller) ∷ []) frames
    ∙ ap (λ ms. tray.issue_row (tray.root_label t direction cancel) made ∷ onward ms (list_no t.net.next.list) direction (position ms.order t1.caller) ∷ []) modules
    ∙ ap (λ c. tray.issue_row (tray.root_label t direction cancel) made ∷ onward t.net.modules (list_no t.net.next.list) direction (position t.net.modules.order c) ∷ []) (same ∙ caller)
    ∙ ap (λ c. start_rows_by t c m direction cancel made) caller
  where
    start_rows_by : TrayView → ModuleId → ModuleId → Direction → Option ℕ → List (List ℕ) → List Row
    start_rows_by t c m direction cancel made = root t.net t.net.next.list c direction cancel made ∷ onward t.net.modules (list_no t.net.next.list) direction (position t.net.modules.order m) ∷ []

-- a new list of the module's own pool goes on its way
pub in_started : {b : TrayView} {h : Hands} {m : ModuleId} {rows : List Row} {calls : List Call} {log : List (List (List ℕ))} {t t' : TrayView} {front : List Carried} {loose kept : List ListView} {direction : Direction} {cancel : Option ℕ} {made : List (List ℕ)}
    → InCall b h m rows calls log t (record { front = front; loose = loose; kept = kept }) → Starts t direction cancel made t' → AreSized made
    → InCall b h m (rows ++ start_rows t.net m direction cancel made) calls log t' (record { front = front; loose = loose; kept = kept })
in_started {b} {h} {m} {rows} {calls} {log} {t} {t'} {front} {loose} {kept} {direction} {cancel} {made} i s sized =
    let l : ListView = s.list in
    let r : Row = tray.issue_row l.label l.frames in
    let t1 : TrayView = tray.written (record t { pool = t'.pool }) r in
    let own : l.label.owner ≡ m = ap (λ (k : Label). k.owner) s.label ∙ i.caller in
    let number : l.label.number.0 ≡ t.net.next.list = ap (λ (k : Label). k.number.0) s.label in
    let loosed = in_issued l t'.pool t1 i own number s.issues (subst AreSized (sym s.frames) sized) (wrote t r t.queue t.slack t'.pool (omega arith) s.issues.size s.issues.bytes) refl refl in
    let passed = in_passed_loose loose [] l (tray.onward_row t1 l) loosed (onward_is t1 l) in
    subst (λ (q : TrayView). InCall b h m (rows ++ start_rows t.net m direction cancel made) calls log q (record { front = front; loose = loose; kept = kept })) (sym s.tray)
    (subst (λ ls. InCall b h m (rows ++ start_rows t.net m direction cancel made) calls log (tray.started t l t'.pool) (record { front = front; loose = ls; kept = kept })) (append-nil loose)
    (subst (λ rs. InCall b h m rs calls log (tray.started t l t'.pool) (record { front = front; loose = loose ++ []; kept = kept }))
    (append_assoc rows (r ∷ []) (tray.onward_row t1 l ∷ []) ∙ ap (λ rs. rows ++ rs) (rows_are t m direction cancel made l t1 s.label s.frames i.caller refl refl)) passed))

-- only the pool of a binding changed
abbrev pub binding_pooled : HeldView → ℕ → PoolView → HeldView
binding_pooled held i pool = record held { protocol_pools = slice_set held.protocol_pools i pool }

pub pooled_is_called : (held : HeldView) (i : ℕ) (pool : PoolView) → i < length held.protocol_pools → IsCalled held (binding_pooled held i pool) (Binding i) (kept_of held (Binding i)) pool
pooled_is_called held i pool within = record { kept_is = kept; pool_is = protocol_pooled held i pool within }
  where
    same : (k : ModuleId) → kept_of (binding_pooled held i pool) k ≡ kept_of held k
    same Miniport = refl
    same (Filter f) = refl
    same (Binding j) = refl

    kept : (k : ModuleId) → kept_of (binding_pooled held i pool) k ≡ put_at (Binding i) (kept_of held (Binding i)) (kept_of held) k
    kept k = same k ∙ put_same (Binding i) (kept_of held (Binding i)) (kept_of held) refl k

pub pooled_leaves : (held : HeldView) (i : ℕ) (pool : PoolView) → i < length held.protocol_pools → pool.size ≡ (held_pool held (Binding i)).size → pool.bytes ≡ (held_pool held (Binding i)).bytes
    → Leaves held (binding_pooled held i pool)
pooled_leaves held i pool within size bytes = record {
  seats = refl;
  shelf = refl;
  port = refl;
  miniport_kind = refl;
  protocol_kinds = λ i. refl;
  protocols = refl;
  drivers = refl;
  opened = λ j. refl;
  kinds = λ q. refl;
  setups = λ q. refl;
  resting = λ q none. refl;
  protocol_pools = length-set held.protocol_pools i pool;
  filter_pools = refl;
  sizes = called_pool (λ (p : PoolView). p.size) (pooled_is_called held i pool within) size;
  bytes = called_pool (λ (p : PoolView). p.bytes) (pooled_is_called held i pool within) bytes;
}

-- rows that call nobody and log nothing
served_still : (m : ModuleId) (net : Net) (rows : List Row) (r : Record) → calls_in net rows ≡ [] → logs_in m rows ≡ [] → IsServed m net rows r r
served_still m net rows r none quiet = record {
  calls = λ what. omega (arith, ap (count_by (is_call_of m what)) none);
  log = sym (append-nil r.log) ∙ ap (λ ls. r.log ++ ls) (sym quiet);
}

quiet_by : (m k : ModuleId) (rows : List Row) (same : Bool) → same_module k m ≡ same → logs_in m rows ≡ [] → (same_module k m ≡ false → logs_in k rows ≡ []) → logs_in k rows ≡ []
quiet_by m k rows true e own others = ap (λ j. logs_in j rows) (same_is k m e) ∙ own
quiet_by m k rows false e own others = others e

quiet_all : {b : TrayView} {h : Hands} {m : ModuleId} {rows : List Row} {t : TrayView} {x : Beside} → InCall b h m rows [] [] t x → (k : ModuleId) → logs_in k rows ≡ []
quiet_all {b} {h} {m} {rows} i k = quiet_by m k rows (same_module k m) refl i.log_is (λ other. i.quiet k other)

pub did_still : {b : TrayView} {h : Hands} {m : ModuleId} {rows : List Row} {t : TrayView} {x : Beside} (seats : List (ℕ × ℕ)) (held : HeldView) (i : ℕ) (pool : PoolView) → InCall b h m rows [] [] t x
    → Did seats held (binding_pooled held i pool) b.net rows
did_still {b} {h} {m} {rows} seats held i pool c = record {
  miniport = served_still Miniport b.net rows _ c.calls_are (quiet_all c Miniport);
  protocols = λ j. served_still (Binding j) b.net rows _ c.calls_are (quiet_all c (Binding j));
  filters = λ f place seat. served_still (Filter f) b.net rows _ c.calls_are (quiet_all c (Filter f));
  shelved = λ place none. record { calls = λ what. refl; log = refl };
  keeps = keeps_same held (binding_pooled held i pool) (omega arith) refl;
}
