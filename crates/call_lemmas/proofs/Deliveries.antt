-- A list is delivered to a binding: its protocol logs the frames and may send an echo, and the last one passes the list
-- back or keeps it.
use Rattle.std.proofs.Common.{◌≡◌, ◌≢◌, ℕ, ◌==◌, ◌&&◌, not, Bool, true, false, cond, List, [], ◌∷◌, ◌++◌, None, refl, sym, ap, ◌∙◌, subst, append_assoc, append-nil, eq-eqb, ne_eqb}
use Rattle.std.proofs.lemmas.Bool.{false≢true}
use Rattle.ndis_base.specs.declared.Direction.TheVariants.{Down}
use Rattle.ndis_base.specs.declared.ListStatus.TheVariants.{Success}
use Rattle.ndis_base.specs.declared.ModuleId.{ModuleId}
use Rattle.ndis_base.specs.declared.ModuleId.TheVariants.{Binding}
use Rattle.journal_types.specs.declared.How.{How}
use Rattle.journal_types.specs.declared.How.TheVariants.{Own, Lent}
use Rattle.journal_types.specs.declared.PassWay.{PassWay}
use Rattle.journal_types.specs.declared.Row.{Row}
use Rattle.journal_types.specs.declared.Row.TheVariants as row
use Rattle.journal_types.specs.declared.Target.{Target}
use Rattle.buffer_pools.specs.Views.{ListView, live_count}
use Rattle.stack_rules.specs.Net.{Net, Modules}
use Rattle.stack_rules.specs.Tests.{is_echo, is_retain}
use Rattle.promise_rules.specs.declared.Call.{Call}
use Rattle.promise_rules.specs.declared.Called.{Called}
use Rattle.promise_rules.specs.declared.Called.TheVariants as called
use Rattle.promise_rules.specs.Calls.{call, received_as}
use Rattle.agenda_items.specs.declared.Carried.{Carried}
use Rattle.agenda_items.specs.declared.Carried.TheVariants.{List as a_list}
use Rattle.driver_views.specs.States.{ProtocolState, Record, called_for, logs}
use Rattle.hand_lemmas.specs.Frames.{AreSized}
use Rattle.hand_lemmas.specs.Hands.{Common, Hands, in_hand}
use Rattle.driver_tray.specs.Tray as tray
use Rattle.driver_tray.specs.Tray.{TrayView}
use Rattle.driver_calls.specs.Protocols.{Echoes, IsLent, Settles, IsReceived}
use Rattle.driver_calls.specs.Protocols.Echoes.{silent, lacking, echoing}
use Rattle.driver_calls.specs.Protocols.Settles.{retains, returns}
use Rattle.call_lemmas.specs.InCall.{Beside, InCall}
use Rattle.call_lemmas.specs.Served.{Counts}
use Rattle.call_lemmas.proofs.Bindings.{start_rows, in_started}
use Rattle.call_lemmas.proofs.Miniports.{home_row, homeward_in}
use Rattle.call_lemmas.proofs.Served.{counts_call, counts_log, counts_then}
use Rattle.call_lemmas.proofs.Steps.{in_delivered, in_kept, in_passed_front, homeward_is}

-- whether a protocol sends an echo
abbrev pub does_echo : ProtocolState → TrayView → Bool
does_echo s t = is_echo s.kind && not (live_count t.pool == t.pool.size)

-- the rows of an echo
abbrev pub echo_rows : Net → ModuleId → Bool → List (List ℕ) → List Row
echo_rows net m does frames = cond does (start_rows net m Down None frames) []

both_are : (a b : Bool) → a ≡ true → b ≡ false → (a && not b) ≡ true
both_are a b e f = ap (λ x. x && not b) e ∙ ap not f

full_stops : (a b : Bool) → b ≡ true → (a && not b) ≡ false
full_stops true b e = ap not e
full_stops false b e = refl

pub in_echoed : {b : TrayView} {h : Hands} {m : ModuleId} {rows : List Row} {calls : List Call} {log : List (List (List ℕ))} {t t' : TrayView} {front : List Carried} {loose kept : List ListView} (s : ProtocolState) (l : ListView)
    → InCall b h m rows calls log t (record { front = front; loose = loose; kept = kept }) → AreSized l.frames → Echoes s l t t'
    → InCall b h m (rows ++ echo_rows t.net m (does_echo s t) l.frames) calls log t' (record { front = front; loose = loose; kept = kept })
in_echoed {b} {h} {m} {rows} {calls} {log} {t} {t'} {front} {loose} {kept} s l i sized (silent quiet same) =
    let none : does_echo s t ≡ false = ap (λ a. a && not (live_count t.pool == t.pool.size)) quiet in
    let is : rows ≡ rows ++ echo_rows t.net m (does_echo s t) l.frames = sym (append-nil rows) ∙ ap (λ e. rows ++ echo_rows t.net m e l.frames) (sym none) in
    subst (λ rs. InCall b h m rs calls log t' (record { front = front; loose = loose; kept = kept })) is
    (subst (λ (q : TrayView). InCall b h m rows calls log q (record { front = front; loose = loose; kept = kept })) (sym same) i)
in_echoed {b} {h} {m} {rows} {calls} {log} {t} {t'} {front} {loose} {kept} s l i sized (lacking echo full same) =
    let none : does_echo s t ≡ false = full_stops (is_echo s.kind) (live_count t.pool == t.pool.size) (eq-eqb (live_count t.pool) t.pool.size full) in
    let is : rows ≡ rows ++ echo_rows t.net m (does_echo s t) l.frames = sym (append-nil rows) ∙ ap (λ e. rows ++ echo_rows t.net m e l.frames) (sym none) in
    subst (λ rs. InCall b h m rs calls log t' (record { front = front; loose = loose; kept = kept })) is
    (subst (λ (q : TrayView). InCall b h m rows calls log q (record { front = front; loose = loose; kept = kept })) (sym same) i)
in_echoed {b} {h} {m} {rows} {calls} {log} {t} {t'} {front} {loose} {kept} s l i sized (echoing echo some starts) =
    let does : does_echo s t ≡ true = both_are (is_echo s.kind) (live_count t.pool == t.pool.size) echo (ne_eqb (live_count t.pool) t.pool.size some) in
    subst (λ e. InCall b h m (rows ++ echo_rows t.net m e l.frames) calls log t' (record { front = front; loose = loose; kept = kept })) (sym does) (in_started i starts sized)

-- the rows of a delivery, and the echo that follows it
abbrev pub taker_rows : Net → ListView → ℕ → How → Bool → List Row
taker_rows net l n how does = row.Deliver l.label.number n how l.frames ∷ echo_rows net (Binding n) does l.frames

-- a list that is lent
pub in_lent : {b : TrayView} {h : Hands} {n : ℕ} {t t' : TrayView} {front : List Carried} {loose kept : List ListView} (s s' : ProtocolState) (l : ListView)
    → InCall b h (Binding n) [] [] [] t (record { front = front; loose = loose; kept = kept }) → AreSized l.frames → IsLent called.ReceiveLent s l (tray.delivered t l n Lent) s' t'
    → InCall b h (Binding n) (taker_rows t.net l n Lent (does_echo s t)) (call (Binding n) called.ReceiveLent) (l.frames ∷ []) t' (record { front = front; loose = loose; kept = kept })
in_lent s s' l i sized lent = in_echoed s l (in_delivered l Lent i) sized lent.echo

-- its counts and its log
pub taker_counts : (n : ℕ) (what : Called) (l : ListView) (r : Record) → Counts (Binding n) (call (Binding n) what) (l.frames ∷ []) r (logs l.frames (called_for what r))
taker_counts n what l r = counts_then (Binding n) (call (Binding n) what) [] [] (l.frames ∷ []) r (called_for what r) (logs l.frames (called_for what r)) (counts_call (Binding n) what r) (counts_log (Binding n) l.frames (called_for what r))

-- a list that is the binding's own from now: it keeps it or passes it back
abbrev pub settle_rows : Modules → ℕ → Bool → Common → List Row
settle_rows ms n keeps c = cond keeps (row.Keep c.list (Binding n) ∷ []) (home_row ms (Binding n) c Success ∷ [])

-- the call once the list is settled; only a retain protocol keeps it
pub record InSettled (b : TrayView) (h : Hands) (n : ℕ) (rows : List Row) (calls : List Call) (log : List (List (List ℕ))) (s : ProtocolState) (l : ListView) (loose kept' : List ListView) (t' : TrayView) : Type 0 where
  pub keeps : Bool
  pub may : keeps ≡ true → is_retain s.kind ≡ true
  pub in_call : InCall b h (Binding n) (rows ++ settle_rows b.net.modules n keeps (in_hand l)) calls log t' (record { front = []; loose = loose; kept = kept' })

pub in_settled : {b : TrayView} {h : Hands} {n : ℕ} {rows : List Row} {calls : List Call} {log : List (List (List ℕ))} {t t' : TrayView} {loose kept' : List ListView} (s : ProtocolState) (l : ListView) (was : PassWay) (at : Target)
    → InCall b h (Binding n) rows calls log t (record { front = a_list l was at ∷ []; loose = loose; kept = s.kept }) → Settles s l t kept' t' → InSettled b h n rows calls log s l loose kept' t'
in_settled {b} {h} {n} {rows} {calls} {log} {t} {t'} {loose} {kept'} s l was at i (retains retain kept same) = record {
  keeps = true;
  may = λ e. retain;
  in_call = subst (λ ks. InCall b h (Binding n) (rows ++ row.Keep l.label.number (Binding n) ∷ []) calls log t' (record { front = []; loose = loose; kept = ks })) (sym kept)
      (subst (λ (q : TrayView). InCall b h (Binding n) (rows ++ row.Keep l.label.number (Binding n) ∷ []) calls log q (record { front = []; loose = loose; kept = s.kept ++ l ∷ [] })) (sym same) (in_kept l was at i));
}
in_settled {b} {h} {n} {rows} {calls} {log} {t} {t'} {loose} {kept'} s l was at i (returns kept same) = record {
  keeps = false;
  may = λ e. absurd (false≢true e);
  in_call = subst (λ ks. InCall b h (Binding n) (rows ++ home_row b.net.modules (Binding n) (in_hand l) Success ∷ []) calls log t' (record { front = []; loose = loose; kept = ks })) (sym kept)
      (subst (λ (q : TrayView). InCall b h (Binding n) (rows ++ home_row b.net.modules (Binding n) (in_hand l) Success ∷ []) calls log q (record { front = []; loose = loose; kept = s.kept })) (sym same)
      (subst (λ r. InCall b h (Binding n) (rows ++ r ∷ []) calls log (tray.passed_back t l Success) (record { front = []; loose = loose; kept = s.kept })) (homeward_in l Success i)
      (in_passed_front l was at (tray.homeward_row t l Success) i (homeward_is t l Success))));
}

-- a list that is delivered as the binding's own
pub in_received : {b : TrayView} {h : Hands} {n : ℕ} {t t' : TrayView} {loose : List ListView} (s s' : ProtocolState) (l : ListView) (was : PassWay) (at : Target)
    → InCall b h (Binding n) [] [] [] t (record { front = a_list l was at ∷ []; loose = loose; kept = s.kept }) → AreSized l.frames → IsReceived s l (tray.delivered t l n Own) s' t'
    → InSettled b h n (taker_rows t.net l n Own (does_echo s t)) (call (Binding n) called.Receive) (l.frames ∷ []) s l loose s'.kept t'
in_received s s' l was at i sized r = in_settled s l was at (in_echoed s l (in_delivered l Own i) sized r.echo) r.settles
