-- What the miniport does when it is called: the rows that it writes are those of the rules, and what was worked is in
-- other hands.
use Rattle.std.proofs.Common.{◌≡◌, ℕ, ◌==◌, Bool, true, false, cond, List, [], ◌∷◌, ◌++◌, Option, Some, None, map, length, refl, sym, ap, ◌∙◌, subst, append_assoc, ne_eqb, eq-eqb}
use Rattle.std.proofs.lemmas.Bool.{cond-true}
use Rattle.ndis_base.specs.declared.ModuleId.{ModuleId}
use Rattle.ndis_base.specs.declared.ModuleId.TheVariants.{Miniport}
use Rattle.ndis_base.specs.declared.Direction.TheVariants as direction
use Rattle.ndis_base.specs.declared.ListNo.{ListNo}
use Rattle.ndis_base.specs.declared.ListStatus.{ListStatus}
use Rattle.ndis_base.specs.declared.ListStatus.TheVariants.{Success, Resources}
use Rattle.ndis_base.specs.declared.Origin.{Origin}
use Rattle.ndis_base.specs.declared.Origin.TheVariants as origin
use Rattle.journal_types.specs.declared.Handler.TheVariants as handler
use Rattle.journal_types.specs.declared.PassWay.{PassWay}
use Rattle.journal_types.specs.declared.PortSetup.{PortSetup}
use Rattle.journal_types.specs.declared.Row.{Row}
use Rattle.journal_types.specs.declared.Row.TheVariants as row
use Rattle.journal_types.specs.declared.Target.{Target}
use Rattle.buffer_pools.specs.Views.{ListView}
use Rattle.stack_rules.specs.declared.LiveList.{LiveList}
use Rattle.stack_rules.specs.Net.{Net, Modules, lists, list_of}
use Rattle.stack_rules.specs.Dones.{released, homeward_rows}
use Rattle.stack_rules.specs.Places.{kept_lists, position}
use Rattle.stack_rules.specs.Sends.{miniport_rows}
use Rattle.stack_rules.specs.Targets.{homeward_by}
use Rattle.stack_rules.specs.Tests.{same_module}
use Rattle.promise_rules.specs.declared.Call.{Call}
use Rattle.promise_rules.specs.declared.Called.TheVariants as called
use Rattle.promise_rules.specs.Calls.{call, home_call}
use Rattle.agenda_items.specs.declared.Carried.TheVariants.{List as a_list}
use Rattle.hand_lemmas.specs.Hands.{Common, Hands, in_state, in_hand}
use Rattle.hand_lemmas.specs.Frames.{AreSized}
use Rattle.hand_lemmas.proofs.Tells.{shown_length}
use Rattle.book_lemmas.specs.Leaves.{IsCalm}
use Rattle.book_lemmas.proofs.Standing.{plain_calm}
use Rattle.driver_views.specs.States.{MiniportState}
use Rattle.driver_tray.specs.Tray as tray
use Rattle.driver_tray.specs.Tray.{TrayView, Starts}
use Rattle.driver_calls.specs.Miniports.{Queues, keeps, fills, IsReturned}
use Rattle.call_lemmas.specs.InCall.{Beside, InCall}
use Rattle.call_lemmas.proofs.Bindings.{start_rows, in_started}
use Rattle.call_lemmas.proofs.Steps.{in_turned_back, in_passed_front, in_passed_kept, in_kept, in_spent, in_wired, homeward_is}

-- during a call the modules are those as it began
pub calm_in : {b : TrayView} {h : Hands} {m : ModuleId} {rows : List Row} {calls : List Call} {log : List (List (List ℕ))} {t : TrayView} {x : Beside} → InCall b h m rows calls log t x → IsCalm b.net t.net
calm_in {b} {h} {m} {rows} i = subst (IsCalm b.net) (sym i.net) (plain_calm b.net rows i.plain)

-- the row by which a list goes homewards from a module
abbrev pub home_row : Modules → ModuleId → Common → ListStatus → Row
home_row ms m c status = homeward_by ms c.list c.owner c.direction (position ms.order m) status

pub homeward_in : {b : TrayView} {h : Hands} {m : ModuleId} {rows : List Row} {calls : List Call} {log : List (List (List ℕ))} {t : TrayView} {x : Beside} (l : ListView) (status : ListStatus)
    → InCall b h m rows calls log t x → tray.homeward_row t l status ≡ home_row b.net.modules m (in_hand l) status
homeward_in {b} {h} {m} {rows} {calls} {log} {t} l status i =
    ap (λ ms. home_row ms t.caller (in_hand l) status) (calm_in i).modules ∙ ap (λ k. home_row b.net.modules k (in_hand l) status) i.caller

-- A send at the miniport.

-- the miniport keeps the list, or turns it back where its ring is full
abbrev pub queue_rows : Modules → Bool → Common → List Row
queue_rows ms full c = cond full (row.TurnBack c.list Miniport Resources ∷ home_row ms Miniport c Resources ∷ []) (row.Keep c.list Miniport ∷ [])

pub in_queued : {b : TrayView} {h : Hands} {rows : List Row} {calls : List Call} {log : List (List (List ℕ))} {t t' : TrayView} {loose kept' : List ListView} (l : ListView) (was : PassWay) (at : Target) (s : MiniportState) (p : PortSetup)
    → InCall b h Miniport rows calls log t (record { front = a_list l was at ∷ []; loose = loose; kept = s.kept }) → Queues s p l t kept' t'
    → InCall b h Miniport (rows ++ queue_rows b.net.modules (length s.kept == p.ring) (in_hand l)) calls log t' (record { front = []; loose = loose; kept = kept' })
in_queued {b} {h} {rows} {calls} {log} {t} {t'} {loose} {kept'} l was at s p i (keeps ne kept tray_is) =
    subst (λ full. InCall b h Miniport (rows ++ queue_rows b.net.modules full (in_hand l)) calls log t' (record { front = []; loose = loose; kept = kept' })) (sym (ne_eqb (length s.kept) p.ring ne))
    (subst (λ ls. InCall b h Miniport (rows ++ row.Keep l.label.number Miniport ∷ []) calls log t' (record { front = []; loose = loose; kept = ls })) (sym kept)
    (subst (λ (q : TrayView). InCall b h Miniport (rows ++ row.Keep l.label.number Miniport ∷ []) calls log q (record { front = []; loose = loose; kept = s.kept ++ l ∷ [] })) (sym tray_is)
    (in_kept l was at i)))
in_queued {b} {h} {rows} {calls} {log} {t} {t'} {loose} {kept'} l was at s p i (fills full kept tray_is) =
    let back = in_turned_back l.label.number Resources i in
    let t1 : TrayView = tray.written t (row.TurnBack l.label.number t.caller Resources) in
    let passed = in_passed_front l was at (tray.homeward_row t1 l Resources) back (homeward_is t1 l Resources) in
    let are : (rows ++ row.TurnBack l.label.number Miniport Resources ∷ []) ++ tray.homeward_row t1 l Resources ∷ [] ≡ rows ++ queue_rows b.net.modules true (in_hand l) =
    append_assoc rows (row.TurnBack l.label.number Miniport Resources ∷ []) (tray.homeward_row t1 l Resources ∷ [])
    ∙ ap (λ r. rows ++ row.TurnBack l.label.number Miniport Resources ∷ r ∷ []) (homeward_in l Resources back) in
    subst (λ b1. InCall b h Miniport (rows ++ queue_rows b.net.modules b1 (in_hand l)) calls log t' (record { front = []; loose = loose; kept = kept' })) (sym (eq-eqb (length s.kept) p.ring full))
    (subst (λ ls. InCall b h Miniport (rows ++ queue_rows b.net.modules true (in_hand l)) calls log t' (record { front = []; loose = loose; kept = ls })) (sym kept)
    (subst (λ (q : TrayView). InCall b h Miniport (rows ++ queue_rows b.net.modules true (in_hand l)) calls log q (record { front = []; loose = loose; kept = s.kept })) (sym tray_is)
    (subst (λ rs. InCall b h Miniport rs calls log (tray.turned_back t l Resources) (record { front = []; loose = loose; kept = s.kept })) are passed)))

-- these are the rows of the rules
pub queue_is : (net : Net) (x : LiveList) (l : ListView) (kept : List ListView) → in_state x ≡ in_hand l → map in_hand kept ≡ map in_state (kept_lists net Miniport)
    → row.Give l.label.number Miniport handler.Send ∷ queue_rows net.modules (length kept == net.head.port.ring) (in_hand l) ≡ miniport_rows net x
queue_is net x l kept same kept_is =
    ap (λ (c : Common). row.Give c.list Miniport handler.Send ∷ queue_rows net.modules (length kept == net.head.port.ring) c) (sym same)
    ∙ ap (λ n. row.Give x.list Miniport handler.Send ∷ queue_rows net.modules (n == net.head.port.ring) (in_state x)) (shown_length in_state in_hand (kept_lists net Miniport) kept kept_is)

-- One of the miniport's own lists is returned.

pub in_returned : {b : TrayView} {h : Hands} {rows : List Row} {calls : List Call} {log : List (List (List ℕ))} {t t' : TrayView} {loose kept : List ListView} (l : ListView) (was : PassWay) (at : Target) (status : ListStatus) (s s' : MiniportState)
    → InCall b h Miniport rows calls log t (record { front = a_list l was at ∷ []; loose = loose; kept = kept }) → l.label.owner ≡ Miniport → l.label.direction ≡ direction.Up → IsReturned s l status t s' t'
    → InCall b h Miniport (rows ++ row.Home l.label.number Miniport status ∷ []) (calls ++ call Miniport called.Returned) log t' (record { front = []; loose = loose; kept = kept })
in_returned {b} {h} {rows} {calls} {log} {t} {t'} {loose} {kept} l was at status s s' i own up r =
    subst (λ d. InCall b h Miniport (rows ++ row.Home l.label.number Miniport status ∷ []) (calls ++ home_call Miniport d) log t' (record { front = []; loose = loose; kept = kept })) up
    (subst (λ o. InCall b h Miniport (rows ++ row.Home l.label.number o status ∷ []) (calls ++ home_call o l.label.direction) log t' (record { front = []; loose = loose; kept = kept })) own
    (subst (λ (q : TrayView). InCall b h Miniport (rows ++ row.Home l.label.number l.label.owner status ∷ []) (calls ++ home_call l.label.owner l.label.direction) log q (record { front = []; loose = loose; kept = kept })) (sym r.tray)
    (in_spent l was at status t'.pool i own r.frees)))

-- a list that is no clone of a live list releases nothing
pub released_none : (net : Net) (m : ModuleId) (made : Origin) (status : ListStatus) → ((o : ListNo) (y : LiveList) → made ≡ origin.Clone o → list_of o.0 (lists net.things) ≡ Some y → ⊥) → released net m made status ≡ []
released_none net m origin.Root status none = refl
released_none net m (origin.Copy o) status none = refl
released_none net m (origin.Clone o) status none = by (list_of o.0 (lists net.things)) refl
  where
    by : (found : Option LiveList) → list_of o.0 (lists net.things) ≡ found → released net m (origin.Clone o) status ≡ []
    by None e = rw e refl
    by (Some y) e = absurd (none o y refl e)

pub returned_is : (net : Net) (x : LiveList) (l : ListView) (status : ListStatus) → in_state x ≡ in_hand l → l.label.owner ≡ Miniport
    → ((o : ListNo) (y : LiveList) → x.origin ≡ origin.Clone o → list_of o.0 (lists net.things) ≡ Some y → ⊥) → row.Home l.label.number Miniport status ∷ [] ≡ homeward_rows net x Miniport status
returned_is net x l status same own none =
    let owner : x.owner ≡ Miniport = ap (λ (c : Common). c.owner) same ∙ own in
    let more : released net x.owner x.origin status ≡ [] = released_none net x.owner x.origin status none in
    let mine : same_module Miniport x.owner ≡ true = ap (same_module Miniport) owner in
    ap (λ (c : Common). row.Home c.list Miniport status ∷ []) (sym same)
    ∙ ap (λ o. row.Home x.list o status ∷ []) (sym owner)
    ∙ ap (λ rs. row.Home x.list x.owner status ∷ rs) (sym more)
    ∙ sym (cond-true (same_module Miniport x.owner) _ _ mine)

-- The miniport transmits.

-- a list goes onto the wire and homewards, and where the adapter loops its frames are indicated in between
abbrev pub transmit_rows : Net → Bool → Common → List Row
transmit_rows net looping c = row.Wire c.list c.frames ∷ (cond looping (start_rows net Miniport direction.Up None c.frames) [] ++ home_row net.modules Miniport c Success ∷ [])

pub in_wired_home : {b : TrayView} {h : Hands} {t : TrayView} {loose rest : List ListView} (l : ListView)
    → InCall b h Miniport [] [] [] t (record { front = []; loose = loose; kept = l ∷ rest })
    → InCall b h Miniport (transmit_rows b.net false (in_hand l)) [] (l.frames ∷ []) (tray.passed_back (tray.wired t l) l Success) (record { front = []; loose = loose; kept = rest })
in_wired_home {b} {h} {t} {loose} {rest} l i =
    let wired = in_wired l i in
    let t1 : TrayView = tray.wired t l in
    subst (λ r. InCall b h Miniport (row.Wire l.label.number l.frames ∷ r ∷ []) [] (l.frames ∷ []) (tray.passed_back t1 l Success) (record { front = []; loose = loose; kept = rest })) (homeward_in l Success wired)
    (in_passed_kept [] rest l (tray.homeward_row t1 l Success) wired (homeward_is t1 l Success))

pub in_wired_looped : {b : TrayView} {h : Hands} {t : TrayView} {loose rest : List ListView} (l : ListView) (begun : TrayView)
    → InCall b h Miniport [] [] [] t (record { front = []; loose = loose; kept = l ∷ rest }) → AreSized l.frames → Starts (tray.wired t l) direction.Up None l.frames begun
    → InCall b h Miniport (transmit_rows t.net true (in_hand l)) [] (l.frames ∷ []) (tray.passed_back begun l Success) (record { front = []; loose = loose; kept = rest })
in_wired_looped {b} {h} {t} {loose} {rest} l begun i sized starts =
    let wired = in_wired l i in
    let started = in_started wired starts sized in
    subst (λ r. InCall b h Miniport (row.Wire l.label.number l.frames ∷ (start_rows t.net Miniport direction.Up None l.frames ++ r ∷ [])) [] (l.frames ∷ []) (tray.passed_back begun l Success) (record { front = []; loose = loose; kept = rest }))
    (homeward_in l Success started ∙ ap (λ ms. home_row ms Miniport (in_hand l) Success) (sym (calm_in i).modules))
    (in_passed_kept [] rest l (tray.homeward_row begun l Success) started (homeward_is begun l Success))
