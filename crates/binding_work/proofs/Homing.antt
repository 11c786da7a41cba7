-- A send of a binding that is done is home, as the rules have it.
use Rattle.std.proofs.Common.{◌≡◌, ℕ, ◌≤◌, ◌<◌, ◌^◌, Bool, true, false, List, [], ◌∷◌, ◌++◌, Some, length, map, slice_index_or, slice_set, refl, sym, ap, ◌∙◌, subst, arith, get_or-set_same, ◌⊎◌, inl, inr, All}
use Rattle.std.proofs.lemmas.Bool.{cond-true, cases_lt}
use Rattle.std.proofs.lemmas.List.{map-set, get_or-map, get_or_past, length-map}
use Rattle.std.proofs.lemmas.List.Elements.{All-nil, All-cons, All-head, All-tail}
use Rattle.ndis_base.specs.declared.Direction.{Direction}
use Rattle.ndis_base.specs.declared.Direction.TheVariants as direction
use Rattle.ndis_base.specs.declared.ListNo.{ListNo}
use Rattle.ndis_base.specs.declared.ListStatus.{ListStatus}
use Rattle.ndis_base.specs.declared.ModuleId.{ModuleId}
use Rattle.ndis_base.specs.declared.ModuleId.TheVariants.{Filter, Binding}
use Rattle.ndis_base.specs.declared.Origin.TheVariants as origin
use Rattle.journal_types.specs.declared.Event.TheVariants as event
use Rattle.journal_types.specs.declared.PassWay.{PassWay}
use Rattle.journal_types.specs.declared.PassWay.TheVariants as way
use Rattle.journal_types.specs.declared.Reply.TheVariants as reply
use Rattle.journal_types.specs.declared.Row.{Row}
use Rattle.journal_types.specs.declared.Row.TheVariants as row
use Rattle.journal_types.specs.declared.StackHead.{StackHead}
use Rattle.journal_types.specs.declared.Target.{Target}
use Rattle.journal_types.specs.declared.Target.TheVariants.{Module}
use Rattle.buffer_pools.specs.Views.{ListView, PoolView, IsOf}
use Rattle.stack_rules.specs.declared.LiveList.{LiveList}
use Rattle.stack_rules.specs.declared.Stand.TheVariants as stand
use Rattle.stack_rules.specs.declared.Thing.TheVariants as thing
use Rattle.stack_rules.specs.Dones.{released, homeward_rows}
use Rattle.stack_rules.specs.Net.{Net, lists, list_of}
use Rattle.stack_rules.specs.Outcome.{Outcome}
use Rattle.stack_rules.specs.Places.{agenda_first, position}
use Rattle.stack_rules.specs.Pumps.{pump_of, pump_outcome, moved_rows}
use Rattle.stack_rules.specs.Tests.{is_down, same_module}
use Rattle.place_laws.specs.Kept.{HasOriginal}
use Rattle.pause_laws.proofs.Works.{each_away}
use Rattle.promise_rules.specs.declared.Call.{Call}
use Rattle.promise_rules.specs.declared.Called.TheVariants as called
use Rattle.promise_rules.specs.Calls.{call, home_call}
use Rattle.agenda_items.specs.declared.Carried.{Carried}
use Rattle.agenda_items.specs.declared.Carried.TheVariants.{List as a_list}
use Rattle.driver_views.specs.declared.Served.{Served}
use Rattle.driver_views.specs.States.{ProtocolState}
use Rattle.hand_lemmas.specs.Hands.{Common, in_hand, in_state}
use Rattle.hand_lemmas.proofs.Modules.{same_self}
use Rattle.hand_lemmas.proofs.Tells.{IsNext, next_list}
use Rattle.book_lemmas.specs.Between.{IsBetween}
use Rattle.book_lemmas.specs.Called.{IsCalled, protocol_called}
use Rattle.book_lemmas.specs.Stands.{IsCarriedSized}
use Rattle.book_lemmas.specs.Views.{BookView, HeldView, no_pool, no_protocol, held_pool, kept_of, hands_of}
use Rattle.book_lemmas.proofs.Between.{not_halted, listed, goes_done}
use Rattle.book_lemmas.proofs.Called.{protocol_is_called, protocol_leaves}
use Rattle.driver_tray.specs.Tray.{TrayView, Spends, spent}
use Rattle.driver_calls.specs.Protocols.{IsSentHome}
use Rattle.driver_calls.specs.Rooms.{CanCount}
use Rattle.call_lemmas.specs.InCall.{InCall}
use Rattle.call_lemmas.specs.Served.{Counts}
use Rattle.call_lemmas.proofs.Ends.{enters}
use Rattle.call_lemmas.proofs.Miniports.{released_none}
use Rattle.call_lemmas.proofs.Served.{counts_call, did_protocol}
use Rattle.call_lemmas.proofs.Steps.{in_spent}
use Rattle.homeward_laws.specs.Homeward.{LeadsTo}
use Rattle.homeward_laws.proofs.Targets.{first_bound}
use Rattle.book_parts.specs.Events.{IsBook, IsIdle, IsUnmoved, FirstIs}
use Rattle.binding_work.specs.Sends.{called_with}
use Rattle.binding_work.specs.Homes.{BeginsWithList, GoesToBinding, IsDoneFor, IsRoomed, IsReadyFor, MayComeHome, ComesHome, HasComeHome}
use Rattle.book_parts.proofs.Events.{Begins, begins_called, begins_roomed, begins_stands, did_event, ends_call, unmoved}
use Rattle.binding_work.proofs.Sending.{IsBound, IsDone, between, head_is, is_bound, any_choice}

-- an element at its place, and its state
any_default : {X : Type 0} (xs : List X) (i : ℕ) (d e : X) → i < length xs → slice_index_or xs i d ≡ slice_index_or xs i e
any_default xs i d e within = sym (get_or-map (λ x. x) xs i d d within) ∙ get_or-map (λ x. x) xs i e d within

pub old_at : {X S : Type 0} (f : X → S) (xs : List X) (i : ℕ) (d : S) (old : X) → i < length xs → old ≡ slice_index_or xs i old → slice_index_or (map f xs) i d ≡ f old
old_at f xs i d old within e = get_or-map f xs i old d within ∙ ap f (sym e)

pub place_is : {X : Type 0} (xs : List X) (i : ℕ) (d old : X) → i < length xs → old ≡ slice_index_or xs i old → slice_index_or xs i d ≡ old
place_is xs i d old within e = any_default xs i d old within ∙ sym e

pub new_at : {X S : Type 0} (f : X → S) (xs : List X) (i : ℕ) (d : S) (y : X) → i < length xs → slice_index_or (map f (slice_set xs i y)) i d ≡ f y
new_at f xs i d y within =
    ap (λ ys. slice_index_or ys i d) (map-set f xs i y) ∙ get_or-set_same (map f xs) i (f y) d (subst (λ n. i < n) (sym (length-map xs f)) within)

pub set_at : {X S : Type 0} (f : X → S) (xs : List X) (i : ℕ) (d : S) (y : X) → i < length xs → map f (slice_set xs i y) ≡ slice_set (map f xs) i (slice_index_or (map f (slice_set xs i y)) i d)
set_at f xs i d y within = map-set f xs i y ∙ ap (λ v. slice_set (map f xs) i v) (sym (new_at f xs i d y within))

-- the list that comes home is the binding's own send
pub record IsOwnSend (old : BookView) (l : ListView) (status : ListStatus) (binding : ℕ) : Type 0 where
  pub x : LiveList
  pub first : agenda_first old.tray.net ≡ Some (thing.List x)
  pub stands : x.stand ≡ stand.Passed (way.Done status) (Module (Binding binding))
  pub same : in_state x ≡ in_hand l
  pub owner : l.label.owner ≡ Binding binding
  pub down : l.label.direction ≡ direction.Down
  pub housed : IsOf (held_pool old.held (Binding binding)) l
  pub alone : (o : ListNo) (y : LiveList) → x.origin ≡ origin.Clone o → list_of o.0 (lists old.tray.net.things) ≡ Some y → ⊥

owner_by : (p : ℕ) (m owner : ModuleId) → (m ≡ owner) ⊎ (p < 0) → owner ≡ m
owner_by p m owner (inl e) = sym e
owner_by p m owner (inr low) = absurd (omega (arith, low))

down_is : (d : Direction) → is_down d ≡ true → d ≡ direction.Down
down_is direction.Down e = refl
down_is direction.Up e = cc
down_is direction.Lent e = cc

no_filter_owns : (f b : ℕ) (m : ModuleId) → m ≡ Filter f → m ≡ Binding b → ⊥
no_filter_owns f b m e g = cc

pub own_send : (old : BookView) (l : ListView) (status : ListStatus) (binding : ℕ) (rest : List Carried) → IsBook old → IsIdle old → old.tray.queue ≡ a_list l (way.Done status) (Module (Binding binding)) ∷ rest → IsOwnSend old l status binding
own_send old l status binding rest k i e =
    let b : IsBetween old.tray.head old.tray.turns old.tray.net = between old k i in
    let n : IsNext old.tray.net (hands_of old.tray.queue old.held []) l (way.Done status) (Module (Binding binding)) = next_list old.tray.net (hands_of old.tray.queue old.held []) l (way.Done status) (Module (Binding binding)) rest k.stands.agrees e in
    let same : in_state n.x ≡ in_hand l = ap in_state (sym n.is) ∙ n.mine.same in
    let done = goes_done b n.x (Binding binding) status n.first n.stand in
    let own : n.x.owner ≡ Binding binding = owner_by (position old.tray.net.modules.order n.x.owner) (Binding binding) n.x.owner done.1 in
    let owner : l.label.owner ≡ Binding binding = ap (λ (c : Common). c.owner) (sym same) ∙ own in
    let originals : HasOriginal old.tray.net n.x = each_away (HasOriginal old.tray.net) old.tray.net.things n.x (listed b (not_halted b (thing.List n.x) n.first)).originals n.first in
    record {
      x = n.x;
      first = n.first;
      stands = n.stand;
      same = same;
      owner = owner;
      down = down_is l.label.direction (ap (λ (c : Common). is_down c.direction) (sym same) ∙ done.0);
      housed = subst (λ m. IsOf (held_pool old.held m) l) owner n.mine.housed;
      alone = λ o y made found. let f = (originals o y made found).filter in no_filter_owns f.0 binding n.x.owner f.1 own;
    }

-- the rules take it home too
home_is : (net : Net) (x : LiveList) (l : ListView) (status : ListStatus) (m : ModuleId) → in_state x ≡ in_hand l → l.label.owner ≡ m
    → ((o : ListNo) (y : LiveList) → x.origin ≡ origin.Clone o → list_of o.0 (lists net.things) ≡ Some y → ⊥) → row.Home l.label.number l.label.owner status ∷ [] ≡ homeward_rows net x m status
home_is net x l status m same own none =
    let owner : x.owner ≡ m = ap (λ (c : Common). c.owner) same ∙ own in
    let more : released net x.owner x.origin status ≡ [] = released_none net x.owner x.origin status none in
    let mine : same_module m x.owner ≡ true = ap (same_module m) owner ∙ same_self m in
    ap (λ (c : Common). row.Home c.list c.owner status ∷ []) (sym same)
    ∙ ap (λ rs. row.Home x.list x.owner status ∷ rs) (sym more)
    ∙ sym (cond-true (same_module m x.owner) _ _ mine)

pub pump_is : (net : Net) (x : LiveList) (keeps : Bool) → agenda_first net ≡ Some (thing.List x) → pump_outcome net keeps ≡ record { reply = reply.Moved; rows = moved_rows net x x.stand keeps }
pump_is net x keeps first = ap (pump_of net keeps) first

-- the call in which the list comes home
abbrev InHomeBy : BookView → TrayView → ℕ → ListView → ListStatus → List Call → TrayView → Type 0
InHomeBy old t binding l status calls mid =
    InCall (called_with t (Binding binding) (held_pool old.held (Binding binding))) (hands_of ((a_list l (way.Done status) (Module (Binding binding)) ∷ []) ++ t.queue) old.held []) (Binding binding)
    (row.Home l.label.number l.label.owner status ∷ []) calls [] mid (record { front = []; loose = []; kept = kept_of old.held (Binding binding) })

home_event : (old : BookView) (t mid : TrayView) (binding : ℕ) (l : ListView) (status : ListStatus) (s' : ProtocolState) → IsBook old → IsIdle old → IsBound old binding → 1 ≤ t.room.turns
    → Begins old.tray t (a_list l (way.Done status) (Module (Binding binding)) ∷ []) → Spends (called_with t (Binding binding) (held_pool old.held (Binding binding))) l status mid
    → IsSentHome (slice_index_or old.held.protocols binding no_protocol) s'
    → IsDone old (record { tray = record mid { pool = t.pool }; held = protocol_called old.held binding s' mid.pool }) event.Pump reply.Moved
home_event old t mid binding l status s' k i b turns begins spends sent =
    let m : ModuleId = Binding binding in
    let pool : PoolView = held_pool old.held m in
    let front : List Carried = a_list l (way.Done status) (Module m) ∷ [] in
    let s : ProtocolState = slice_index_or old.held.protocols binding no_protocol in
    let o = own_send old l status binding t.queue k i begins.queue in
    let g = begins_called m pool begins in
    let stands = begins_stands k g in
    let sized : All IsCarriedSized (front ++ t.queue) = stands.sized.carried in
    let first : All IsCarriedSized front = All-cons IsCarriedSized (a_list l (way.Done status) (Module m)) [] (All-head IsCarriedSized (a_list l (way.Done status) (Module m)) t.queue sized) (All-nil IsCarriedSized) in
    let entered = enters (called_with t m pool) old.held m front [] stands refl refl first (All-tail IsCarriedSized (a_list l (way.Done status) (Module m)) t.queue sized) in
    let done = in_spent l (way.Done status) (Module m) status mid.pool entered o.owner spends.frees in
    let rows : List Row = row.Home l.label.number l.label.owner status ∷ [] in
    let calls : home_call l.label.owner l.label.direction ≡ call m called.SendComplete = ap (λ w. home_call w l.label.direction) o.owner ∙ ap (home_call m) o.down in
    let did : InHomeBy old t binding l status (call m called.SendComplete) mid = subst (InHomeBy old t binding l status (call m called.SendComplete)) (sym spends.tray)
    (subst (λ cs. InHomeBy old t binding l status cs (spent (called_with t m pool) l status mid.pool)) calls done) in
    let ends = ends_call (protocol_called old.held binding s' mid.pool) t.pool k g did
    (subst (λ ks. IsCalled old.held (protocol_called old.held binding s' mid.pool) m ks mid.pool) (ap (λ (x : ProtocolState). x.kept) sent.same) (protocol_is_called old.held binding s' mid.pool b.protocols b.pools))
    (protocol_leaves old.held binding s' mid.pool b.protocols b.pools (ap (λ (x : ProtocolState). x.kind) sent.same) (ap (λ (x : ProtocolState). x.is_open) sent.same) did.size did.bytes) k.stands.ring
    (did_protocol old.held s' mid.pool did b.protocols (refl, tt) (subst (λ (x : ProtocolState). Counts m (call m called.SendComplete) [] s.did x.did) (sym sent.same) (counts_call m called.SendComplete s.did))) in
    let outcome_is = pump_is old.tray.net o.x false o.first in
    record {
      did = did_event old _ rows event.Pump any_choice reply.Moved k i ends (sym (ap (λ (q : Outcome). q.reply) outcome_is))
          (home_is old.tray.net o.x l status m o.same o.owner o.alone ∙ ap (λ st. moved_rows old.tray.net o.x st false) (sym o.stands) ∙ sym (ap (λ (q : Outcome). q.rows) outcome_is)) refl tt (refl, refl);
      turn = record { room = omega (arith, turns, did.used.turns) };
    }

-- a send of a binding came home
pub homed_event : (old : BookView) (t : TrayView) (new : BookView) (binding : ℕ) (l : ListView) (status : ListStatus) → IsBook old → IsIdle old → IsBound old binding → 1 ≤ t.room.turns
    → Begins old.tray t (a_list l (way.Done status) (Module (Binding binding)) ∷ [])
    → ComesHome binding l status (slice_index_or old.held.protocols binding no_protocol) t (slice_index_or old.held.protocol_pools binding no_pool) (slice_index_or new.held.protocols binding no_protocol) new.tray (slice_index_or new.held.protocol_pools binding no_pool)
    → new.held ≡ protocol_called old.held binding (slice_index_or new.held.protocols binding no_protocol) (slice_index_or new.held.protocol_pools binding no_pool) → IsDone old new event.Pump reply.Moved
homed_event old t new binding l status k i b turns begins c held =
    subst (λ (v : BookView). IsDone old v event.Pump reply.Moved) (book_is c.tray (held ∙ ap (protocol_called old.held binding (slice_index_or new.held.protocols binding no_protocol)) c.pool_is))
    (home_event old t c.mid binding l status (slice_index_or new.held.protocols binding no_protocol) k i b turns begins c.spends c.sent)
  where
    book_is : {new : BookView} {t : TrayView} {h : HeldView} → new.tray ≡ t → new.held ≡ h → record { tray = t; held = h } ≡ new
    book_is {new} {t} {h} e f = ap (λ x. record { tray = x; held = h }) (sym e) ∙ ap (λ x. record { tray = new.tray; held = x }) (sym f)

-- a list that is housed at a binding is of a binding that is there
housed_there : (pools : List PoolView) (binding : ℕ) (l : ListView) → IsOf (slice_index_or pools binding no_pool) l → (binding < length pools) ⊎ (length pools ≤ binding) → binding < length pools
housed_there pools binding l o (inl low) = low
housed_there pools binding l o (inr high) = absurd (no_live l (subst (λ p. IsOf p l) (get_or_past pools binding no_pool high) o))
  where
    no_live : (l : ListView) → IsOf no_pool l → ⊥
    no_live l o = let some = o.live in cc

-- a list goes to a binding as a send that is done
done_by : (v : BookView) (binding : ℕ) (by : PassWay) → FirstIs v by (Module (Binding binding)) → LeadsTo by (Binding binding) → IsDoneFor v binding
done_by v binding way.Down f leads = absurd leads
done_by v binding way.Up f leads = absurd leads
done_by v binding (way.Done status) f leads = record { status = status; first = f }
done_by v binding (way.Back status) f leads = absurd leads

pub goes_as_done : (old : BookView) (binding : ℕ) → IsBook old → IsIdle old → GoesToBinding old binding → IsDoneFor old binding
goes_as_done old binding k i g =
    let b : IsBetween old.tray.head old.tray.turns old.tray.net = between old k i in
    let n = next_list old.tray.net (hands_of old.tray.queue old.held []) g.first.list g.by (Module (Binding binding)) g.first.rest k.stands.agrees g.first.first in
    done_by old binding g.by g.first (first_bound old.tray.head old.tray.turns old.tray.net b.is b.sound b.bound n.x g.by (Binding binding) n.first n.stand).1

pub done_there : (old : BookView) (binding : ℕ) → IsBook old → IsIdle old → IsDoneFor old binding → IsBound old binding
done_there old binding k i d =
    let o = own_send old d.first.list d.status binding d.first.rest k i d.first.first in
    let low : binding < length old.held.protocol_pools = housed_there old.held.protocol_pools binding d.first.list o.housed (cases_lt binding (length old.held.protocol_pools)) in
    is_bound old binding k i (subst (λ n. binding < n) (k.stands.protocol_pools ∙ ap (λ (h : StackHead). length h.bindings) (head_is old k i)) low)

-- the list that was taken is the one that is done
pub record IsTakenDone (binding : ℕ) (old t : TrayView) (l : ListView) (w : PassWay) (to : Target) : Type 0 where
  pub status : ListStatus
  pub way_is : w ≡ way.Done status
  pub to_is : to ≡ Module (Binding binding)

pub taken_done : (v : BookView) (t : TrayView) (binding : ℕ) (l : ListView) (w : PassWay) (to : Target) → IsDoneFor v binding → v.tray ≡ record t { queue = a_list l w to ∷ t.queue } → IsTakenDone binding v.tray t l w to
taken_done v t binding l w to d e =
    let queue : v.tray.queue ≡ a_list l w to ∷ t.queue = ap (λ (x : TrayView). x.queue) e in
    let first : v.tray.queue ≡ a_list d.first.list (way.Done d.status) (Module (Binding binding)) ∷ d.first.rest = d.first.first in
    let way_is : w ≡ way.Done d.status = cc in
    let to_is : to ≡ Module (Binding binding) = cc in
    record { status = d.status; way_is = way_is; to_is = to_is }

pub taken_so : (v : BookView) (t : TrayView) (binding : ℕ) (l : ListView) (w : PassWay) (to : Target) (status : ListStatus) → IsDoneFor v binding → v.tray ≡ record t { queue = a_list l w to ∷ t.queue } → w ≡ way.Done status
    → v.tray ≡ record t { queue = a_list l (way.Done status) (Module (Binding binding)) ∷ t.queue }
taken_so v t binding l w to status d e is =
    let taken = taken_done v t binding l w to d e in
    e ∙ ap (λ x. record t { queue = a_list l x to ∷ t.queue }) is ∙ ap (λ x. record t { queue = a_list l (way.Done status) x ∷ t.queue }) taken.to_is

pub may_come_home : (v : BookView) (t : TrayView) (binding : ℕ) (l : ListView) (w : PassWay) (to : Target) (status : ListStatus) → IsBook v → IsIdle v → IsDoneFor v binding → v.tray ≡ record t { queue = a_list l w to ∷ t.queue } → w ≡ way.Done status
    → 1 ≤ v.tray.room.rows → CanCount called.SendComplete (slice_index_or v.held.protocols binding no_protocol).did.served
    → MayComeHome (slice_index_or v.held.protocols binding no_protocol) l t (slice_index_or v.held.protocol_pools binding no_pool)
may_come_home v t binding l w to status k i d e is rows count =
    let so = taken_so v t binding l w to status d e is in
    record {
      count = count;
      own = (own_send v l status binding t.queue k i (ap (λ (x : TrayView). x.queue) so)).housed;
      rows = subst (λ (x : TrayView). 1 ≤ x.room.rows) so rows;
    }

-- the book with more room
pub roomed_unmoved : (old new : BookView) → IsBook old → IsRoomed old new → IsUnmoved old new
roomed_unmoved old new k r =
    subst (IsUnmoved old) (ap (λ h. record { tray = new.tray; held = h }) (sym r.held)) (unmoved new.tray k (begins_roomed old.tray new.tray r.tray r.covers r.slack))

pub roomed_idle : (old new : BookView) → IsIdle old → IsRoomed old new → IsIdle new
roomed_idle old new i r = record { rows = ap (λ (t : TrayView). t.rows) r.tray ∙ i.rows; told_by = ap (λ (t : TrayView). t.told_by) r.tray ∙ i.told_by }

pub roomed_done : (old new : BookView) (binding : ℕ) → IsDoneFor old binding → IsRoomed old new → IsDoneFor new binding
roomed_done old new binding d r = record { status = d.status; first = record { list = d.first.list; rest = d.first.rest; first = ap (λ (t : TrayView). t.queue) r.tray ∙ d.first.first } }

-- the whole event
pub owner_event : (old mid new : BookView) (binding : ℕ) → IsBook old → IsIdle old → IsDoneFor old binding → IsReadyFor binding old mid → HasComeHome binding mid new → IsDone old new event.Pump reply.Moved
owner_event old mid new binding k i d r c =
    let g = begins_roomed old.tray mid.tray r.roomed.tray r.roomed.covers r.roomed.slack in
    homed_event old c.taken new binding c.list c.status k i (done_there old binding k i d) (subst (λ (t : TrayView). 1 ≤ t.room.turns) c.takes r.turns)
    (begins_taken old.tray c.taken (a_list c.list (way.Done c.status) (Module (Binding binding))) (subst (λ (t : TrayView). Begins old.tray t []) c.takes g))
    (subst (λ (h : HeldView). ComesHome binding c.list c.status (slice_index_or h.protocols binding no_protocol) c.taken (slice_index_or h.protocol_pools binding no_pool) (slice_index_or new.held.protocols binding no_protocol) new.tray (slice_index_or new.held.protocol_pools binding no_pool)) r.roomed.held c.home)
    (subst (λ (h : HeldView). new.held ≡ protocol_called h binding (slice_index_or new.held.protocols binding no_protocol) (slice_index_or new.held.protocol_pools binding no_pool)) r.roomed.held c.held)
  where
    begins_taken : (old t : TrayView) (c : Carried) → Begins old (record t { queue = c ∷ t.queue }) [] → Begins old t (c ∷ [])
    begins_taken old t c g = record {
      head = g.head;
      turns = g.turns;
      told_by = g.told_by;
      net = g.net;
      rows = g.rows;
      queue = g.queue;
      used = record { rows_used = g.used.rows_used; frames = g.used.frames; bytes = g.used.bytes; slack = g.used.slack; turns = g.used.turns; payloads = g.used.payloads };
    }

pub has_come_home : (v : BookView) (t : TrayView) (new : BookView) (binding : ℕ) (l : ListView) (w : PassWay) (to : Target) (status : ListStatus) → IsDoneFor v binding → v.tray ≡ record t { queue = a_list l w to ∷ t.queue } → w ≡ way.Done status
    → ComesHome binding l status (slice_index_or v.held.protocols binding no_protocol) t (slice_index_or v.held.protocol_pools binding no_pool) (slice_index_or new.held.protocols binding no_protocol) new.tray (slice_index_or new.held.protocol_pools binding no_pool)
    → new.held.protocols ≡ slice_set v.held.protocols binding (slice_index_or new.held.protocols binding no_protocol)
    → new.held.protocol_pools ≡ slice_set v.held.protocol_pools binding (slice_index_or new.held.protocol_pools binding no_pool)
    → new.held ≡ record v.held { protocols = new.held.protocols; protocol_pools = new.held.protocol_pools } → HasComeHome binding v new
has_come_home v t new binding l w to status d e is home protocols pools same = record {
  list = l;
  status = status;
  taken = t;
  takes = taken_so v t binding l w to status d e is;
  home = home;
  held = same ∙ ap (λ ps. record v.held { protocols = ps; protocol_pools = new.held.protocol_pools }) protocols
      ∙ ap (λ ps. record v.held { protocols = slice_set v.held.protocols binding (slice_index_or new.held.protocols binding no_protocol); protocol_pools = ps }) pools;
}

-- a count that is far from its end
pub count_at : (p s : ProtocolState) (served : Served) → p ≡ s → served ≡ s.did.served → served.send_complete < 2 ^ 60 → CanCount called.SendComplete p.did.served
count_at p s served same is low =
    let here : p.did.served.send_complete ≡ served.send_complete = ap (λ (x : ProtocolState). x.did.served.send_complete) same ∙ ap (λ (x : Served). x.send_complete) (sym is) in
    omega (arith, here, low)

pub begins_with : (v : BookView) (binding : ℕ) → IsDoneFor v binding → BeginsWithList v.tray.queue
begins_with v binding d = record { list = d.first.list; way = way.Done d.status; to = Module (Binding binding); rest = d.first.rest; is = d.first.first }
