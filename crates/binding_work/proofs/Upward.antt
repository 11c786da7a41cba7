-- A receive that goes back from the bindings, as the rules have it.
use Rattle.std.proofs.Common.{◌≡◌, ◌≤◌, ◌<◌, Bool, true, false, cond, List, [], ◌∷◌, ◌++◌, length, slice_set, refl, sym, ap, ◌∙◌, subst, arith, All}
use Rattle.std.proofs.lemmas.Bool.{false≢true}
use Rattle.std.proofs.lemmas.List.Elements.{All-nil, All-cons, All-head, All-tail}
use Rattle.ndis_base.specs.declared.ListStatus.TheVariants.{Success, Paused}
use Rattle.ndis_base.specs.declared.ModuleId.{ModuleId}
use Rattle.ndis_base.specs.declared.ModuleId.TheVariants.{Binding}
use Rattle.journal_types.specs.declared.Event.TheVariants as event
use Rattle.journal_types.specs.declared.How.TheVariants.{Own}
use Rattle.journal_types.specs.declared.PassWay.{PassWay}
use Rattle.journal_types.specs.declared.PassWay.TheVariants as way
use Rattle.journal_types.specs.declared.Reply.TheVariants as reply
use Rattle.journal_types.specs.declared.Row.{Row}
use Rattle.journal_types.specs.declared.Row.TheVariants as row
use Rattle.journal_types.specs.declared.Target.{Target}
use Rattle.journal_types.specs.declared.Target.TheVariants.{Bindings}
use Rattle.buffer_pools.specs.Views.{ListView, PoolView}
use Rattle.stack_rules.specs.declared.LiveList.{LiveList}
use Rattle.stack_rules.specs.Deliveries.{takers, delivered, settled, last_of, delivery_rows}
use Rattle.stack_rules.specs.Net.{Net}
use Rattle.stack_rules.specs.Outcome.{Outcome}
use Rattle.stack_rules.specs.Pumps.{moved_rows}
use Rattle.stack_rules.specs.Receives.{up_rows}
use Rattle.stack_rules.specs.Tests.{phase_is_running}
use Rattle.agenda_items.specs.declared.Carried.{Carried}
use Rattle.agenda_items.specs.declared.Carried.TheVariants.{List as a_list}
use Rattle.hand_lemmas.specs.Hands.{Common, in_hand, in_state}
use Rattle.hand_lemmas.proofs.Tells.{IsNext, next_list}
use Rattle.book_lemmas.specs.Called.{IsCalled}
use Rattle.book_lemmas.specs.Stands.{IsCarriedSized}
use Rattle.book_lemmas.specs.Views.{BookView, HeldView, held_pool, kept_of, hands_of}
use Rattle.driver_tray.specs.Tray as tray
use Rattle.driver_tray.specs.Tray.{TrayView}
use Rattle.call_lemmas.specs.InCall.{InCall}
use Rattle.call_lemmas.proofs.Bindings.{pooled_is_called, pooled_leaves, did_still}
use Rattle.call_lemmas.proofs.Ends.{enters}
use Rattle.call_lemmas.proofs.Miniports.{home_row, homeward_in}
use Rattle.call_lemmas.proofs.Steps.{in_turned_back, in_passed_front, homeward_is}
use Rattle.book_parts.specs.Events.{IsBook, IsIdle, FirstIs}
use Rattle.book_parts.proofs.Events.{Begins, begins_called, begins_roomed, begins_stands, did_event, ends_call}
use Rattle.binding_work.specs.Sends.{called_with, binding_pooled}
use Rattle.binding_work.specs.Homes.{BeginsWithList, IsRoomed}
use Rattle.binding_work.specs.Ups.{gone_back, IsReadyToReturn, HasGoneBack, IsUntaken}
use Rattle.binding_work.proofs.Homing.{pump_is}
use Rattle.binding_work.proofs.Sending.{IsBound, IsDone, is_bound, any_choice}

-- there is a first binding
pub first_bound : (old : BookView) → IsBook old → IsIdle old → IsBound old 0
first_bound old k i = is_bound old 0 k i (omega (arith, k.bound))

-- the rows by which it goes back
abbrev back_rows : Net → Bool → Common → List Row
back_rows net true c = home_row net.modules (Binding 0) c Success ∷ []
back_rows net false c = row.TurnBack c.list (Binding 0) Paused ∷ home_row net.modules (Binding 0) c Paused ∷ []

abbrev first_up : ListView → List Carried
first_up l = a_list l way.Up Bindings ∷ []

abbrev InBack : BookView → TrayView → ListView → List Row → TrayView → List Carried → Type 0
InBack old t l rows mid front =
    InCall (called_with t (Binding 0) (held_pool old.held (Binding 0))) (hands_of (first_up l ++ t.queue) old.held []) (Binding 0) rows [] [] mid (record { front = front; loose = []; kept = kept_of old.held (Binding 0) })

in_back : (old : BookView) (t : TrayView) (l : ListView) (running : Bool) → InBack old t l [] (called_with t (Binding 0) (held_pool old.held (Binding 0))) (first_up l)
    → InBack old t l (back_rows t.net running (in_hand l)) (gone_back running t (held_pool old.held (Binding 0)) l) []
in_back old t l true i =
    let t0 : TrayView = called_with t (Binding 0) (held_pool old.held (Binding 0)) in
    subst (λ r. InBack old t l (r ∷ []) (tray.passed_back t0 l Success) []) (homeward_in l Success i) (in_passed_front l way.Up Bindings (tray.homeward_row t0 l Success) i (homeward_is t0 l Success))
in_back old t l false i =
    let t0 : TrayView = called_with t (Binding 0) (held_pool old.held (Binding 0)) in
    let t1 : TrayView = tray.written t0 (row.TurnBack l.label.number (Binding 0) Paused) in
    let back = in_turned_back l.label.number Paused i in
    subst (λ r. InBack old t l (row.TurnBack l.label.number (Binding 0) Paused ∷ r ∷ []) (tray.turned_back t0 l Paused) []) (homeward_in l Paused back) (in_passed_front l way.Up Bindings (tray.homeward_row t1 l Paused) back (homeward_is t1 l Paused))

-- the rules have these rows
up_is : (net : Net) (x : LiveList) (l : ListView) (running : Bool) → in_state x ≡ in_hand l → phase_is_running net.phase ≡ running → (running ≡ true → takers net x.frames ≡ []) → back_rows net running (in_hand l) ≡ up_rows net x Bindings false
up_is net x l true same phase none =
    ap (λ (c : Common). back_rows net true c) (sym same)
    ∙ ap (λ ts. delivered net x.list x.frames Own net.next.list ts ++ settled net x false (last_of ts)) (sym (none refl))
    ∙ ap (λ b. cond b (delivery_rows net x false) (back_rows net false (in_state x))) (sym phase)
up_is net x l false same phase none =
    ap (λ (c : Common). back_rows net false c) (sym same) ∙ ap (λ b. cond b (delivery_rows net x false) (back_rows net false (in_state x))) (sym phase)

back_event : (old : BookView) (t : TrayView) (l : ListView) (running : Bool) → IsBook old → IsIdle old → 1 ≤ t.room.turns → Begins old.tray t (first_up l) → phase_is_running old.tray.net.phase ≡ running
    → (running ≡ true → takers old.tray.net l.frames ≡ [])
    → IsDone old (record { tray = record (gone_back running t (held_pool old.held (Binding 0)) l) { pool = t.pool }; held = binding_pooled old.held 0 (held_pool old.held (Binding 0)) }) event.Pump reply.Moved
back_event old t l running k i turns begins phase none =
    let m : ModuleId = Binding 0 in
    let pool : PoolView = held_pool old.held m in
    let b = first_bound old k i in
    let n : IsNext old.tray.net (hands_of old.tray.queue old.held []) l way.Up Bindings = next_list old.tray.net (hands_of old.tray.queue old.held []) l way.Up Bindings t.queue k.stands.agrees begins.queue in
    let same : in_state n.x ≡ in_hand l = ap in_state (sym n.is) ∙ n.mine.same in
    let g = begins_called m pool begins in
    let stands = begins_stands k g in
    let sized : All IsCarriedSized (first_up l ++ t.queue) = stands.sized.carried in
    let first : All IsCarriedSized (first_up l) = All-cons IsCarriedSized (a_list l way.Up Bindings) [] (All-head IsCarriedSized (a_list l way.Up Bindings) t.queue sized) (All-nil IsCarriedSized) in
    let call = in_back old t l running (enters (called_with t m pool) old.held m (first_up l) [] stands refl refl first (All-tail IsCarriedSized (a_list l way.Up Bindings) t.queue sized)) in
    let out = back_pool running t pool l in
    let ends = ends_call (binding_pooled old.held 0 pool) t.pool k g call
    (subst (λ p. IsCalled old.held (binding_pooled old.held 0 pool) m (kept_of old.held m) p) (sym out) (pooled_is_called old.held 0 pool b.pools)) (pooled_leaves old.held 0 pool b.pools refl refl) k.stands.ring
    (did_still old.held.seats old.held 0 pool call) in
    let outcome_is = pump_is old.tray.net n.x false n.first in
    record {
      did = did_event old _ _ event.Pump any_choice reply.Moved k i ends (sym (ap (λ (q : Outcome). q.reply) outcome_is))
          (ap (λ (q : Net). back_rows q running (in_hand l)) begins.net
          ∙ up_is old.tray.net n.x l running same phase (λ e. ap (λ (c : Common). takers old.tray.net c.frames) same ∙ none e)
          ∙ ap (λ st. moved_rows old.tray.net n.x st false) (sym n.stand) ∙ sym (ap (λ (q : Outcome). q.rows) outcome_is)) refl tt (refl, refl);
      turn = record { room = omega (arith, turns, call.used.turns) };
    }
  where
    back_pool : (running : Bool) (t : TrayView) (pool : PoolView) (l : ListView) → (gone_back running t pool l).pool ≡ pool
    back_pool true t pool l = refl
    back_pool false t pool l = refl

-- the list that was taken goes up
pub taken_up : (v : BookView) (t : TrayView) (l : ListView) (w : PassWay) (to : Target) → FirstIs v way.Up Bindings → v.tray ≡ record t { queue = a_list l w to ∷ t.queue } → v.tray ≡ record t { queue = a_list l way.Up Bindings ∷ t.queue }
taken_up v t l w to d e =
    let queue : v.tray.queue ≡ a_list l w to ∷ t.queue = ap (λ (x : TrayView). x.queue) e in
    let first : v.tray.queue ≡ a_list d.list way.Up Bindings ∷ d.rest = d.first in
    let way_is : w ≡ way.Up = cc in
    let to_is : to ≡ Bindings = cc in
    e ∙ ap (λ x. record t { queue = a_list l x to ∷ t.queue }) way_is ∙ ap (λ x. record t { queue = a_list l way.Up x ∷ t.queue }) to_is

pub first_begins : (v : BookView) (w : PassWay) (to : Target) → FirstIs v w to → BeginsWithList v.tray.queue
first_begins v w to d = record { list = d.list; way = w; to = to; rest = d.rest; is = d.first }

pub up_roomed : (old new : BookView) (w : PassWay) (to : Target) → FirstIs old w to → IsRoomed old new → FirstIs new w to
up_roomed old new w to d r = record { list = d.list; rest = d.rest; first = ap (λ (t : TrayView). t.queue) r.tray ∙ d.first }

-- the whole event
pub up_event : (old mid new : BookView) (running : Bool) → IsBook old → IsIdle old → IsReadyToReturn old mid → HasGoneBack running mid new → phase_is_running old.tray.net.phase ≡ running → (running ≡ true → IsUntaken old) → IsDone old new event.Pump reply.Moved
up_event old mid new running k i r c phase none =
    let g = begins_roomed old.tray mid.tray r.roomed.tray r.roomed.covers r.roomed.slack in
    let begins = begins_taken old.tray c.taken (a_list c.list way.Up Bindings) (subst (λ (t : TrayView). Begins old.tray t []) c.takes g) in
    let held : new.held ≡ binding_pooled old.held 0 (held_pool old.held (Binding 0)) = c.held ∙ ap (λ (h : HeldView). binding_pooled h 0 (held_pool h (Binding 0))) r.roomed.held in
    let tray_is : new.tray ≡ record (gone_back running c.taken (held_pool old.held (Binding 0)) c.list) { pool = c.taken.pool } = c.tray ∙ ap (λ (h : HeldView). record (gone_back running c.taken (held_pool h (Binding 0)) c.list) { pool = c.taken.pool }) r.roomed.held in
    subst (λ (v : BookView). IsDone old v event.Pump reply.Moved) (book_is tray_is held)
    (back_event old c.taken c.list running k i (subst (λ (t : TrayView). 1 ≤ t.room.turns) c.takes r.turns) begins phase (λ e. none e c.list c.taken.queue begins.queue))
  where
    begins_taken : (old t : TrayView) (c : Carried) → Begins old (record t { queue = c ∷ t.queue }) [] → Begins old t (c ∷ [])
    begins_taken old t c g = record {
      head = g.head;
      turns = g.turns;
      told_by = g.told_by;
      net = g.net;
      rows = g.rows;
      queue = g.queue;
      used = record { rows_used = g.used.rows_used; frames = g.used.frames; bytes = g.used.bytes; slack = g.used.slack; turns = g.used.turns; payloads = g.used.payloads };
    }

    book_is : {new : BookView} {t : TrayView} {h : HeldView} → new.tray ≡ t → new.held ≡ h → record { tray = t; held = h } ≡ new
    book_is {new} {t} {h} e f = ap (λ x. record { tray = x; held = h }) (sym e) ∙ ap (λ x. record { tray = new.tray; held = x }) (sym f)

pub never_untaken : (old : BookView) → false ≡ true → IsUntaken old
never_untaken old e = absurd (false≢true e)

-- the first list went back from the first binding's place
pub gone_by : (v : BookView) (t : TrayView) (l : ListView) (running : Bool) (pool pool' : PoolView) (t' : TrayView) (new : BookView) → v.tray ≡ record t { queue = a_list l way.Up Bindings ∷ t.queue }
    → held_pool v.held (Binding 0) ≡ pool → t' ≡ record (gone_back running t pool l) { pool = t.pool } → pool' ≡ pool → new.tray ≡ t' → new.held ≡ record v.held { protocol_pools = slice_set v.held.protocol_pools 0 pool' } → HasGoneBack running v new
gone_by v t l running pool pool' t' new takes place tray_is pool_is same held = record {
  list = l;
  taken = t;
  takes = takes;
  tray = same ∙ tray_is ∙ ap (λ p. record (gone_back running t p l) { pool = t.pool }) (sym place);
  held = held ∙ ap (binding_pooled v.held 0) (pool_is ∙ sym place);
}

pub roomed_there : (old new : BookView) → IsBook old → IsIdle old → IsRoomed old new → 0 < length new.held.protocol_pools
roomed_there old new k i r = subst (λ (h : HeldView). 0 < length h.protocol_pools) (sym r.held) (first_bound old k i).pools
