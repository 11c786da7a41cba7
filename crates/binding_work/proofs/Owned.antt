-- The first list on its way is a receive that is taken.
use Rattle.std.proofs.Common.{◌≡◌, ℕ, ◌≤◌, ◌<◌, ◌^◌, ◌*◌, List, [], ◌∷◌, All, map, slice_index_or, slice_set, sym, ap, ◌∙◌, subst, arith}
use Rattle.std.specs.Prelude.{Result, Ok, Err, OnErr}
use Rattle.std.proofs.Math.Seq.{map-set_same}
use Rattle.std.proofs.lemmas.List.Elements.{All-head}
use Rattle.ndis_base.specs.declared.Phase.TheVariants as phase
use Rattle.journal_types.specs.declared.Event.TheVariants as event
use Rattle.journal_types.specs.declared.Reply.TheVariants as reply
use Rattle.journal_types.specs.declared.PassWay.{PassWay}
use Rattle.journal_types.specs.declared.PassWay.TheVariants as way
use Rattle.journal_types.specs.declared.Target.{Target}
use Rattle.journal_types.specs.declared.Target.TheVariants.{Bindings}
use Rattle.buffer_pools.specs.Views.{ListView, PoolView}
use Rattle.promise_rules.specs.declared.Called.TheVariants as called
use Rattle.agenda_items.specs.declared.Carried.{Carried}
use Rattle.agenda_items.specs.declared.Carried.TheVariants.{List as a_list}
use Rattle.stack_rules.specs.Heads.{kind_of_binding}
use Rattle.driver_views.specs.declared.Served.{Served}
use Rattle.driver_views.specs.States.{ProtocolState}
use Rattle.book_lemmas.specs.Called.{protocol_called}
use Rattle.book_lemmas.specs.Stands.{IsCarriedSized}
use Rattle.book_lemmas.specs.Views.{BookView, HeldView, no_pool, no_protocol}
use Rattle.book_parts.specs.Events.{IsBook, IsIdle, FirstIs, IsUnmoved}
use Rattle.book_parts.proofs.Events.{Begins, begins_roomed, unmoved}
use Rattle.binding_work.proofs.Owning.{one_event}
use Rattle.binding_work.proofs.Sending.{IsBound, IsDone}
use Rattle.hand_lemmas.specs.Frames.{AreSized}
use Rattle.driver_tray.specs.Tray.{TrayView, IsLow}
use Rattle.driver_calls.specs.Rooms.{CanCount}
use Rattle.binding_work.specs.Homes.{BeginsWithList}
use Rattle.binding_work.specs.Owns.{MayOwn, BeginsUp, TrayRoomed, OwnsFirst, IsTakenBy}

queue_is : (t t1 : TrayView) → t1 ≡ record t { room = t1.room; slack = t1.slack } → t1.queue ≡ t.queue
queue_is t t1 e = ap (λ (x : TrayView). x.queue) e

pub up_begins : (t t1 : TrayView) → BeginsUp t.queue → t1 ≡ record t { room = t1.room; slack = t1.slack } → BeginsWithList t1.queue
up_begins t t1 d e = record { list = d.list; way = way.Up; to = Bindings; rest = d.rest; is = queue_is t t1 e ∙ d.is }

-- the list that was taken
pub record IsTakenUp (t1 t2 : TrayView) (l : ListView) : Type 0 where
  pub takes : t1 ≡ record t2 { queue = a_list l way.Up Bindings ∷ t2.queue }
  pub sized : AreSized l.frames

pub taken_own : (t t1 t2 : TrayView) (l : ListView) (w : PassWay) (to : Target) → BeginsUp t.queue → t1 ≡ record t { room = t1.room; slack = t1.slack } → t1 ≡ record t2 { queue = a_list l w to ∷ t2.queue } → IsTakenUp t1 t2 l
taken_own t t1 t2 l w to d e f =
    let queue : t1.queue ≡ a_list l w to ∷ t2.queue = ap (λ (x : TrayView). x.queue) f in
    let first : t1.queue ≡ a_list d.list way.Up Bindings ∷ d.rest = queue_is t t1 e ∙ d.is in
    let way_is : w ≡ way.Up = cc in
    let to_is : to ≡ Bindings = cc in
    let list_is : d.list ≡ l = cc in
    record {
      takes = f ∙ ap (λ x. record t2 { queue = a_list l x to ∷ t2.queue }) way_is ∙ ap (λ x. record t2 { queue = a_list l way.Up x ∷ t2.queue }) to_is;
      sized = subst (λ (x : ListView). AreSized x.frames) list_is d.sized;
    }

pub may_own : (s : ProtocolState) (t1 t2 : TrayView) (l : ListView) (pool : PoolView) → CanCount called.Receive s.did.served → pool.bytes ≡ 1518 → IsTakenUp t1 t2 l → 4 ≤ t1.room.rows → 8 ≤ t1.room.frames → 8 * 1518 ≤ t1.room.bytes → 2 ≤ t1.slack
    → IsLow t1.net → MayOwn s l t2 pool
may_own s t1 t2 l pool count size taken rows frames bytes slack low = record {
  count = count;
  sized = taken.sized;
  size = size;
  rows = subst (λ (x : TrayView). 4 ≤ x.room.rows) taken.takes rows;
  slack = subst (λ (x : TrayView). 2 ≤ x.slack) taken.takes slack;
  frames = subst (λ (x : TrayView). 8 ≤ x.room.frames) taken.takes frames;
  bytes = subst (λ (x : TrayView). 8 * 1518 ≤ x.room.bytes) taken.takes bytes;
  low = subst (λ (x : TrayView). IsLow x.net) taken.takes low;
}

pub count_own : (p s : ProtocolState) (served : Served) → p ≡ s → served ≡ s.did.served → served.receive < 2 ^ 60 → CanCount called.Receive p.did.served
count_own p s served same is low =
    let here : p.did.served.receive ≡ served.receive = ap (λ (x : ProtocolState). x.did.served.receive) same ∙ ap (λ (x : Served). x.receive) (sym is) in
    omega (arith, here, low)

-- the state of an element that was called, and the elements where it stayed the same
pub on_err : {A E : Type 0} (r : Result A E) (P Q : Type 0) → (P → Q) → OnErr r P → OnErr r Q
on_err (Ok a) P Q f p = p
on_err (Err e) P Q f p = f p

pub same_at : {X S : Type 0} (f : X → S) (xs : List X) (i : ℕ) (old y : X) → old ≡ slice_index_or xs i old → f y ≡ f old → map f (slice_set xs i y) ≡ map f xs
same_at f xs i old y e same = map-set_same f xs i y old (same ∙ ap f e)

-- the whole event
pub one_done : (old new : BookView) (b : ℕ) → IsBook old → IsIdle old → IsBound old b → old.tray.net.phase ≡ phase.Running → IsTakenBy old b
    → (slice_index_or old.held.protocols b no_protocol).kind ≡ kind_of_binding old.tray.net.head b
    → OwnsFirst b (slice_index_or old.held.protocols b no_protocol) old.tray (slice_index_or old.held.protocol_pools b no_pool) (slice_index_or new.held.protocols b no_protocol) new.tray (slice_index_or new.held.protocol_pools b no_pool)
    → new.held.protocols ≡ slice_set old.held.protocols b (slice_index_or new.held.protocols b no_protocol)
    → new.held.protocol_pools ≡ slice_set old.held.protocol_pools b (slice_index_or new.held.protocol_pools b no_pool)
    → new.held ≡ record old.held { protocols = new.held.protocols; protocol_pools = new.held.protocol_pools } → IsDone old new event.Pump reply.Moved
one_done old new b k i bound running taken kind o protocols pools same =
    let s' : ProtocolState = slice_index_or new.held.protocols b no_protocol in
    let g = begins_taken old.tray o.taken (a_list o.list way.Up Bindings) (subst (λ (t : TrayView). Begins old.tray t []) o.takes (begins_roomed old.tray o.roomy o.roomed.same o.roomed.covers o.roomed.slack)) in
    let held : new.held ≡ protocol_called old.held b s' o.owns.mid.pool =
    same ∙ ap (λ ps. record old.held { protocols = ps; protocol_pools = new.held.protocol_pools }) protocols
    ∙ ap (λ ps. record old.held { protocols = slice_set old.held.protocols b s'; protocol_pools = ps }) pools
    ∙ ap (protocol_called old.held b s') o.owns.pool_is in
    subst (λ (v : BookView). IsDone old v event.Pump reply.Moved) (book_is o.owns.tray held)
    (one_event old o.taken o.owns.mid b o.list s' k i bound (subst (λ (t : TrayView). 1 ≤ t.room.turns) o.takes o.turns) g running (taken o.list o.taken.queue g.queue) kind o.owns.received)
  where
    begins_taken : (old t : TrayView) (c : Carried) → Begins old (record t { queue = c ∷ t.queue }) [] → Begins old t (c ∷ [])
    begins_taken old t c g = record {
      head = g.head;
      turns = g.turns;
      told_by = g.told_by;
      net = g.net;
      rows = g.rows;
      queue = g.queue;
      used = record { rows_used = g.used.rows_used; frames = g.used.frames; bytes = g.used.bytes; slack = g.used.slack; turns = g.used.turns; payloads = g.used.payloads };
    }

    book_is : {new : BookView} {t : TrayView} {h : HeldView} → new.tray ≡ t → new.held ≡ h → record { tray = t; held = h } ≡ new
    book_is {new} {t} {h} e f = ap (λ x. record { tray = x; held = h }) (sym e) ∙ ap (λ x. record { tray = new.tray; held = x }) (sym f)

-- after want of memory
pub one_unmoved : (old new : BookView) → IsBook old → TrayRoomed old.tray new.tray → new.held.protocols ≡ old.held.protocols → new.held.protocol_pools ≡ old.held.protocol_pools
    → new.held ≡ record old.held { protocols = new.held.protocols; protocol_pools = new.held.protocol_pools } → IsUnmoved old new
one_unmoved old new k r protocols pools same =
    let held : new.held ≡ old.held = same ∙ ap (λ ps. record old.held { protocols = ps; protocol_pools = new.held.protocol_pools }) protocols ∙ ap (λ ps. record old.held { protocol_pools = ps }) pools in
    subst (IsUnmoved old) (ap (λ h. record { tray = new.tray; held = h }) (sym held)) (unmoved new.tray k (begins_roomed old.tray new.tray r.same r.covers r.slack))

pub one_begins : (old : BookView) → IsBook old → FirstIs old way.Up Bindings → BeginsUp old.tray.queue
one_begins old k f = record {
  list = f.list;
  rest = f.rest;
  is = f.first;
  sized = All-head IsCarriedSized (a_list f.list way.Up Bindings) f.rest (subst (All IsCarriedSized) f.first k.stands.sized.carried);
}

pub on_any : {A E : Type 0} (r : Result A E) (P : Type 0) → P → OnErr r P
on_any (Ok a) P p = tt
on_any (Err e) P p = p
