-- A list goes from one binding to the next: it is lent to all but the last one, which settles it.
use Rattle.std.proofs.Common.{◌≡◌, ℕ, ◌+◌, ◌≤◌, ◌<◌, ◌==◌, Bool, true, cond, List, [], ◌∷◌, ◌++◌, All, length, slice_index_or, slice_set, get_or-set_other, refl, sym, ap, ◌∙◌, subst, arith, append_assoc}
use Rattle.std.proofs.lemmas.List.Elements.{All-nil, All-cons, All-head, All-tail}
use Rattle.ndis_base.specs.declared.ModuleId.{ModuleId}
use Rattle.ndis_base.specs.declared.ModuleId.TheVariants.{Binding}
use Rattle.journal_types.specs.declared.How.TheVariants.{Own, Lent}
use Rattle.journal_types.specs.declared.PassWay.TheVariants as way
use Rattle.journal_types.specs.declared.Row.{Row}
use Rattle.journal_types.specs.declared.StackHead.{StackHead}
use Rattle.journal_types.specs.declared.Target.TheVariants.{Bindings}
use Rattle.buffer_pools.specs.Views.{ListView, PoolView, live_count}
use Rattle.stack_rules.specs.Deliveries.{echoes, delivered}
use Rattle.stack_rules.specs.Heads.{kind_of_binding}
use Rattle.stack_rules.specs.Net.{Net, Modules, after_rows}
use Rattle.stack_rules.specs.Places.{is_full}
use Rattle.stack_rules.specs.Tests.{phase_is_running, is_retain}
use Rattle.promise_rules.specs.declared.Called.TheVariants as called
use Rattle.promise_rules.specs.Calls.{call}
use Rattle.agenda_items.specs.declared.Carried.{Carried}
use Rattle.agenda_items.specs.declared.Carried.TheVariants.{List as a_list}
use Rattle.driver_views.specs.States.{ProtocolState}
use Rattle.hand_lemmas.specs.Hands.{in_hand}
use Rattle.book_lemmas.specs.Called.{IsCalled, protocol_called}
use Rattle.book_lemmas.specs.Stands.{IsCarriedSized}
use Rattle.book_lemmas.specs.Views.{BookView, HeldView, no_pool, no_protocol}
use Rattle.book_lemmas.proofs.Called.{protocol_is_called, protocol_leaves}
use Rattle.driver_tray.specs.Tray.{TrayView}
use Rattle.call_lemmas.specs.Served.{Counts}
use Rattle.call_lemmas.proofs.Deliveries.{does_echo, taker_rows, settle_rows, taker_counts, in_lent, in_received}
use Rattle.call_lemmas.proofs.Ends.{enters}
use Rattle.call_lemmas.proofs.Served.{did_protocol}
use Rattle.book_parts.specs.Events.{IsBook, IsIdle}
use Rattle.book_parts.proofs.Events.{Ends}
use Rattle.binding_work.specs.Sends.{called_with}
use Rattle.binding_work.proofs.Sending.{IsBound, head_is, is_bound, full_at}
use Rattle.delivery_work.specs.Desks.{Desk, LendsAt, OwnsAt, Delivers, desk}
use Rattle.delivery_work.proofs.Further.{put_back, unfronted, ends_further}
use Rattle.delivery_work.proofs.Written.{IsAfterOne, after_one, taker_is, more_delivered, last_delivered, last, echoes_is}

-- only the protocols and their pools changed
abbrev held_with : HeldView → List ProtocolState → List PoolView → HeldView
held_with held protocols pools = record held { protocols = protocols; protocol_pools = pools }

abbrev pub first_up : ListView → List Carried
first_up l = a_list l way.Up Bindings ∷ []

-- the book while the list goes round, as if it stood first on its way; and once it is settled
abbrev pub going : BookView → ListView → Desk → BookView
going old l d = record { tray = put_back (first_up l) d.tray; held = held_with old.held d.protocols d.pools }

abbrev pub gone : BookView → Desk → BookView
gone old d = record { tray = d.tray; held = held_with old.held d.protocols d.pools }

abbrev state_at : Desk → ℕ → ProtocolState
state_at d b = slice_index_or d.protocols b no_protocol

abbrev pool_at : Desk → ℕ → PoolView
pool_at d b = slice_index_or d.pools b no_pool

-- the tray as the binding is called
abbrev called_at : Desk → ℕ → TrayView
called_at d b = called_with d.tray (Binding b) (pool_at d b)

abbrev echoes_at : Desk → ℕ → Bool
echoes_at d b = does_echo (state_at d b) (called_at d b)

desk_is : (d d' : Desk) (b : ℕ) (state : ProtocolState) {pool out : PoolView} {t : TrayView} → d'.protocols ≡ slice_set d.protocols b state → d'.pools ≡ slice_set d.pools b out → out ≡ pool → d'.tray ≡ t
    → desk (slice_set d.protocols b state) (slice_set d.pools b pool) t ≡ d'
desk_is d d' b state {pool} {out} {t} protocols pools is tray =
    ap (λ ps. desk ps (slice_set d.pools b pool) t) (sym protocols) ∙ ap (λ qs. desk d'.protocols qs t) (sym (pools ∙ ap (slice_set d.pools b) is)) ∙ ap (λ x. desk d'.protocols d'.pools x) (sym tray)

-- The list is lent to one binding.

record IsLentOn (old : BookView) (l : ListView) (d d' : Desk) (b : ℕ) (rows : List Row) : Type 0 where
  so_far : Ends old (going old l d') (rows ++ taker_rows d.tray.net l b Lent (echoes_at d b))
  net : d'.tray.net ≡ after_rows d.tray.net (taker_rows d.tray.net l b Lent (echoes_at d b))
  turns : d.tray.room.turns ≤ d'.tray.room.turns

lend_step : (old : BookView) (l : ListView) (d d' : Desk) (b : ℕ) (rows : List Row) → Ends old (going old l d) rows → LendsAt b l d d' → IsLentOn old l d d' b rows
lend_step old l d d' b rows e s =
    let m : ModuleId = Binding b in
    let held : HeldView = held_with old.held d.protocols d.pools in
    let mid : TrayView = s.lends.mid in
    let state : ProtocolState = state_at d b in
    let sized : All IsCarriedSized (first_up l ++ d.tray.queue) = e.stands.sized.carried in
    let own = All-head IsCarriedSized (a_list l way.Up Bindings) d.tray.queue sized in
    let entered = enters (called_at d b) held m (first_up l) [] e.stands refl refl (All-cons IsCarriedSized (a_list l way.Up Bindings) [] own (All-nil IsCarriedSized)) (All-tail IsCarriedSized (a_list l way.Up Bindings) d.tray.queue sized) in
    let in_call = in_lent state s.state l entered own s.lends.lent in
    let further = ends_further d.tray held (first_up l) rows (protocol_called held b s.state mid.pool) d.tray.pool e (unfronted (first_up l) in_call)
    (subst (λ ks. IsCalled held (protocol_called held b s.state mid.pool) m ks mid.pool) (ap (λ (x : ProtocolState). x.kept) s.lends.lent.same) (protocol_is_called held b s.state mid.pool s.there s.housed))
    (protocol_leaves held b s.state mid.pool s.there s.housed (ap (λ (x : ProtocolState). x.kind) s.lends.lent.same) (ap (λ (x : ProtocolState). x.is_open) s.lends.lent.same) in_call.size in_call.bytes) e.stands.ring
    (did_protocol held s.state mid.pool in_call s.there (refl, tt) (subst (λ (x : ProtocolState). Counts m (call m called.ReceiveLent) (l.frames ∷ []) state.did x.did) (sym s.lends.lent.same) (taker_counts b called.ReceiveLent l state.did))) in
    let turns = ap (λ (t : TrayView). t.room.turns) s.lends.tray in
    record {
      so_far = subst (λ (k : Desk). Ends old (going old l k) (rows ++ taker_rows d.tray.net l b Lent (echoes_at d b))) (desk_is d d' b s.state s.protocols s.pools s.lends.pool_is s.lends.tray) further;
      net = ap (λ (t : TrayView). t.net) s.lends.tray ∙ in_call.net;
      turns = omega (arith, turns, in_call.used.turns);
    }

-- The last binding gets it as its own.

record IsOwnedOn (old : BookView) (l : ListView) (d d' : Desk) (b : ℕ) (rows : List Row) : Type 0 where
  keeps : Bool
  may : keeps ≡ true → is_retain (state_at d b).kind ≡ true
  so_far : Ends old (gone old d') (rows ++ (taker_rows d.tray.net l b Own (echoes_at d b) ++ settle_rows d.tray.net.modules b keeps (in_hand l)))
  turns : d.tray.room.turns ≤ d'.tray.room.turns

own_step : (old : BookView) (l : ListView) (d d' : Desk) (b : ℕ) (rows : List Row) → Ends old (going old l d) rows → OwnsAt b l d d' → IsOwnedOn old l d d' b rows
own_step old l d d' b rows e s =
    let m : ModuleId = Binding b in
    let held : HeldView = held_with old.held d.protocols d.pools in
    let mid : TrayView = s.owns.mid in
    let state : ProtocolState = state_at d b in
    let sized : All IsCarriedSized (first_up l ++ d.tray.queue) = e.stands.sized.carried in
    let own = All-head IsCarriedSized (a_list l way.Up Bindings) d.tray.queue sized in
    let entered = enters (called_at d b) held m (first_up l) [] e.stands refl refl (All-cons IsCarriedSized (a_list l way.Up Bindings) [] own (All-nil IsCarriedSized)) (All-tail IsCarriedSized (a_list l way.Up Bindings) d.tray.queue sized) in
    let settled = in_received state s.state l way.Up Bindings entered own s.owns.received in
    let further = ends_further d.tray held (first_up l) rows (protocol_called held b s.state mid.pool) d.tray.pool e settled.in_call
    (protocol_is_called held b s.state mid.pool s.there s.housed)
    (protocol_leaves held b s.state mid.pool s.there s.housed (ap (λ (x : ProtocolState). x.kind) s.owns.received.same) (ap (λ (x : ProtocolState). x.is_open) s.owns.received.same) settled.in_call.size settled.in_call.bytes) e.stands.ring
    (did_protocol held s.state mid.pool settled.in_call s.there (refl, tt) (subst (λ (x : ProtocolState). Counts m (call m called.Receive) (l.frames ∷ []) state.did x.did) (sym s.owns.received.same) (taker_counts b called.Receive l state.did))) in
    let turns = ap (λ (t : TrayView). t.room.turns) s.owns.tray in
    record {
      keeps = settled.keeps;
      may = settled.may;
      so_far = subst (λ (k : Desk). Ends old (gone old k) (rows ++ (taker_rows d.tray.net l b Own (echoes_at d b) ++ settle_rows d.tray.net.modules b settled.keeps (in_hand l)))) (desk_is d d' b s.state s.protocols s.pools s.owns.pool_is s.owns.tray) further;
      turns = omega (arith, turns, settled.in_call.used.turns);
    }

-- What holds before each binding: those from it on have their pools still, and n is the number of the next list.
pub record IsAlong (old : BookView) (d : Desk) (b n : ℕ) : Type 0 where
  pub pools : (j : ℕ) → b ≤ j → slice_index_or d.pools j no_pool ≡ slice_index_or old.held.protocol_pools j no_pool
  pub after : IsAfterOne old.tray.net d.tray.net n
  pub turns : 1 ≤ d.tray.room.turns

-- what the state before the turn says of the binding
record IsTakerOf (old : BookView) (d : Desk) (b : ℕ) : Type 0 where
  kind : (state_at d b).kind ≡ kind_of_binding old.tray.net.head b
  echo : echoes old.tray.net b ≡ echoes_at d b

taker_of : (old : BookView) (l : ListView) (d : Desk) (b n : ℕ) (rows : List Row) → IsBook old → IsIdle old → phase_is_running old.tray.net.phase ≡ true → Ends old (going old l d) rows → IsAlong old d b n → b < length d.protocols → IsTakerOf old d b
taker_of old l d b n rows k i run e a there =
    let within : b < length d.tray.net.head.bindings = subst (λ j. b < j) e.stands.protocols there in
    let below : b < length old.tray.head.bindings = subst (λ (h : StackHead). b < length h.bindings) (a.after.head ∙ head_is old k i) within in
    let bound : IsBound old b = is_bound old b k i below in
    let kind : (state_at d b).kind ≡ kind_of_binding old.tray.net.head b = e.stands.protocol_kinds b within ∙ ap (λ (h : StackHead). kind_of_binding h b) a.after.head in
    let full : is_full old.tray.net (Binding b) ≡ (live_count (pool_at d b) == (pool_at d b).size) = full_at old (Binding b) k bound.there ∙ ap (λ (p : PoolView). live_count p == p.size) (sym (a.pools b (omega arith))) in
    record { kind = kind; echo = echoes_is old.tray.net b (state_at d b).kind (live_count (pool_at d b) == (pool_at d b).size) kind run full }

along_next : (old : BookView) (l : ListView) (d mid : Desk) (b c n : ℕ) (rows : List Row) → IsAlong old d b n → LendsAt b l d mid → IsLentOn old l d mid b rows → b < c → IsAlong old mid c (cond (echoes_at d b) (n + 1) n)
along_next old l d mid b c n rows a s o less =
    let one = after_one d.tray.net l b Lent (echoes_at d b) in
    record {
      pools = λ j above. ap (λ qs. slice_index_or qs j no_pool) s.pools ∙ get_or-set_other d.pools b j s.pool no_pool (λ same. omega (arith, same, above, less)) ∙ a.pools j (omega (arith, above, less));
      after = record {
        head = ap (λ (q : Net). q.head) o.net ∙ one.head ∙ a.after.head;
        modules = ap (λ (q : Net). q.modules) o.net ∙ one.modules ∙ a.after.modules;
        list = ap (λ (q : Net). q.next.list) o.net ∙ one.list ∙ ap (λ j. cond (echoes_at d b) (j + 1) j) a.after.list;
      };
      turns = omega (arith, a.turns, o.turns);
    }

-- the rows of all deliveries were written, and of how the last one settled the list
pub record IsDelivered (old new : BookView) (l : ListView) (rows : List Row) (n b : ℕ) (bs : List ℕ) : Type 0 where
  pub keeps : Bool
  pub may : keeps ≡ true → is_retain (kind_of_binding old.tray.net.head (last b bs)) ≡ true
  pub all : Ends old new (rows ++ (delivered old.tray.net l.label.number l.frames Own n (b ∷ bs) ++ settle_rows old.tray.net.modules (last b bs) keeps (in_hand l)))
  pub turns : 1 ≤ new.tray.room.turns

pub each : (old : BookView) (l : ListView) (b : ℕ) (bs : List ℕ) (d d' : Desk) → IsBook old → IsIdle old → phase_is_running old.tray.net.phase ≡ true → Delivers l b bs d d' → (rows : List Row) (n : ℕ) → Ends old (going old l d) rows → IsAlong old d b n
    → IsDelivered old (gone old d') l rows n b bs
each old l b [] d d' k i run s rows n e a =
    let o = own_step old l d d' b rows e s in
    let is = taker_of old l d b n rows k i run e a s.there in
    let written = taker_is old.tray.net d.tray.net l b Own (echoes_at d b) n a.after.modules a.after.list ∙ last_delivered old.tray.net l.label.number l.frames n b (echoes_at d b) is.echo in
    record {
      keeps = o.keeps;
      may = λ q. ap is_retain (sym is.kind) ∙ o.may q;
      all = subst (λ rs. Ends old (gone old d') (rows ++ rs))
          (ap (λ rs. rs ++ settle_rows d.tray.net.modules b o.keeps (in_hand l)) written
          ∙ ap (λ (ms : Modules). delivered old.tray.net l.label.number l.frames Own n (b ∷ []) ++ settle_rows ms b o.keeps (in_hand l)) a.after.modules) o.so_far;
      turns = omega (arith, a.turns, o.turns);
    }
each old l b (c ∷ cs) d d' k i run p rows n e a =
    let mid : Desk = p.mid in
    let s : LendsAt b l d mid = p.lends in
    let o = lend_step old l d mid b rows e s in
    let is = taker_of old l d b n rows k i run e a s.there in
    let does : Bool = echoes_at d b in
    let first : List Row = taker_rows d.tray.net l b Lent does in
    let more = each old l c cs mid d' k i run p.others (rows ++ first) (cond does (n + 1) n) o.so_far (along_next old l d mid b c n rows a s o p.less) in
    let others : List Row = delivered old.tray.net l.label.number l.frames Own (cond does (n + 1) n) (c ∷ cs) in
    let settle : List Row = settle_rows old.tray.net.modules (last c cs) more.keeps (in_hand l) in
    let written : first ++ others ≡ delivered old.tray.net l.label.number l.frames Own n (b ∷ c ∷ cs) =
    ap (λ rs. rs ++ others) (taker_is old.tray.net d.tray.net l b Lent does n a.after.modules a.after.list) ∙ more_delivered old.tray.net l.label.number l.frames n b c cs does is.echo in
    record {
      keeps = more.keeps;
      may = more.may;
      all = subst (λ rs. Ends old (gone old d') rs)
          (append_assoc rows first (others ++ settle) ∙ ap (λ rs. rows ++ rs) (sym (append_assoc first others settle) ∙ ap (λ rs. rs ++ settle) written)) more.all;
      turns = more.turns;
    }
