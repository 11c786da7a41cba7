-- A lent list at the bindings: the rows are those of the rules.
use Rattle.std.proofs.Common.{◌≡◌, ℕ, ◌+◌, ◌-◌, ◌==◌, ◌≤◌, ◌<◌, Bool, true, false, cond, List, [], ◌∷◌, ◌++◌, length, slice_index, slice_index_or, slice_set, get_or-set_other, refl, sym, ap, ◌∙◌, subst, arith, append_assoc, append-nil}
use Rattle.std.proofs.lemmas.List.{set-get_or}
use Rattle.ndis_base.specs.declared.ListNo.{ListNo}
use Rattle.ndis_base.specs.declared.ListStatus.{ListStatus}
use Rattle.ndis_base.specs.declared.ListStatus.TheVariants.{Success, Paused}
use Rattle.ndis_base.specs.declared.ModuleId.{ModuleId}
use Rattle.ndis_base.specs.declared.ModuleId.TheVariants.{Binding}
use Rattle.journal_types.specs.declared.How.TheVariants.{Lent}
use Rattle.journal_types.specs.declared.Row.{Row}
use Rattle.journal_types.specs.declared.Row.TheVariants as row
use Rattle.journal_types.specs.declared.StackHead.{StackHead}
use Rattle.buffer_pools.specs.Views.{ListView, PoolView, live_count}
use Rattle.stack_rules.specs.Deliveries.{echoes, echoed, delivered, how_for, takers, is_taken_by}
use Rattle.stack_rules.specs.Heads.{kind_of_binding}
use Rattle.stack_rules.specs.Net.{Net, after_rows}
use Rattle.stack_rules.specs.Places.{is_full}
use Rattle.stack_rules.specs.Receives.{lent_home, lent_back, lent_delivery}
use Rattle.stack_rules.specs.Tests.{phase_is_running}
use Rattle.promise_rules.specs.declared.Called.TheVariants as called
use Rattle.promise_rules.specs.Calls.{call}
use Rattle.driver_views.specs.States.{ProtocolState}
use Rattle.hand_lemmas.specs.Frames.{AreSized}
use Rattle.book_lemmas.specs.Called.{IsCalled, protocol_called}
use Rattle.book_lemmas.specs.Views.{BookView, HeldView, no_pool, no_protocol}
use Rattle.book_lemmas.proofs.Called.{protocol_is_called, protocol_leaves}
use Rattle.driver_tray.specs.Tray.{TrayView}
use Rattle.call_lemmas.specs.Served.{Counts}
use Rattle.call_lemmas.proofs.Bindings.{pooled_is_called, pooled_leaves, did_still}
use Rattle.call_lemmas.proofs.Deliveries.{does_echo, taker_rows, taker_counts, in_lent}
use Rattle.call_lemmas.proofs.Served.{did_protocol}
use Rattle.call_lemmas.proofs.Steps.{in_turned_back}
use Rattle.book_parts.specs.Events.{IsBook, IsIdle}
use Rattle.binding_work.specs.Sends.{called_with, binding_pooled}
use Rattle.binding_work.proofs.Sending.{IsBound, head_is, is_bound, full_at}
use Rattle.delivery_work.specs.Takers.{takers_from, passing}
use Rattle.delivery_work.specs.Desks.{Desk, LendsAt}
use Rattle.delivery_work.proofs.Counting.{takers_passing}
use Rattle.delivery_work.proofs.Written.{IsAfterOne, after_one, taker_is, echoes_is}
use Rattle.lend_work.specs.Bindings.{LendsFrom, Arrives}
use Rattle.lend_work.specs.Bindings.Arrives.{lends, stops}
use Rattle.lend_work.proofs.Along.{Along, along_enters, along_further}
use Rattle.lend_work.proofs.Given.{IsOn}

-- the book while the list is at the bindings
abbrev pub at_desk : HeldView → Desk → BookView
at_desk held d = record { tray = d.tray; held = record held { protocols = d.protocols; protocol_pools = d.pools } }

abbrev state_at : Desk → ℕ → ProtocolState
state_at d b = slice_index_or d.protocols b no_protocol

abbrev pool_at : Desk → ℕ → PoolView
pool_at d b = slice_index_or d.pools b no_pool

abbrev echoes_at : Desk → ℕ → Bool
echoes_at d b = does_echo (state_at d b) (called_with d.tray (Binding b) (pool_at d b))

book_is : (held : HeldView) (d' : Desk) (protocols : List ProtocolState) {pools pools' : List PoolView} {t : TrayView} → d'.protocols ≡ protocols → d'.pools ≡ pools' → pools' ≡ pools → d'.tray ≡ t
    → record { tray = t; held = record held { protocols = protocols; protocol_pools = pools } } ≡ at_desk held d'
book_is held d' protocols {pools} {pools'} {t} e f g h =
    ap (λ ps. record { tray = t; held = record held { protocols = ps; protocol_pools = pools } }) (sym e)
    ∙ ap (λ qs. record { tray = t; held = record held { protocols = d'.protocols; protocol_pools = qs } }) (sym (f ∙ g))
    ∙ ap (λ x. record { tray = x; held = record held { protocols = d'.protocols; protocol_pools = d'.pools } }) (sym h)

-- what holds before each binding: those from it on have their pools still, and n is the number of the next list
pub record IsArriving (old : BookView) (held : HeldView) (l : ListView) (d : Desk) (b n : ℕ) (rows : List Row) : Type 0 where
  pub along : Along old (at_desk held d) rows (l ∷ [])
  pub pools : (j : ℕ) → b ≤ j → slice_index_or d.pools j no_pool ≡ slice_index_or old.held.protocol_pools j no_pool
  pub after : IsAfterOne old.tray.net d.tray.net n
  pub turns : 1 ≤ d.tray.room.turns

-- the list is lent to one binding
record IsLentOn (old : BookView) (held : HeldView) (l : ListView) (d d' : Desk) (b : ℕ) (rows : List Row) : Type 0 where
  so_far : Along old (at_desk held d') (rows ++ taker_rows d.tray.net l b Lent (echoes_at d b)) (l ∷ [])
  net : d'.tray.net ≡ after_rows d.tray.net (taker_rows d.tray.net l b Lent (echoes_at d b))
  turns : d.tray.room.turns ≤ d'.tray.room.turns

lend_step : (old : BookView) (held : HeldView) (l : ListView) (d d' : Desk) (b : ℕ) (rows : List Row) → AreSized l.frames → Along old (at_desk held d) rows (l ∷ []) → LendsAt b l d d' → IsLentOn old held l d d' b rows
lend_step old held l d d' b rows sized a s =
    let m : ModuleId = Binding b in
    let h : HeldView = (at_desk held d).held in
    let mid : TrayView = s.lends.mid in
    let state : ProtocolState = state_at d b in
    let entered = along_enters d.tray h m (pool_at d b) a refl in
    let in_call = in_lent state s.state l entered sized s.lends.lent in
    let further = along_further (protocol_called h b s.state mid.pool) d.tray.pool a in_call
    (subst (λ ks. IsCalled h (protocol_called h b s.state mid.pool) m ks mid.pool) (ap (λ (x : ProtocolState). x.kept) s.lends.lent.same) (protocol_is_called h b s.state mid.pool s.there s.housed))
    (protocol_leaves h b s.state mid.pool s.there s.housed (ap (λ (x : ProtocolState). x.kind) s.lends.lent.same) (ap (λ (x : ProtocolState). x.is_open) s.lends.lent.same) in_call.size in_call.bytes) a.stands.ring
    (did_protocol h s.state mid.pool in_call s.there (refl, tt) (subst (λ (x : ProtocolState). Counts m (call m called.ReceiveLent) (l.frames ∷ []) state.did x.did) (sym s.lends.lent.same) (taker_counts b called.ReceiveLent l state.did))) in
    let turns = ap (λ (t : TrayView). t.room.turns) s.lends.tray in
    record {
      so_far = subst (λ (x : BookView). Along old x (rows ++ taker_rows d.tray.net l b Lent (echoes_at d b)) (l ∷ []))
          (book_is held d' (slice_set d.protocols b s.state) s.protocols s.pools (ap (slice_set d.pools b) s.lends.pool_is) s.lends.tray) further;
      net = ap (λ (t : TrayView). t.net) s.lends.tray ∙ in_call.net;
      turns = omega (arith, turns, in_call.used.turns);
    }

-- whether the binding sends an echo, in the words of the rules
echo_is : (old : BookView) (held : HeldView) (l : ListView) (d : Desk) (b n : ℕ) (rows : List Row) → IsBook old → IsIdle old → phase_is_running old.tray.net.phase ≡ true → IsArriving old held l d b n rows → b < length d.protocols → echoes old.tray.net b ≡ echoes_at d b
echo_is old held l d b n rows k i run c there =
    let stands = c.along.stands in
    let within : b < length d.tray.net.head.bindings = subst (λ j. b < j) stands.protocols there in
    let below : b < length old.tray.head.bindings = subst (λ (h : StackHead). b < length h.bindings) (c.after.head ∙ head_is old k i) within in
    let bound : IsBound old b = is_bound old b k i below in
    let kind : (state_at d b).kind ≡ kind_of_binding old.tray.net.head b = stands.protocol_kinds b within ∙ ap (λ (h : StackHead). kind_of_binding h b) c.after.head in
    let full : is_full old.tray.net (Binding b) ≡ (live_count (pool_at d b) == (pool_at d b).size) = full_at old (Binding b) k bound.there ∙ ap (λ (p : PoolView). live_count p == p.size) (sym (c.pools b (omega arith))) in
    echoes_is old.tray.net b (state_at d b).kind (live_count (pool_at d b) == (pool_at d b).size) kind run full

arriving_next : (old : BookView) (held : HeldView) (l : ListView) (d mid : Desk) (b n : ℕ) (rows : List Row) → IsArriving old held l d b n rows → LendsAt b l d mid → IsLentOn old held l d mid b rows
    → IsArriving old held l mid (b + 1) (cond (echoes_at d b) (n + 1) n) (rows ++ taker_rows d.tray.net l b Lent (echoes_at d b))
arriving_next old held l d mid b n rows c s o =
    let one = after_one d.tray.net l b Lent (echoes_at d b) in
    record {
      along = o.so_far;
      pools = λ j above. ap (λ qs. slice_index_or qs j no_pool) s.pools ∙ get_or-set_other d.pools b j s.pool no_pool (λ same. omega (arith, same, above)) ∙ c.pools j (omega (arith, above));
      after = record {
        head = ap (λ (q : Net). q.head) o.net ∙ one.head ∙ c.after.head;
        modules = ap (λ (q : Net). q.modules) o.net ∙ one.modules ∙ c.after.modules;
        list = ap (λ (q : Net). q.next.list) o.net ∙ one.list ∙ ap (λ j. cond (echoes_at d b) (j + 1) j) c.after.list;
      };
      turns = omega (arith, c.turns, o.turns);
    }

-- the rows of one delivery, in the words of the rules
abbrev one_delivery : Net → ListNo → List (List ℕ) → ℕ → ℕ → Bool → List Row
one_delivery net list frames n b does = row.Deliver list b Lent frames ∷ cond does (echoed net n b frames) []

how_lent : (bs : List ℕ) → how_for Lent bs ≡ Lent
how_lent [] = refl
how_lent (b ∷ bs) = refl

more_lent : (net : Net) (list : ListNo) (frames : List (List ℕ)) (n b : ℕ) (bs : List ℕ) (does : Bool) → echoes net b ≡ does
    → one_delivery net list frames n b does ++ delivered net list frames Lent (cond does (n + 1) n) bs ≡ delivered net list frames Lent n (b ∷ bs)
more_lent net list frames n b bs true echo =
    ap (λ h. row.Deliver list b h frames ∷ (echoed net n b frames ++ delivered net list frames Lent (n + 1) bs)) (sym (how_lent bs))
    ∙ ap (λ e. row.Deliver list b (how_for Lent bs) frames ∷ cond e (echoed net n b frames ++ delivered net list frames Lent (n + 1) bs) (delivered net list frames Lent n bs)) (sym echo)
more_lent net list frames n b bs false echo =
    ap (λ h. row.Deliver list b h frames ∷ delivered net list frames Lent n bs) (sym (how_lent bs))
    ∙ ap (λ e. row.Deliver list b (how_for Lent bs) frames ∷ cond e (echoed net n b frames ++ delivered net list frames Lent (n + 1) bs) (delivered net list frames Lent n bs)) (sym echo)

-- all deliveries
record IsDelivered (old : BookView) (held : HeldView) (l : ListView) (d' : Desk) (rows : List Row) (n : ℕ) (bs : List ℕ) : Type 0 where
  all : Along old (at_desk held d') (rows ++ delivered old.tray.net l.label.number l.frames Lent n bs) (l ∷ [])
  turns : 1 ≤ d'.tray.room.turns

each : (old : BookView) (held : HeldView) (l : ListView) (from : ℕ) (bs : List ℕ) (d d' : Desk) (n : ℕ) (rows : List Row) → IsBook old → IsIdle old → AreSized l.frames → phase_is_running old.tray.net.phase ≡ true → IsArriving old held l d from n rows
    → LendsFrom l from bs d d' → IsDelivered old held l d' rows n bs
each old held l from [] d d' n rows k i sized run c s = record {
  all = subst (λ rs. Along old (at_desk held d') rs (l ∷ [])) (sym (append-nil rows)) (subst (λ (x : Desk). Along old (at_desk held x) rows (l ∷ [])) (sym s.same) c.along);
  turns = subst (λ (x : Desk). 1 ≤ x.tray.room.turns) (sym s.same) c.turns;
}
each old held l from (b ∷ bs) d d' n rows k i sized run c p =
    let mid : Desk = p.mid in
    let s : LendsAt b l d mid = p.lends in
    let does : Bool = echoes_at d b in
    let here : IsArriving old held l d b n rows = record { along = c.along; pools = λ j above. c.pools j (omega (arith, above, p.above)); after = c.after; turns = c.turns } in
    let o = lend_step old held l d mid b rows sized c.along s in
    let echo = echo_is old held l d b n rows k i run here s.there in
    let first : List Row = taker_rows d.tray.net l b Lent does in
    let rest = each old held l (b + 1) bs mid d' (cond does (n + 1) n) (rows ++ first) k i sized run (arriving_next old held l d mid b n rows here s o) p.others in
    let others : List Row = delivered old.tray.net l.label.number l.frames Lent (cond does (n + 1) n) bs in
    let written : first ++ others ≡ delivered old.tray.net l.label.number l.frames Lent n (b ∷ bs) =
    ap (λ rs. rs ++ others) (taker_is old.tray.net d.tray.net l b Lent does n c.after.modules c.after.list) ∙ more_lent old.tray.net l.label.number l.frames n b bs does echo in
    record {
      all = subst (λ rs. Along old (at_desk held d') rs (l ∷ [])) (append_assoc rows first others ∙ ap (λ rs. rows ++ rs) written) rest.all;
      turns = rest.turns;
    }

-- the takers of the rules, by the bindings of the book
abbrev taken_by : List (List ℕ) → List ℕ → StackHead → ℕ → Bool
taken_by frames by head b = is_taken_by (slice_index by b) head.port.address (slice_index_or frames 0 [])

takers_are : (old : BookView) (now : Net) (frames : List (List ℕ)) (many : ℕ) → IsBook old → IsOn old.tray.net now → many ≡ length old.held.protocols → takers_from now frames 0 many ≡ takers old.tray.net frames
takers_are old now frames many k on count =
    let all : many - 0 ≡ many = omega arith in
    ap (λ by. passing (taken_by frames by now.head) 0 (many - 0)) on.filters
    ∙ ap (λ (h : StackHead). passing (taken_by frames old.tray.net.port.delivers_by h) 0 (many - 0)) on.head
    ∙ ap (passing (taken_by frames old.tray.net.port.delivers_by old.tray.net.head) 0) (all ∙ count ∙ k.stands.protocols)
    ∙ sym (takers_passing old.tray.net frames)

-- the list came to the bindings, and goes home
pub record HasArrived (old : BookView) (held : HeldView) (l : ListView) (d' : Desk) (rows : List Row) (status : ListStatus) : Type 0 where
  pub more : List Row
  pub along : Along old (at_desk held d') (rows ++ more) (l ∷ [])
  pub is : more ++ lent_home l.label.number status ≡ lent_delivery old.tray.net l.label.number l.frames
  pub turns : 1 ≤ d'.tray.room.turns

running_is : (net : Net) (l : ListView) (bs : List ℕ) → phase_is_running net.phase ≡ true → takers net l.frames ≡ bs
    → delivered net l.label.number l.frames Lent (net.next.list + 1) bs ++ lent_home l.label.number Success ≡ lent_delivery net l.label.number l.frames
running_is net l bs run is =
    ap (λ ts. delivered net l.label.number l.frames Lent (net.next.list + 1) ts ++ lent_home l.label.number Success) (sym is)
    ∙ ap (λ r. cond r (delivered net l.label.number l.frames Lent (net.next.list + 1) (takers net l.frames) ++ lent_home l.label.number Success) (lent_back l.label.number (Binding 0) Paused)) (sym run)

paused_is : (net : Net) (l : ListView) → phase_is_running net.phase ≡ false → lent_back l.label.number (Binding 0) Paused ≡ lent_delivery net l.label.number l.frames
paused_is net l still = ap (λ r. cond r (delivered net l.label.number l.frames Lent (net.next.list + 1) (takers net l.frames) ++ lent_home l.label.number Success) (lent_back l.label.number (Binding 0) Paused)) (sym still)

pub arrived : (old : BookView) (held : HeldView) (l : ListView) (many : ℕ) (d d' : Desk) (rows : List Row) (status : ListStatus) → IsBook old → IsIdle old → AreSized l.frames → many ≡ length old.held.protocols → 1 ≤ length d.pools
    → IsOn old.tray.net d.tray.net → IsArriving old held l d 0 (old.tray.net.next.list + 1) rows → Arrives many l d status d' → HasArrived old held l d' rows status
arrived old held l many d d' rows status k i sized count some on c (lends runs s success) =
    let run : phase_is_running old.tray.net.phase ≡ true = ap phase_is_running (sym on.phase) ∙ runs in
    let all = each old held l 0 (takers_from d.tray.net l.frames 0 many) d d' (old.tray.net.next.list + 1) rows k i sized run c s in
    subst (HasArrived old held l d' rows) (sym success)
    (record {
      more = delivered old.tray.net l.label.number l.frames Lent (old.tray.net.next.list + 1) (takers_from d.tray.net l.frames 0 many);
      along = all.all;
      is = running_is old.tray.net l (takers_from d.tray.net l.frames 0 many) run (sym (takers_are old d.tray.net l.frames many k on count));
      turns = all.turns;
    })
arrived old held l many d d' rows status k i sized count some on c (stops still tray protocols pools paused) =
    let m : ModuleId = Binding 0 in
    let h : HeldView = (at_desk held d).held in
    let pool : PoolView = pool_at d 0 in
    let idle : phase_is_running old.tray.net.phase ≡ false = ap phase_is_running (sym on.phase) ∙ still in
    let call = in_turned_back l.label.number Paused (along_enters d.tray h m pool c.along refl) in
    let further = along_further (binding_pooled h 0 pool) d.tray.pool c.along call (pooled_is_called h 0 pool (omega (arith, some))) (pooled_leaves h 0 pool (omega (arith, some)) refl refl) c.along.stands.ring
    (did_still h.seats h 0 pool call) in
    let turns = ap (λ (t : TrayView). t.room.turns) tray in
    subst (HasArrived old held l d' rows) (sym paused)
    (record {
      more = row.TurnBack l.label.number m Paused ∷ [];
      along = subst (λ (x : BookView). Along old x (rows ++ row.TurnBack l.label.number m Paused ∷ []) (l ∷ []))
          (book_is held d' d.protocols protocols pools (sym (set-get_or d.pools 0 no_pool)) tray) further;
      is = paused_is old.tray.net l idle;
      turns = omega (arith, c.turns, turns);
    })
