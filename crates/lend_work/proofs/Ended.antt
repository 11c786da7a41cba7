-- The event: a list is lent out, carried up and taken home, as the rules have it.
use Rattle.std.proofs.Common.{◌≡◌, ℕ, zero, suc, ◌+◌, ◌≤◌, ◌<◌, Bool, true, false, cond, List, [], ◌∷◌, ◌++◌, Some, None, length, filter, take, reverse, slice_index, slice_index_or, refl, sym, ap, ◌∙◌, subst, arith, append_assoc}
use Rattle.std.proofs.lemmas.List.{reverse-append, take_all}
use Rattle.std.proofs.Math.Seq.{take-suc}
use Rattle.ndis_base.specs.declared.Direction.TheVariants as direction
use Rattle.ndis_base.specs.declared.ListStatus.{ListStatus}
use Rattle.ndis_base.specs.declared.ModuleId.TheVariants.{Miniport}
use Rattle.journal_types.specs.declared.Row.{Row}
use Rattle.journal_types.specs.declared.Row.TheVariants as row
use Rattle.buffer_pools.specs.declared.label.Label.{Label}
use Rattle.buffer_pools.specs.Views.{ListView}
use Rattle.stack_rules.specs.Net.{Net, Modules}
use Rattle.stack_rules.specs.Outcome.{root, list_no}
use Rattle.stack_rules.specs.Receives.{lent_home, lent_up, lent_rows}
use Rattle.stack_rules.specs.Targets.{has_receive}
use Rattle.promise_rules.specs.Calls.{home_call}
use Rattle.hand_lemmas.specs.Frames.{AreSized}
use Rattle.book_lemmas.specs.Called.{miniport_called}
use Rattle.book_lemmas.specs.Views.{BookView, HeldView, no_pool, hands_of}
use Rattle.book_lemmas.proofs.Called.{miniport_is_called, miniport_leaves}
use Rattle.driver_tray.specs.Tray.{TrayView, LendsOut, Spends}
use Rattle.call_lemmas.specs.InCall.{InCall}
use Rattle.call_lemmas.proofs.Served.{counts_none, did_miniport}
use Rattle.book_parts.specs.Events.{IsBook, IsIdle}
use Rattle.book_parts.proofs.Events.{Begins}
use Rattle.binding_work.specs.Sends.{called_with}
use Rattle.lend_work.specs.Climbs.{Climbs, receivers}
use Rattle.lend_work.specs.Lends.{LendsFor, TakesHome, Carries, pooled, bench_of, desk_of}
use Rattle.lend_work.specs.Lends.Carries.{stops, arrives}
use Rattle.lend_work.proofs.Along.{Along, along_none, along_enters, along_further}
use Rattle.lend_work.proofs.Copying.{in_lent_out, in_homed}
use Rattle.lend_work.proofs.Given.{IsOn}
use Rattle.lend_work.proofs.Readied.{is_receiver}
use Rattle.lend_work.proofs.Visited.{IsClimbing, AreReceivers, climbed}
use Rattle.lend_work.proofs.Visited.AreReceivers.{no_more, one_more}
use Rattle.lend_work.proofs.Delivered.{IsArriving, at_desk, arrived}

-- The filters that have the receive pair, the nearest first.

filter_one : (p : ℕ → Bool) (x : ℕ) (xs ys : List ℕ) (b : Bool) → p x ≡ b → filter p xs ≡ ys → cond b (x ∷ ys) ys ≡ filter p (x ∷ xs)
filter_one p x xs ys b here same = ap (λ c. cond c (x ∷ ys) ys) (sym here) ∙ ap (λ zs. cond (p x) (x ∷ zs) zs) (sym same)

receivers_take : (ms : Modules) (k : ℕ) → k ≤ length ms.order → receivers ms k ≡ filter (has_receive ms) (reverse (take k ms.order))
receivers_take ms zero within = refl
receivers_take ms (suc k) within =
    let x : ℕ = slice_index ms.order k in
    let less : k < length ms.order = omega (arith, within) in
    let front : take (suc k) ms.order ≡ take k ms.order ++ x ∷ [] = take-suc ms.order k 0 less in
    let turned : reverse (take (suc k) ms.order) ≡ x ∷ reverse (take k ms.order) = ap reverse front ∙ reverse-append (take k ms.order) (x ∷ []) in
    filter_one (has_receive ms) x (reverse (take k ms.order)) (receivers ms k) (has_receive ms x) refl (sym (receivers_take ms k (omega (arith, less)))) ∙ ap (filter (has_receive ms)) (sym turned)

receivers_are : (ms : Modules) → receivers ms (length ms.order) ≡ filter (has_receive ms) (reverse ms.order)
receivers_are ms = receivers_take ms (length ms.order) (omega arith) ∙ ap (λ xs. filter (has_receive ms) (reverse xs)) (take_all (length ms.order) ms.order (omega arith))

one_receiver : (net : Net) (x : ℕ) (xs : List ℕ) (b : Bool) → (b ≡ true → AreReceivers net (x ∷ xs)) → AreReceivers net xs → AreReceivers net (cond b (x ∷ xs) xs)
one_receiver net x xs true with_it without = with_it refl
one_receiver net x xs false with_it without = without

are_receivers : (net : Net) (k : ℕ) → k ≤ length net.modules.order → AreReceivers net (receivers net.modules k)
are_receivers net zero within = no_more
are_receivers net (suc k) within =
    let others = are_receivers net k (omega (arith, within)) in
    one_receiver net (slice_index net.modules.order k) (receivers net.modules k) (has_receive net.modules (slice_index net.modules.order k))
    (λ has. one_more (is_receiver net k (omega (arith, within)) has) others) others

-- The list is lent out.

record IsStarted (old : BookView) (t : TrayView) (l : ListView) (mid : TrayView) (made : List (List ℕ)) : Type 0 where
  along : Along old (record { tray = record mid { pool = t.pool }; held = pooled old.held mid.pool }) (root old.tray.net old.tray.net.next.list Miniport direction.Lent None made ∷ []) (l ∷ [])
  on : IsOn old.tray.net mid.net
  turns : 1 ≤ mid.room.turns
  number : l.label.number ≡ list_no old.tray.net.next.list

started : (old : BookView) (t mid : TrayView) (l : ListView) (made : List (List ℕ)) → IsBook old → Begins old.tray t [] → 1 ≤ t.room.turns → AreSized made → LendsOut (called_with t Miniport old.held.miniport_pool) made l mid → IsStarted old t l mid made
started old t mid l made k g turns sized s =
    let b : TrayView = called_with t Miniport old.held.miniport_pool in
    let first = along_none t k g in
    let call = in_lent_out l (along_enters t old.held Miniport old.held.miniport_pool first refl) s sized in
    let further = along_further (miniport_called old.held old.held.miniport mid.pool) t.pool first call (miniport_is_called old.held old.held.miniport mid.pool)
    (miniport_leaves old.held old.held.miniport mid.pool refl refl call.size call.bytes) first.stands.ring
    (did_miniport old.held old.held.miniport mid.pool call tt (counts_none Miniport old.held.miniport.did) (omega arith)) in
    record {
      along = subst (λ (n : Net). Along old (record { tray = record mid { pool = t.pool }; held = pooled old.held mid.pool }) (root n n.next.list Miniport direction.Lent None made ∷ []) (l ∷ [])) g.net further;
      on = record {
        head = ap (λ (x : TrayView). x.net.head) s.tray ∙ ap (λ (n : Net). n.head) g.net;
        phase = ap (λ (x : TrayView). x.net.phase) s.tray ∙ ap (λ (n : Net). n.phase) g.net;
        modules = ap (λ (x : TrayView). x.net.modules) s.tray ∙ ap (λ (n : Net). n.modules) g.net;
        filters = ap (λ (x : TrayView). x.net.port.delivers_by) s.tray ∙ ap (λ (n : Net). n.port.delivers_by) g.net;
        list = ap (λ (x : TrayView). x.net.next.list) s.tray ∙ ap (λ (n : Net). n.next.list + 1) g.net;
      };
      turns = omega (arith, turns, call.used.turns);
      number = ap (λ (x : Label). x.number) s.label ∙ ap (λ (n : Net). list_no n.next.list) g.net;
    }

-- The list is home.

homed : (old v : BookView) (l : ListView) (status : ListStatus) (mid : TrayView) (rows : List Row) → Along old v rows (l ∷ []) → l.label.owner ≡ Miniport → l.label.direction ≡ direction.Lent
    → Spends (called_with v.tray Miniport v.held.miniport_pool) l status mid → Along old (record { tray = record mid { pool = v.tray.pool }; held = pooled v.held mid.pool }) (rows ++ lent_home l.label.number status) []
homed old v l status mid rows a own lent s =
    let b : TrayView = called_with v.tray Miniport v.held.miniport_pool in
    let r : Row = row.Home l.label.number l.label.owner status in
    let entered = along_enters v.tray v.held Miniport v.held.miniport_pool a refl in
    let calls : home_call l.label.owner l.label.direction ≡ [] = ap (λ o. home_call o l.label.direction) own ∙ ap (home_call Miniport) lent in
    let spent = in_homed l status mid.pool entered own s.frees in
    let call = subst (λ cs. InCall b (hands_of v.tray.queue v.held (l ∷ [])) Miniport (r ∷ []) cs [] mid (record { front = []; loose = []; kept = v.held.miniport.kept })) calls
    (subst (λ (x : TrayView). InCall b (hands_of v.tray.queue v.held (l ∷ [])) Miniport (r ∷ []) (home_call l.label.owner l.label.direction) [] x (record { front = []; loose = []; kept = v.held.miniport.kept })) (sym s.tray) spent) in
    let further = along_further (miniport_called v.held v.held.miniport mid.pool) v.tray.pool a call (miniport_is_called v.held v.held.miniport mid.pool)
    (miniport_leaves v.held v.held.miniport mid.pool refl refl call.size call.bytes) a.stands.ring
    (did_miniport v.held v.held.miniport mid.pool call tt (counts_none Miniport v.held.miniport.did) (omega arith)) in
    subst (λ o. Along old (record { tray = record mid { pool = v.tray.pool }; held = pooled v.held mid.pool }) (rows ++ row.Home l.label.number o status ∷ []) []) own further

-- It was carried up.

record HasCarried (old after : BookView) (l : ListView) (rows : List Row) (status : ListStatus) : Type 0 where
  more : List Row
  along : Along old after (rows ++ more) (l ∷ [])
  is : more ++ lent_home l.label.number status ≡ lent_up old.tray.net l.label.number l.frames (receivers old.tray.net.modules (length old.tray.net.modules.order))
  turns : 1 ≤ after.tray.room.turns

-- the book in whose tray the list was lent out
record IsOut (old v : BookView) (l : ListView) (rows : List Row) : Type 0 where
  along : Along old v rows (l ∷ [])
  on : IsOn old.tray.net v.tray.net
  filter_pools : v.held.filter_pools ≡ old.held.filter_pools
  protocol_pools : v.held.protocol_pools ≡ old.held.protocol_pools
  turns : 1 ≤ v.tray.room.turns

climbing : {old v : BookView} {l : ListView} {rows : List Row} → IsOut old v l rows → IsClimbing old v.held l (bench_of v) rows
climbing o = record { along = o.along; on = o.on; pools = λ place. ap (λ ps. slice_index_or ps place no_pool) o.filter_pools; turns = o.turns }

with_held : (v : BookView) (h : HeldView) → v.held ≡ h → record { tray = v.tray; held = h } ≡ v
with_held v h e = ap (λ x. record { tray = v.tray; held = x }) (sym e)

carried : (old v after : BookView) (many : ℕ) (l : ListView) (status : ListStatus) (rows : List Row) → IsBook old → IsIdle old → AreSized l.frames → l.label.direction ≡ direction.Lent → many ≡ length old.held.protocols → 1 ≤ length old.held.protocol_pools
    → IsOut old v l rows → Carries many l v status after → HasCarried old after l rows status
carried old v after many l status rows k i sized lent count some out (stops c held) =
    let fs : List ℕ = receivers old.tray.net.modules (length old.tray.net.modules.order) in
    let up : Climbs v.held.seats l fs (bench_of v) (Some status) (bench_of after) =
    subst (λ (ms : Modules). Climbs v.held.seats l (receivers ms (length ms.order)) (bench_of v) (Some status) (bench_of after)) out.on.modules c in
    let o = climbed old v.held l fs (bench_of v) (bench_of after) rows (Some status) k lent (are_receivers old.tray.net (length old.tray.net.modules.order) (omega arith)) (climbing out) up in
    record {
      more = o.more;
      along = subst (λ (x : BookView). Along old x (rows ++ o.more) (l ∷ [])) (with_held after (record v.held { filters = after.held.filters; filter_pools = after.held.filter_pools }) held) o.along;
      is = o.is;
      turns = o.turns;
    }
carried old v after many l status rows k i sized lent count some out (arrives mid c held a kept) =
    let fs : List ℕ = receivers old.tray.net.modules (length old.tray.net.modules.order) in
    let up : Climbs v.held.seats l fs (bench_of v) None (bench_of mid) =
    subst (λ (ms : Modules). Climbs v.held.seats l (receivers ms (length ms.order)) (bench_of v) None (bench_of mid)) out.on.modules c in
    let o = climbed old v.held l fs (bench_of v) (bench_of mid) rows None k lent (are_receivers old.tray.net (length old.tray.net.modules.order) (omega arith)) (climbing out) up in
    let past = o.past refl in
    let pools : mid.held.protocol_pools ≡ old.held.protocol_pools = ap (λ (h : HeldView). h.protocol_pools) held ∙ out.protocol_pools in
    let at : IsArriving old mid.held l (desk_of mid) 0 (old.tray.net.next.list + 1) (rows ++ o.more) = record {
      along = subst (λ (x : BookView). Along old x (rows ++ o.more) (l ∷ [])) (with_held mid (record v.held { filters = mid.held.filters; filter_pools = mid.held.filter_pools }) held) o.along;
      pools = λ j above. ap (λ ps. slice_index_or ps j no_pool) pools;
      after = record { head = past.on.head; modules = past.on.modules; list = past.on.list };
      turns = o.turns;
    } in
    let p = arrived old mid.held l many (desk_of mid) (desk_of after) (rows ++ o.more) status k i sized count (subst (λ ps. 1 ≤ length ps) (sym pools) some) past.on at a in
    record {
      more = o.more ++ p.more;
      along = subst (λ (x : BookView). Along old x (rows ++ (o.more ++ p.more)) (l ∷ [])) (with_held after (record mid.held { protocols = after.held.protocols; protocol_pools = after.held.protocol_pools }) kept)
          (subst (λ rs. Along old (at_desk mid.held (desk_of after)) rs (l ∷ [])) (append_assoc rows o.more p.more) p.along);
      is = append_assoc o.more p.more (lent_home l.label.number status) ∙ ap (λ rs. o.more ++ rs) p.is ∙ o.is;
      turns = p.turns;
    }

-- All rows of the event.

pub record HasLent (old new : BookView) (made : List (List ℕ)) (l : ListView) : Type 0 where
  pub ends : Along old new (lent_rows old.tray.net made) []
  pub number : l.label.number ≡ list_no old.tray.net.next.list
  pub turns : 1 ≤ new.tray.room.turns

rows_are : (net : Net) (l : ListView) (made : List (List ℕ)) → l.label.number ≡ list_no net.next.list → l.frames ≡ made
    → root net net.next.list Miniport direction.Lent None made ∷ lent_up net l.label.number l.frames (receivers net.modules (length net.modules.order)) ≡ lent_rows net made
rows_are net l made number frames =
    ap (λ n. root net net.next.list Miniport direction.Lent None made ∷ lent_up net n l.frames (receivers net.modules (length net.modules.order))) number
    ∙ ap (λ fs. root net net.next.list Miniport direction.Lent None made ∷ lent_up net (list_no net.next.list) fs (receivers net.modules (length net.modules.order))) frames
    ∙ ap (λ gs. root net net.next.list Miniport direction.Lent None made ∷ lent_up net (list_no net.next.list) made gs) (receivers_are net.modules)

book_is : {new : BookView} {t : TrayView} {h : HeldView} → new.tray ≡ t → new.held ≡ h → record { tray = t; held = h } ≡ new
book_is {new} {t} {h} e f = ap (λ x. record { tray = x; held = h }) (sym e) ∙ ap (λ x. record { tray = new.tray; held = x }) (sym f)

pub has_lent : (old : BookView) (t : TrayView) (new mid after : BookView) (many : ℕ) (made : List (List ℕ)) (l : ListView) (status : ListStatus) → IsBook old → IsIdle old → Begins old.tray t [] → 1 ≤ t.room.turns → AreSized made
    → many ≡ length old.held.protocols → 1 ≤ length old.held.protocol_pools
    → LendsFor made t old.held.miniport_pool l mid.tray mid.held.miniport_pool → mid.held ≡ pooled old.held mid.held.miniport_pool → Carries many l mid status after
    → TakesHome l status after.tray after.held.miniport_pool new.tray new.held.miniport_pool → new.held ≡ pooled after.held new.held.miniport_pool → HasLent old new made l
has_lent old t new mid after many made l status k i g turns sized count some d mid_is c home new_is =
    let net : Net = old.tray.net in
    let first : List Row = root net net.next.list Miniport direction.Lent None made ∷ [] in
    let s = started old t d.mid l made k g turns sized d.lends in
    let own : l.label.owner ≡ Miniport = ap (λ (x : Label). x.owner) d.lends.label in
    let lent : l.label.direction ≡ direction.Lent = ap (λ (x : Label). x.direction) d.lends.label in
    let held : mid.held ≡ pooled old.held d.mid.pool = mid_is ∙ ap (pooled old.held) d.pool_is in
    let out : IsOut old mid l first = record {
      along = subst (λ (x : BookView). Along old x first (l ∷ [])) (book_is d.tray held) s.along;
      on = subst (λ (x : TrayView). IsOn net x.net) (sym d.tray) s.on;
      filter_pools = ap (λ (h : HeldView). h.filter_pools) held;
      protocol_pools = ap (λ (h : HeldView). h.protocol_pools) held;
      turns = subst (λ (x : TrayView). 1 ≤ x.room.turns) (sym d.tray) s.turns;
    } in
    let o = carried old mid after many l status first k i (subst AreSized (sym d.lends.frames) sized) lent count some out c in
    let back = homed old after l status home.mid (first ++ o.more) o.along own lent home.spends in
    let room = ap (λ (x : TrayView). x.room.turns) home.tray in
    let spent = ap (λ (x : TrayView). x.room.turns) home.spends.tray in
    record {
      ends = subst (λ (x : BookView). Along old x (lent_rows net made) []) (book_is home.tray (new_is ∙ ap (pooled after.held) home.pool_is))
          (subst (λ rs. Along old (record { tray = record home.mid { pool = after.tray.pool }; held = pooled after.held home.mid.pool }) rs [])
          (append_assoc first o.more (lent_home l.label.number status) ∙ ap (λ rs. first ++ rs) o.is ∙ rows_are net l made s.number d.lends.frames) back);
      number = s.number;
      turns = omega (arith, o.turns, room, spent);
    }
