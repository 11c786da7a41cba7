-- The event at the book: a pump of a list at a filter.
use Rattle.std.proofs.Common.{◌≡◌, ℕ, ◌≤◌, Bool, false, List, [], ◌∷◌, ◌++◌, Some, slice_set, refl, sym, ap, ◌∙◌, subst, arith}
use Rattle.std.proofs.lemmas.List.Elements.{All-head, All-tail, All-nil, All-cons}
use Rattle.ndis_base.specs.declared.ModuleId.{ModuleId}
use Rattle.ndis_base.specs.declared.ModuleId.TheVariants.{Filter}
use Rattle.journal_types.specs.declared.Event.TheVariants as event
use Rattle.journal_types.specs.declared.PassWay.{PassWay}
use Rattle.journal_types.specs.declared.Reply.TheVariants as reply
use Rattle.journal_types.specs.declared.Target.{Target}
use Rattle.journal_types.specs.declared.Target.TheVariants.{Module}
use Rattle.buffer_pools.specs.Views.{ListView, PoolView}
use Rattle.stack_rules.specs.declared.Choice.{Choice}
use Rattle.stack_rules.specs.declared.LiveList.{LiveList}
use Rattle.stack_rules.specs.declared.Thing.TheVariants as thing
use Rattle.stack_rules.specs.Net.{Net}
use Rattle.stack_rules.specs.Outcome.{Outcome}
use Rattle.stack_rules.specs.Places.{agenda_first}
use Rattle.stack_rules.specs.Pumps.{moved_rows, pump_of, pump_outcome}
use Rattle.agenda_items.specs.declared.Carried.{Carried}
use Rattle.agenda_items.specs.declared.Carried.TheVariants.{List as a_list}
use Rattle.hand_lemmas.specs.Hands.{Hands}
use Rattle.driver_views.specs.States.{FilterState}
use Rattle.driver_tray.specs.Tray.{TrayView}
use Rattle.book_lemmas.specs.Between.{IsBetween}
use Rattle.book_lemmas.specs.Called.{SitsAt, filter_called}
use Rattle.book_lemmas.specs.Stands.{Stands, IsCarriedSized}
use Rattle.book_lemmas.specs.Views.{BookView, HeldView, filter_at, pool_at, seat_of, hands_of}
use Rattle.book_lemmas.proofs.Called.{sits_at, filter_is_called, filter_leaves}
use Rattle.call_lemmas.specs.InCall.{InCall}
use Rattle.call_lemmas.proofs.Ends.{enters}
use Rattle.call_lemmas.proofs.Served.{did_filter}
use Rattle.book_parts.specs.Events.{IsBook, IsIdle, DidEvent, IsUnmoved, CanEnd}
use Rattle.book_parts.proofs.Events.{Begins, Ends, begins_roomed, begins_called, begins_stands, did_event, ends_call, unmoved}
use Rattle.filter_work.specs.Works.{GoesTo, IsRoomed, Takes, WorksFirst, called_with}
use Rattle.filter_work.proofs.Asked.{IsFor, IsPlaced, between, is_for, is_placed}
use Rattle.filter_work.proofs.Worked.{IsWorked, worked}

-- what the rules say of it
pump_is : (net : Net) (keeps : Bool) (x : LiveList) → agenda_first net ≡ Some (thing.List x) → pump_outcome net keeps ≡ record { reply = reply.Moved; rows = moved_rows net x x.stand keeps }
pump_is net keeps x first = ap (pump_of net keeps) first

reply_is : (net now : Net) (keeps : Bool) (x : LiveList) → now ≡ net → agenda_first now ≡ Some (thing.List x) → reply.Moved ≡ (pump_outcome net keeps).reply
reply_is net now keeps x same first = ap (λ (o : Outcome). o.reply) (sym (pump_is now keeps x first)) ∙ ap (λ (n : Net). (pump_outcome n keeps).reply) same

rows_is : (net now : Net) (keeps : Bool) (x : LiveList) → now ≡ net → agenda_first now ≡ Some (thing.List x) → moved_rows now x x.stand keeps ≡ (pump_outcome net keeps).rows
rows_is net now keeps x same first = ap (λ (o : Outcome). o.rows) (sym (pump_is now keeps x first)) ∙ ap (λ (n : Net). (pump_outcome n keeps).rows) same

-- the first thing was taken from the queue
begins_first : {old t : TrayView} {c : Carried} {rest : List Carried} → Begins old t [] → t.queue ≡ c ∷ rest → Begins old (record t { queue = rest }) (c ∷ [])
begins_first {old} {t} {c} {rest} g e = record {
  head = g.head;
  turns = g.turns;
  told_by = g.told_by;
  net = g.net;
  rows = g.rows;
  queue = g.queue ∙ e;
  used = record { rows_used = g.used.rows_used; frames = g.used.frames; bytes = g.used.bytes; slack = g.used.slack; turns = g.used.turns; payloads = g.used.payloads };
}

-- the event is done, and its turn can be ended
pub record IsDone (old new : BookView) : Type 0 where
  pub did : DidEvent old new event.Pump reply.Moved
  pub turn : CanEnd new

taken_done : (old : BookView) (begun : TrayView) (by : PassWay) (l : ListView) (rest : List Carried) (f place : ℕ) (s' : FilterState) (left : TrayView) → IsBook old → IsIdle old → Begins old.tray begun [] → 1 ≤ begun.room.turns
    → begun.queue ≡ a_list l by (Module (Filter f)) ∷ rest → seat_of old.held.seats f ≡ Some place
    → Takes by (filter_at old.held.filters (Some place)) l (called_with (record begun { queue = rest }) f (pool_at old.held.filter_pools (Some place))) s' left
    → IsDone old (record { tray = record left { pool = begun.pool }; held = filter_called old.held place s' left.pool })
taken_done old begun by l rest f place s' left k i roomed turns first seat takes =
    let m : ModuleId = Filter f in
    let front : List Carried = a_list l by (Module (Filter f)) ∷ [] in
    let s : FilterState = filter_at old.held.filters (Some place) in
    let b : TrayView = called_with (record begun { queue = rest }) f (pool_at old.held.filter_pools (Some place)) in
    let h : Hands = hands_of (front ++ rest) old.held [] in
    let g : Begins old.tray b front = begins_called m (pool_at old.held.filter_pools (Some place)) (begins_first roomed first) in
    let stands : Stands b.net (front ++ rest) old.held [] = begins_stands k g in
    let at_begin : IsBetween old.tray.head old.tray.turns b.net = subst (IsBetween old.tray.head old.tray.turns) (sym g.net) (between old k i) in
    let here : IsFor b.net old.held by l f = is_for by l f at_begin stands in
    let there : IsPlaced b.net old.held f place here.at.a = is_placed place stands here seat in
    let all = stands.sized.carried in
    let enter = enters b old.held m front [] stands refl (ap (pool_at old.held.filter_pools) (sym seat))
    (All-cons IsCarriedSized (a_list l by (Module (Filter f))) [] (All-head IsCarriedSized (a_list l by (Module (Filter f))) rest all) (All-nil IsCarriedSized))
    (All-tail IsCarriedSized (a_list l by (Module (Filter f))) rest all) in
    let begin = subst (λ o. InCall b h m [] [] [] b (record { front = front; loose = []; kept = (filter_at old.held.filters o).kept })) seat enter in
    let w : IsWorked b h f here.x s s' left = worked by here begin there.kind there.setup there.size takes in
    let sits : SitsAt old.held f place = sits_at stands f place seat in
    let held : HeldView = filter_called old.held place s' left.pool in
    let ends : Ends old (record { tray = record left { pool = begun.pool }; held = held }) (moved_rows b.net here.x here.x.stand w.keeps) =
    ends_call held begun.pool k g w.call_is (filter_is_called old.held f place s' left.pool sits)
    (filter_leaves old.held f place s' left.pool sits w.kind w.setup w.call_is.size w.call_is.bytes) k.stands.ring
    (did_filter old.held place s' left.pool w.call_is sits w.own w.counts w.kind w.refusals) in
    let choice : Choice = record { keeps = w.keeps; refuses = false; shelf_empty = false } in
    record {
      did = did_event old _ (moved_rows b.net here.x here.x.stand w.keeps) event.Pump choice reply.Moved k i ends
          (reply_is old.tray.net b.net w.keeps here.x g.net here.first) (rows_is old.tray.net b.net w.keeps here.x g.net here.first) refl tt (refl, refl);
      turn = record { room = omega (arith, turns, w.call_is.used.turns) };
    }

same_first : {l k : ListView} {by way_of : PassWay} {to at : Target} {rest more : List Carried} → a_list l by to ∷ rest ≡ a_list k way_of at ∷ more → (by ≡ way_of) × (to ≡ at) × (k ≡ l)
same_first {l = l} {k = k} {by = by} {way_of = way_of} {to = to} {at = at} e =
    let one : by ≡ way_of = cc in
    let two : to ≡ at = cc in
    let three : k ≡ l = cc in
    (one, two, three)

book_is : {new : BookView} {t : TrayView} {h : HeldView} → new.tray ≡ t → new.held ≡ h → record { tray = t; held = h } ≡ new
book_is {new} {t} {h} e f = ap (λ x. record { tray = x; held = h }) (sym e) ∙ ap (λ x. record { tray = new.tray; held = x }) (sym f)

-- the filter at the place took the first list on its way
pub worked_event : (old new : BookView) (f place : ℕ) (s' : FilterState) (pool' : PoolView) → IsBook old → IsIdle old → GoesTo old f → seat_of old.held.seats f ≡ Some place
    → WorksFirst f (filter_at old.held.filters (Some place)) old.tray (pool_at old.held.filter_pools (Some place)) s' new.tray pool' → new.held ≡ filter_called old.held place s' pool' → IsDone old new
worked_event old new f place s' pool' k i to seat d held =
    let roomed : Begins old.tray d.begun [] = begins_roomed old.tray d.begun d.roomed.same d.roomed.covers d.roomed.slack in
    let is = same_first (sym d.first ∙ sym roomed.queue ∙ to.first.first) in
    let first : d.begun.queue ≡ a_list d.list to.by (Module (Filter f)) ∷ d.rest = d.first ∙ ap (λ w. a_list d.list w d.to ∷ d.rest) is.0 ∙ ap (λ t. a_list d.list to.by t ∷ d.rest) is.1 in
    let takes = subst (λ w. Takes w (filter_at old.held.filters (Some place)) d.list (called_with (record d.begun { queue = d.rest }) f (pool_at old.held.filter_pools (Some place))) s' d.works.left) is.0 d.works.takes in
    subst (IsDone old) (book_is d.works.tray (held ∙ ap (filter_called old.held place s') d.works.pool_is))
    (taken_done old d.begun to.by d.list d.rest f place s' d.works.left k i roomed d.turns first seat takes)

-- the view with other filters and pools
pub called_at : (held : HeldView) (place : ℕ) (s : FilterState) (pool : PoolView) (filters : List FilterState) (pools : List PoolView) → filters ≡ slice_set held.filters place s → pools ≡ slice_set held.filter_pools place pool
    → record held { filters = filters; filter_pools = pools } ≡ filter_called held place s pool
called_at held place s pool filters pools e f = ap (λ fs. record held { filters = fs; filter_pools = pools }) e ∙ ap (λ ps. record held { filters = slice_set held.filters place s; filter_pools = ps }) f

-- only room was made
pub unworked : (old new : BookView) → IsBook old → IsRoomed old.tray new.tray → new.held ≡ old.held → IsUnmoved old new
unworked old new k r held =
    let roomed : Begins old.tray new.tray [] = begins_roomed old.tray new.tray r.same r.covers r.slack in
    subst (IsUnmoved old) (book_is refl held) (unmoved new.tray k roomed)
