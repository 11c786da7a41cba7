-- A receive at the bindings is worked as the rules have it.
use Rattle.std.proofs.Common.{◌≡◌, ℕ, ◌-◌, ◌≤◌, true, cond, List, [], ◌∷◌, ◌++◌, length, refl, sym, ap, ◌∙◌, subst, arith}
use Rattle.ndis_base.specs.declared.ListStatus.TheVariants.{Paused}
use Rattle.ndis_base.specs.declared.ModuleId.TheVariants.{Binding}
use Rattle.journal_types.specs.declared.Event.TheVariants as event
use Rattle.journal_types.specs.declared.How.TheVariants.{Own}
use Rattle.journal_types.specs.declared.Row.{Row}
use Rattle.journal_types.specs.declared.PassWay.TheVariants as way
use Rattle.journal_types.specs.declared.Reply.TheVariants as reply
use Rattle.journal_types.specs.declared.Target.TheVariants.{Bindings}
use Rattle.buffer_pools.specs.Views.{ListView}
use Rattle.stack_rules.specs.declared.Choice.{Choice}
use Rattle.stack_rules.specs.Deliveries.{takers, delivered, delivery_rows}
use Rattle.stack_rules.specs.Net.{Net}
use Rattle.stack_rules.specs.Outcome.{Outcome}
use Rattle.stack_rules.specs.Pumps.{moved_rows}
use Rattle.stack_rules.specs.Targets.{turned_back}
use Rattle.stack_rules.specs.Tests.{phase_is_running}
use Rattle.agenda_items.specs.declared.Carried.TheVariants.{List as a_list}
use Rattle.hand_lemmas.specs.Hands.{in_hand, in_state}
use Rattle.hand_lemmas.proofs.Tells.{IsNext, next_list}
use Rattle.book_lemmas.specs.Views.{BookView, HeldView, hands_of}
use Rattle.driver_tray.specs.Tray.{TrayView}
use Rattle.call_lemmas.proofs.Deliveries.{settle_rows}
use Rattle.book_parts.specs.Events.{IsBook, IsIdle}
use Rattle.book_parts.proofs.Events.{Begins, Ends, begins_roomed, did_event, ends_still}
use Rattle.binding_work.specs.Homes.{IsRoomed}
use Rattle.binding_work.specs.Ups.{IsReadyToReturn, IsUntaken}
use Rattle.binding_work.proofs.Homing.{pump_is}
use Rattle.binding_work.proofs.Sending.{IsDone, any_choice}
use Rattle.binding_work.proofs.Upward.{up_event}
use Rattle.delivery_work.specs.Takers.{passing, is_taker, takers_from}
use Rattle.delivery_work.specs.Desks.{Delivers, desk}
use Rattle.delivery_work.specs.Works.{IsReadyForAll, Works}
use Rattle.delivery_work.specs.Works.Works.{delivers, returns}
use Rattle.delivery_work.proofs.Counting.{takers_passing}
use Rattle.delivery_work.proofs.Readied.{some_bound}
use Rattle.delivery_work.proofs.Written.{all_rows, last}
use Rattle.delivery_work.proofs.Chained.{IsAlong, going, each}

-- the takers of the rules, by the bindings of the book
takers_are : (old : BookView) (frames : List (List ℕ)) (many : ℕ) → IsBook old → many ≡ length old.held.protocols → takers old.tray.net frames ≡ takers_from old.tray.net frames 0 many
takers_are old frames many k count =
    let all : many - 0 ≡ many = omega arith in
    takers_passing old.tray.net frames ∙ ap (passing (is_taker old.tray.net frames) 0) (sym (all ∙ count ∙ k.stands.protocols))

delivered_event : (old mid new : BookView) (many : ℕ) (l : ListView) (t : TrayView) (b : ℕ) (bs : List ℕ) → IsBook old → IsIdle old → phase_is_running old.tray.net.phase ≡ true → IsRoomed old mid → 1 ≤ mid.tray.room.turns → many ≡ length old.held.protocols
    → mid.tray ≡ record t { queue = a_list l way.Up Bindings ∷ t.queue } → takers_from t.net l.frames 0 many ≡ b ∷ bs → Delivers l b bs (desk old.held.protocols old.held.protocol_pools t) (desk new.held.protocols new.held.protocol_pools new.tray)
    → new.held ≡ record old.held { protocols = new.held.protocols; protocol_pools = new.held.protocol_pools } → IsDone old new event.Pump reply.Moved
delivered_event old mid new many l t b bs k i run r turns count takes taken d held =
    let g : Begins old.tray mid.tray [] = begins_roomed old.tray mid.tray r.tray r.covers r.slack in
    let still : Ends old (going old l (desk old.held.protocols old.held.protocol_pools t)) [] = subst (λ (x : TrayView). Ends old (record { tray = x; held = old.held }) []) takes (ends_still mid.tray k g) in
    let net : t.net ≡ old.tray.net = sym (ap (λ (x : TrayView). x.net) takes) ∙ g.net in
    let queue : old.tray.queue ≡ a_list l way.Up Bindings ∷ t.queue = g.queue ∙ ap (λ (x : TrayView). x.queue) takes in
    let n : IsNext old.tray.net (hands_of old.tray.queue old.held []) l way.Up Bindings = next_list old.tray.net (hands_of old.tray.queue old.held []) l way.Up Bindings t.queue k.stands.agrees queue in
    let same : in_state n.x ≡ in_hand l = ap in_state (sym n.is) ∙ n.mine.same in
    let along : IsAlong old (desk old.held.protocols old.held.protocol_pools t) b old.tray.net.next.list = record {
      pools = λ j above. refl;
      after = record { head = ap (λ (q : Net). q.head) net; modules = ap (λ (q : Net). q.modules) net; list = ap (λ (q : Net). q.next.list) net };
      turns = subst (λ (x : TrayView). 1 ≤ x.room.turns) takes turns;
    } in
    let all = each old l b bs (desk old.held.protocols old.held.protocol_pools t) (desk new.held.protocols new.held.protocol_pools new.tray) k i run d [] old.tray.net.next.list still along in
    let taken_is : takers old.tray.net l.frames ≡ b ∷ bs = takers_are old l.frames many k count ∙ ap (λ (q : Net). takers_from q l.frames 0 many) (sym net) ∙ taken in
    let rows : List Row = delivered old.tray.net l.label.number l.frames Own old.tray.net.next.list (b ∷ bs) ++ settle_rows old.tray.net.modules (last b bs) all.keeps (in_hand l) in
    let done : Ends old new rows = subst (λ (h : HeldView). Ends old (record { tray = new.tray; held = h }) rows) (sym held) all.all in
    let choice : Choice = record any_choice { keeps = all.keeps } in
    let outcome_is = pump_is old.tray.net n.x all.keeps n.first in
    record {
      did = did_event old new rows event.Pump choice reply.Moved k i done (sym (ap (λ (q : Outcome). q.reply) outcome_is))
          (all_rows old.tray.net n.x l b bs all.keeps same taken_is all.may
          ∙ ap (λ run. cond run (delivery_rows old.tray.net n.x all.keeps) (turned_back old.tray.net.modules n.x (Binding 0) Paused)) (sym run)
          ∙ ap (λ st. moved_rows old.tray.net n.x st all.keeps) (sym n.stand) ∙ sym (ap (λ (q : Outcome). q.rows) outcome_is)) refl tt (ap (λ (h : HeldView). h.shelf) held, ap (λ (h : HeldView). h.seats) held);
      turn = record { room = all.turns };
    }

-- the whole event
pub works_event : (old mid new : BookView) (many : ℕ) → IsBook old → IsIdle old → phase_is_running old.tray.net.phase ≡ true → IsRoomed old mid → IsReadyForAll many mid → many ≡ length old.held.protocols → Works many mid new → IsDone old new event.Pump reply.Moved
works_event old mid new many k i run r ready count (delivers l t b bs takes taken d held) =
    delivered_event old mid new many l t b bs k i run r ready.turns count takes taken
    (subst (λ (h : HeldView). Delivers l b bs (desk h.protocols h.protocol_pools t) (desk new.held.protocols new.held.protocol_pools new.tray)) r.held d)
    (held ∙ ap (λ (h : HeldView). record h { protocols = new.held.protocols; protocol_pools = new.held.protocol_pools }) r.held)
works_event old mid new many k i run r ready count (returns g none) =
    let some : 1 ≤ many = some_bound old many k i count in
    let room : IsReadyToReturn old mid = record { roomed = r; turns = ready.turns; rows = omega (arith, some, ready.room.rows); slack = omega (arith, some, ready.room.slack) } in
    up_event old mid new true k i room g run (λ e l rest first. untaken l rest first)
  where
    untaken : IsUntaken old
    untaken l rest first =
        let begun : Begins old.tray mid.tray [] = begins_roomed old.tray mid.tray r.tray r.covers r.slack in
        let here : mid.tray.queue ≡ a_list g.list way.Up Bindings ∷ g.taken.queue = ap (λ (x : TrayView). x.queue) g.takes in
        let there : mid.tray.queue ≡ a_list l way.Up Bindings ∷ rest = sym begun.queue ∙ first in
        let same : g.list ≡ l = cc in
        takers_are old l.frames many k count ∙ ap (λ (q : Net). takers_from q l.frames 0 many) (sym begun.net) ∙ ap (λ (x : ListView). takers_from mid.tray.net x.frames 0 many) (sym same) ∙ none
