-- What is first on its way, and what the rules do with it.
use Rattle.std.proofs.Common.{◌≡◌, ◌||◌, Bool, true, false, List, [], ◌∷◌, Option, Some, None, is_some, refl, sym, ap, ◌∙◌, subst}
use Rattle.std.proofs.lemmas.Bool.{cond-true}
use Rattle.journal_types.specs.declared.PassWay.{PassWay}
use Rattle.journal_types.specs.declared.PassWay.TheVariants as way
use Rattle.journal_types.specs.declared.Target.{Target}
use Rattle.journal_types.specs.declared.Target.TheVariants.{Bindings}
use Rattle.journal_types.specs.declared.Event.TheVariants as event
use Rattle.journal_types.specs.declared.Reply.{Reply}
use Rattle.journal_types.specs.declared.Reply.TheVariants as reply
use Rattle.stack_rules.specs.declared.Choice.{Choice}
use Rattle.stack_rules.specs.declared.LiveList.{LiveList}
use Rattle.stack_rules.specs.declared.Stand.TheVariants as stand
use Rattle.stack_rules.specs.declared.Thing.{Thing}
use Rattle.stack_rules.specs.declared.Thing.TheVariants as thing
use Rattle.stack_rules.specs.Drains.{drain_outcome}
use Rattle.stack_rules.specs.Net.{Net, Modules}
use Rattle.stack_rules.specs.Outcome.{Outcome, answered}
use Rattle.stack_rules.specs.Places.{agenda_first}
use Rattle.stack_rules.specs.Pumps.{pump_of, pump_outcome, request_pump, is_pump_moving}
use Rattle.stack_rules.specs.Requests.{Giving, next_giving}
use Rattle.agenda_items.specs.declared.Carried.{Carried}
use Rattle.agenda_items.specs.declared.Carried.TheVariants.{List as a_list, Status as a_status, Answer as an_answer}
use Rattle.hand_lemmas.proofs.Tells.{next_list, next_status, next_answer, none_away}
use Rattle.place_laws.specs.Kept.{StandsPlaced}
use Rattle.driver_tray.specs.declared.on_way.First.{First}
use Rattle.driver_tray.specs.declared.on_way.First.TheVariants as first
use Rattle.driver_tray.specs.Tray.{TrayView, first_way}
use Rattle.book_lemmas.specs.Between.{IsBetween}
use Rattle.book_lemmas.specs.Views.{BookView, hands_of}
use Rattle.book_lemmas.proofs.Between.{first_placed}
use Rattle.book_parts.specs.Events.{IsBook, IsIdle, DidEvent, FirstIs, CanEnd}
use Rattle.book_parts.proofs.Ended.{idle_state}
use Rattle.book_parts.proofs.Events.{Begins, did_event, ends_still}
use Rattle.pump_work.specs.Pumps.{IsStill, MovesOne, MovesNone}

-- the list that is first on its way
pub first_is : {v : BookView} {by : PassWay} {to : Target} → first_way v.tray.queue ≡ Some (first.List by to) → FirstIs v by to
first_is {v} {by} {to} e = from v.tray.queue refl e
  where
    from : (q : List Carried) → v.tray.queue ≡ q → first_way q ≡ Some (first.List by to) → FirstIs v by to
    from [] is e = cc
    from (a_list l w t ∷ rest) is e =
        let same_way : w ≡ by = cc in
        let same_to : t ≡ to = cc in
        record { list = l; rest = rest; first = is ∙ ap (λ x. a_list l x t ∷ rest) same_way ∙ ap (λ x. a_list l by x ∷ rest) same_to }
    from (a_status s ∷ rest) is e = cc
    from (an_answer a ∷ rest) is e = cc

-- nothing is on its way
none_is : (q : List Carried) → first_way q ≡ None → q ≡ []
none_is [] e = refl
none_is (a_list l w t ∷ rest) e = cc
none_is (a_status s ∷ rest) e = cc
none_is (an_answer a ∷ rest) e = cc

between : (old : BookView) → IsBook old → IsIdle old → IsBetween old.tray.head old.tray.turns old.tray.net
between old k i = record { is = idle_state old k i; sound = k.follows.sound; bound = k.bound }

up_by : (ms : Modules) (x : LiveList) (w : PassWay) → StandsPlaced ms x (stand.Passed w Bindings) → w ≡ way.Up
up_by ms x way.Down s = absurd s
up_by ms x way.Up s = refl
up_by ms x (way.Done status) s = absurd s
up_by ms x (way.Back status) s = absurd s

-- what goes to the bindings goes up
pub up_is : {old : BookView} {by : PassWay} → IsBook old → IsIdle old → FirstIs old by Bindings → FirstIs old way.Up Bindings
up_is {old} {by} k i f =
    let n = next_list old.tray.net (hands_of old.tray.queue old.held []) f.list by Bindings f.rest k.stands.agrees f.first in
    let stands : StandsPlaced old.tray.net.modules n.x (stand.Passed by Bindings) = subst (StandsPlaced old.tray.net.modules n.x) n.stand (first_placed (between old k i) n.x n.first).stands in
    subst (λ w. FirstIs old w Bindings) (up_by old.tray.net.modules n.x by stands) f

-- the first list on its way to the bindings goes up
pub bindings_first : {v : BookView} {by : PassWay} {to : Target} → IsBook v → IsIdle v → first_way v.tray.queue ≡ Some (first.List by to) → to ≡ Bindings → FirstIs v way.Up Bindings
bindings_first {v} {by} {to} k i e is =
    let at : FirstIs v by to = first_is e in
    up_is k i (subst (λ t. FirstIs v by t) is at)

abbrev any_choice : Choice
any_choice = record { keeps = false; refuses = false; shelf_empty = false }

-- where nothing is on its way, and no request may be given, a pump is idle
pub did_idle : (old : BookView) (t : TrayView) → IsBook old → IsIdle old → IsStill old → Begins old.tray t []
    → DidEvent old (record { tray = t; held = old.held }) event.Pump reply.Idle
did_idle old t k i still g =
    let net : Net = old.tray.net in
    let away : agenda_first net ≡ None = none_away net (hands_of old.tray.queue old.held []) k.stands.agrees still.queue in
    let out : pump_outcome net false ≡ answered reply.Idle = ap (pump_of net false) away ∙ ap (request_pump net) still.requests in
    did_event old _ [] event.Pump any_choice reply.Idle k i (ends_still t k g)
    (ap (λ (o : Outcome). o.reply) (sym out)) (ap (λ (o : Outcome). o.rows) (sym out)) refl tt (refl, refl)

-- where something is on its way, a pump moves
some_away : (old : BookView) (q : List Carried) (f : First) → IsBook old → old.tray.queue ≡ q → first_way q ≡ Some f → is_some (agenda_first old.tray.net) ≡ true
some_away old [] f k is e = cc
some_away old (a_list l w t ∷ rest) f k is e = ap is_some (next_list old.tray.net (hands_of old.tray.queue old.held []) l w t rest k.stands.agrees is).first
some_away old (a_status s ∷ rest) f k is e = ap is_some (next_status old.tray.net (hands_of old.tray.queue old.held []) s rest k.stands.agrees is)
some_away old (an_answer a ∷ rest) f k is e = ap is_some (next_answer old.tray.net (hands_of old.tray.queue old.held []) a rest k.stands.agrees is)

-- and a drain does what a pump does
as_drain : (old new : BookView) (answer : Reply) → is_pump_moving old.tray.net ≡ true → DidEvent old new event.Pump answer → DidEvent old new event.Drain answer
as_drain old new answer moving d =
    let net : Net = old.tray.net in
    let same : drain_outcome net d.choice.keeps ≡ pump_outcome net d.choice.keeps = cond-true (is_pump_moving net) _ _ moving in
    record {
      book = d.book;
      choice = d.choice;
      reply = d.reply ∙ ap (λ (o : Outcome). o.reply) (sym same);
      rows = d.rows ∙ ap (λ (o : Outcome). o.rows) (sym same);
      tells = d.tells;
      goes = d.goes;
      refused = tt;
      still = d.still;
    }

moves_one : (old new : BookView) → is_pump_moving old.tray.net ≡ true → DidEvent old new event.Pump reply.Moved → CanEnd new → MovesOne old new
moves_one old new moving d turn = record { pump = d; drain = as_drain old new reply.Moved moving d; turn = turn }

-- what is first on its way
pub moves_first : (old new : BookView) (f : First) → IsBook old → first_way old.tray.queue ≡ Some f → DidEvent old new event.Pump reply.Moved → CanEnd new → MovesOne old new
moves_first old new f k e d turn = moves_one old new (ap (λ b. b || is_some (next_giving old.tray.net)) (some_away old old.tray.queue f k refl e)) d turn

right_true : (a b : Bool) → b ≡ true → (a || b) ≡ true
right_true true b e = refl
right_true false b e = e

-- a request that is given
pub moves_given : (old new : BookView) (g : Giving) → next_giving old.tray.net ≡ Some g → DidEvent old new event.Pump reply.Moved → CanEnd new → MovesOne old new
moves_given old new g e d turn = moves_one old new (right_true (is_some (agenda_first old.tray.net)) (is_some (next_giving old.tray.net)) (ap is_some e)) d turn

-- nothing moves
pub moves_none : (v : BookView) → first_way v.tray.queue ≡ None → next_giving v.tray.net ≡ None → MovesNone v v
moves_none v none next = record { same = refl; still = record { queue = none_is v.tray.queue none; requests = next } }
