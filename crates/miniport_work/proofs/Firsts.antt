-- What is known of the first thing on its way, a list, as an event of the miniport begins.
use Rattle.std.proofs.Common.{◌≡◌, ◌≢◌, false, ℕ, true, List, [], ◌∷◌, Option, Some, IsSome, refl, sym, ap, ◌∙◌, subst}
use Rattle.ndis_base.specs.declared.Direction.{Direction}
use Rattle.ndis_base.specs.declared.Direction.TheVariants as direction
use Rattle.ndis_base.specs.declared.ListStatus.{ListStatus}
use Rattle.ndis_base.specs.declared.Phase.{Phase}
use Rattle.ndis_base.specs.declared.Phase.TheVariants as phase
use Rattle.journal_types.specs.declared.PassWay.{PassWay}
use Rattle.journal_types.specs.declared.PassWay.TheVariants as ways
use Rattle.journal_types.specs.declared.PortSetup.{PortSetup}
use Rattle.journal_types.specs.declared.Target.{Target}
use Rattle.journal_types.specs.declared.Target.TheVariants.{Module}
use Rattle.ndis_base.specs.declared.ModuleId.TheVariants.{Miniport}
use Rattle.flat_journal.specs.declared.types.Room.{Room}
use Rattle.driver_views.specs.States.{MiniportState}
use Rattle.buffer_pools.specs.Views.{ListView, IsOf}
use Rattle.stack_rules.specs.declared.Answered.{Answered}
use Rattle.stack_rules.specs.declared.LiveList.{LiveList}
use Rattle.stack_rules.specs.declared.Stand.TheVariants as stand
use Rattle.stack_rules.specs.declared.StatusAway.{StatusAway}
use Rattle.stack_rules.specs.declared.Thing.TheVariants as thing
use Rattle.stack_rules.specs.Places.{agenda_first}
use Rattle.stack_rules.specs.Tests.{is_down}
use Rattle.agenda_items.specs.declared.Carried.{Carried}
use Rattle.agenda_items.specs.declared.Carried.TheVariants.{List as a_list}
use Rattle.agenda_items.specs.declared.Item.{Item}
use Rattle.agenda_items.specs.declared.Item.TheVariants as item
use Rattle.agenda_items.specs.Views.{kept_as}
use Rattle.hand_lemmas.specs.Hands.{in_state, in_hand}
use Rattle.hand_lemmas.proofs.Tells.{next_list}
use Rattle.driver_tray.specs.Tray.{TrayView}
use Rattle.book_lemmas.specs.Between.{IsBetween}
use Rattle.book_lemmas.specs.Stands.{DriversFit}
use Rattle.book_lemmas.specs.Views.{BookView, HeldView, held_pool, hands_of}
use Rattle.book_lemmas.proofs.Between.{not_halted}
use Rattle.homeward_laws.specs.Homeward.{LeadsTo}
use Rattle.homeward_laws.proofs.Targets.{first_bound}
use Rattle.lent_laws.specs.Lent.{is_lent}
use Rattle.book_parts.specs.Events.{IsBook, IsIdle, FirstIs}
use Rattle.book_parts.proofs.Ended.{idle_state}
use Rattle.book_parts.proofs.Events.{Begins, begins_roomed}
use Rattle.miniport_work.specs.Works.{GoesToMiniport, StartsWithList, IsRoomed, IsReady}

-- where a list is the first, nothing else is
pub no_status : {queue rest : List Carried} {i : Item} {s : StatusAway} → StartsWithList queue → queue ≡ kept_as i ∷ rest → i ≡ item.Status s → ⊥
no_status {queue} {rest} {i} {s} f e is = let a = f.is in cc

pub no_answer : {queue rest : List Carried} {i : Item} {a : Answered} → StartsWithList queue → queue ≡ kept_as i ∷ rest → i ≡ item.Answer a → ⊥
no_answer {queue} {rest} {i} {a} f e is = let k = f.is in cc

pub between : (old : BookView) → IsBook old → IsIdle old → IsBetween old.tray.head old.tray.turns old.tray.net
between old k i = record { is = idle_state old k i; sound = k.follows.sound; bound = k.bound }

-- the list in front, in hand and in the state
pub record IsFirstList (old : BookView) (l : ListView) (way : PassWay) (to : Target) : Type 0 where
  pub x : LiveList
  pub first : agenda_first old.tray.net ≡ Some (thing.List x)
  pub stand : x.stand ≡ stand.Passed way to
  pub same : in_state x ≡ in_hand l
  pub housed : IsOf (held_pool old.held l.label.owner) l
  pub live : old.tray.net.phase ≢ phase.Halted

pub first_list : (old : BookView) (l : ListView) (way : PassWay) (to : Target) (rest : List Carried) → IsBook old → IsIdle old → old.tray.queue ≡ a_list l way to ∷ rest → IsFirstList old l way to
first_list old l way to rest k i e =
    let n = next_list old.tray.net (hands_of old.tray.queue old.held []) l way to rest k.stands.agrees e in
    record {
      x = n.x;
      first = n.first;
      stand = n.stand;
      same = ap in_state (sym n.is) ∙ n.mine.same;
      housed = n.mine.housed;
      live = not_halted (between old k i) (thing.List n.x) n.first;
    }

-- a stack that isn't Halted has its miniport set up
port_up : (port : PortSetup) (held : HeldView) (p : Phase) → p ≢ phase.Halted → DriversFit port held p → held.miniport.port ≡ Some port
port_up port held phase.Halted other d = absurd (other refl)
port_up port held phase.Paused other d = d
port_up port held phase.Restarting other d = d
port_up port held phase.Running other d = d
port_up port held phase.Pausing other d = d

pub port_is : (old : BookView) → IsBook old → old.tray.net.phase ≢ phase.Halted → old.held.miniport.port ≡ Some old.tray.net.head.port
port_is old k live = port_up old.tray.net.head.port old.held old.tray.net.phase live k.stands.drivers

pub is_some : {X : Type 0} {o : Option X} {x : X} → o ≡ Some x → IsSome o
is_some {X} {o} {x} e = rw e refl

pub down_is : (d : Direction) → is_down d ≡ true → d ≡ direction.Down
down_is direction.Down e = refl
down_is direction.Up e = cc
down_is direction.Lent e = cc

-- a receive that isn't lent
pub up_is : (d : Direction) → is_down d ≡ false → is_lent d ≡ false → d ≡ direction.Up
up_is direction.Down e o = cc
up_is direction.Up e o = refl
up_is direction.Lent e o = cc

-- the tray before the call, once the list was taken from what is on its way
pub begins_taken : {old before t : TrayView} {c : Carried} → IsRoomed old before → before ≡ record t { queue = c ∷ t.queue } → Begins old t (c ∷ [])
begins_taken {old} {before} {t} {c} r e =
    let g : Begins old (record t { queue = c ∷ t.queue }) [] = subst (λ q. Begins old q []) e (begins_roomed old before r.same r.covers r.slack) in
    record {
      head = g.head;
      turns = g.turns;
      told_by = g.told_by;
      net = g.net;
      rows = g.rows;
      queue = g.queue;
      used = record { rows_used = g.used.rows_used; frames = g.used.frames; bytes = g.used.bytes; slack = g.used.slack; turns = g.used.turns; payloads = g.used.payloads };
    }

-- the list that was taken is the one that comes to the miniport
pub record IsTaken (old : BookView) (l : ListView) (way : PassWay) (t : TrayView) : Type 0 where
  pub begins : Begins old.tray t (a_list l way (Module Miniport) ∷ [])
  pub list : IsFirstList old l way (Module Miniport)

to_is : {old : BookView} {before t : TrayView} {l : ListView} {way w : PassWay} {to : Target} → FirstIs old w (Module Miniport) → IsRoomed old.tray before → before ≡ record t { queue = a_list l way to ∷ t.queue } → (to ≡ Module Miniport) × (way ≡ w)
to_is {old} {before} {t} {l} {way} {w} {to} f r e =
    let a : old.tray.queue ≡ a_list f.list w (Module Miniport) ∷ f.rest = f.first in
    let b : old.tray.queue ≡ a_list l way to ∷ t.queue = sym (ap (λ (q : TrayView). q.queue) r.same) ∙ ap (λ (q : TrayView). q.queue) e in
    (cc, cc)

pub taken_is : {old : BookView} {before t : TrayView} {l : ListView} {way w : PassWay} {to : Target} → IsBook old → IsIdle old → FirstIs old w (Module Miniport) → IsRoomed old.tray before → before ≡ record t { queue = a_list l way to ∷ t.queue }
    → IsTaken old l w t
taken_is {old} {before} {t} {l} {way} {w} {to} k i f r e =
    let is = to_is f r e in
    let same : before ≡ record t { queue = a_list l w (Module Miniport) ∷ t.queue } =
    e ∙ ap (λ q. record t { queue = a_list l way q ∷ t.queue }) is.0 ∙ ap (λ q. record t { queue = a_list l q (Module Miniport) ∷ t.queue }) is.1 in
    let begins : Begins old.tray t (a_list l w (Module Miniport) ∷ []) = begins_taken r same in
    record { begins = begins; list = first_list old l w (Module Miniport) t.queue k i begins.queue }

-- room stays as a list is taken
pub ready_taken : {room : Room} {things : ℕ} {s : MiniportState} {before t : TrayView} {queue : List Carried} → before ≡ record t { queue = queue } → IsReady room things s before → IsReady room things s t
ready_taken {room} {things} {s} {before} {t} {queue} e r =
    let q : IsReady room things s (record t { queue = queue }) = subst (IsReady room things s) e r in
    record { send = q.send; returned = q.returned; covers = q.covers; slack = q.slack; low = q.low }

pub starts_with : {old : BookView} {before : TrayView} → GoesToMiniport old → IsRoomed old.tray before → StartsWithList before.queue
starts_with {old} {before} g r = record {
  list = g.first.list;
  way = g.by;
  to = Module Miniport;
  rest = g.first.rest;
  is = ap (λ (q : TrayView). q.queue) r.same ∙ g.first.first;
}

-- which list was taken, by which way it is passed
way_is : {old : BookView} {before t : TrayView} {l : ListView} {way v : PassWay} {to : Target} → (g : GoesToMiniport old) → IsRoomed old.tray before → before ≡ record t { queue = a_list l way to ∷ t.queue } → way ≡ v → g.by ≡ v
way_is g r e is = sym (to_is g.first r e).1 ∙ is

-- the list goes to the miniport by the way of the one that was taken
pub goes_as : {old : BookView} {before t : TrayView} {l : ListView} {way v : PassWay} {to : Target} → GoesToMiniport old → IsRoomed old.tray before → before ≡ record t { queue = a_list l way to ∷ t.queue } → way ≡ v → FirstIs old v (Module Miniport)
goes_as {old} g r e is = subst (λ w. FirstIs old w (Module Miniport)) (way_is g r e is) g.first

-- it leads to the miniport
leads : {old : BookView} {before t : TrayView} {l : ListView} {way v : PassWay} {to : Target} → IsBook old → IsIdle old → GoesToMiniport old → IsRoomed old.tray before → before ≡ record t { queue = a_list l way to ∷ t.queue } → way ≡ v → LeadsTo v Miniport
leads {old} {v = v} k i g r e is =
    let b = between old k i in
    let f : FirstIs old v (Module Miniport) = goes_as g r e is in
    let n = first_list old f.list v (Module Miniport) f.rest k i f.first in
    (first_bound old.tray.head old.tray.turns old.tray.net b.is b.sound b.bound n.x v Miniport n.first n.stand).1

pub not_up : {old : BookView} {before t : TrayView} {l : ListView} {way : PassWay} {to : Target} → IsBook old → IsIdle old → GoesToMiniport old → IsRoomed old.tray before → before ≡ record t { queue = a_list l way to ∷ t.queue } → way ≡ ways.Up → ⊥
not_up k i g r e is = leads k i g r e is

pub not_done : {old : BookView} {before t : TrayView} {l : ListView} {way : PassWay} {to : Target} {status : ListStatus} → IsBook old → IsIdle old → GoesToMiniport old → IsRoomed old.tray before → before ≡ record t { queue = a_list l way to ∷ t.queue } → way ≡ ways.Done status → ⊥
not_done k i g r e is = leads k i g r e is
