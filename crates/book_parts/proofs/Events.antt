-- Where an event of one call begins and where it ends: the book stands again, and the rows are those of the event.
use Rattle.std.proofs.Common.{◌≡◌, ℕ, ◌≤◌, List, [], ◌++◌, None, length, refl, sym, ap, ◌∙◌, subst, arith, append-nil}
use Rattle.flat_journal.proofs.Grown.{grows_nothing}
use Rattle.flat_journal.specs.Grows.{Grows}
use Rattle.ndis_base.specs.declared.ModuleId.{ModuleId}
use Rattle.journal_types.specs.declared.Event.{Event}
use Rattle.journal_types.specs.declared.Reply.{Reply}
use Rattle.journal_types.specs.declared.Row.{Row}
use Rattle.journal_types.specs.declared.StackHead.{StackHead}
use Rattle.buffer_pools.specs.Views.{ListView, PoolView}
use Rattle.flat_journal.specs.Rooms.{Covers}
use Rattle.stack_rules.specs.declared.Choice.{Choice}
use Rattle.stack_rules.specs.Net.{Net, told, after_rows}
use Rattle.stack_rules.specs.Sound.{outcome}
use Rattle.promise_rules.specs.declared.Call.{Call}
use Rattle.agenda_items.specs.declared.Carried.{Carried}
use Rattle.book_lemmas.specs.Called.{IsCalled}
use Rattle.book_lemmas.specs.Did.{Did}
use Rattle.book_lemmas.specs.Follows.{Follows}
use Rattle.book_lemmas.specs.Leaves.{Leaves}
use Rattle.book_lemmas.specs.Shelves.{Balks, IsStill}
use Rattle.book_lemmas.specs.Stands.{Stands}
use Rattle.book_lemmas.specs.Turns.{HasUsed}
use Rattle.book_lemmas.specs.Views.{BookView, HeldView, hands_of}
use Rattle.book_lemmas.proofs.Follows.{follows_rows}
use Rattle.book_lemmas.proofs.Goes.{did_none, used_none, used_then}
use Rattle.driver_tray.specs.Tray.{TrayView, begun_by}
use Rattle.call_lemmas.specs.InCall.{InCall}
use Rattle.call_lemmas.proofs.Ends.{leaves}
use Rattle.book_parts.specs.Events.{IsBook, IsIdle, DidEvent, IsUnmoved, begun_with}

-- the tray is as the event found it, but for room, the module that is called, its pool, and what was taken from the queue
pub record Begins (old b : TrayView) (front : List Carried) : Type 0 where
  pub head : b.head ≡ old.head
  pub turns : b.turns ≡ old.turns
  pub told_by : b.told_by ≡ old.told_by
  pub net : b.net ≡ old.net
  pub rows : b.rows ≡ old.rows
  pub queue : old.queue ≡ front ++ b.queue
  pub used : HasUsed old [] b

-- room was made
pub begins_roomed : (old t : TrayView) → t ≡ record old { room = t.room; slack = t.slack } → Covers t.room old.room → old.slack ≤ t.slack → Begins old t []
begins_roomed old t same room slack = record {
  head = ap (λ (x : TrayView). x.head) same;
  turns = ap (λ (x : TrayView). x.turns) same;
  told_by = ap (λ (x : TrayView). x.told_by) same;
  net = ap (λ (x : TrayView). x.net) same;
  rows = ap (λ (x : TrayView). x.rows) same;
  queue = sym (ap (λ (x : TrayView). x.queue) same);
  used = record {
    rows_used = omega (arith, room.rows);
    frames = omega (arith, room.frames);
    bytes = omega (arith, room.bytes);
    slack = omega (arith, slack);
    turns = room.turns;
    payloads = subst (Grows old.payloads) (sym (ap (λ (x : TrayView). x.payloads) same)) (grows_nothing old.payloads);
  };
}

-- a module is called, with its pool
pub begins_called : {old t : TrayView} {front : List Carried} (m : ModuleId) (pool : PoolView) → Begins old t front → Begins old (record t { caller = m; pool = pool }) front
begins_called {old} {t} m pool g = record {
  head = g.head;
  turns = g.turns;
  told_by = g.told_by;
  net = g.net;
  rows = g.rows;
  queue = g.queue;
  used = record { rows_used = g.used.rows_used; frames = g.used.frames; bytes = g.used.bytes; slack = g.used.slack; turns = g.used.turns; payloads = g.used.payloads };
}

-- the book stands, with what was taken in the hands of the event's function
pub begins_stands : {old : BookView} {b : TrayView} {front : List Carried} → IsBook old → Begins old.tray b front → Stands b.net (front ++ b.queue) old.held []
begins_stands {old} {b} {front} k g =
    subst (λ (n : Net). Stands n (front ++ b.queue) old.held []) (sym g.net)
    (subst (λ q. Stands old.tray.net q old.held []) g.queue k.stands)

-- the event's rows are written, and the drivers did what they say
pub record Ends (old new : BookView) (rows : List Row) : Type 0 where
  pub head : new.tray.head ≡ old.tray.head
  pub turns : new.tray.turns ≡ old.tray.turns
  pub told_by : new.tray.told_by ≡ old.tray.told_by
  pub net : new.tray.net ≡ after_rows old.tray.net rows
  pub rows_are : new.tray.rows ≡ old.tray.rows ++ rows
  pub used : HasUsed old.tray rows new.tray
  pub did : Did old.held.seats old.held new.held old.tray.net rows
  pub stands : Stands new.tray.net new.tray.queue new.held []

ended_book : (old new : BookView) (rows : List Row) → IsBook old → Ends old new rows → IsBook new
ended_book old new rows k d =
    let f : Follows old.tray.head old.tray.turns old.tray.told_by new.tray.net (old.tray.rows ++ rows) = follows_rows rows k.follows d.net in
    record {
      stands = d.stands;
      follows = subst (λ rs. Follows new.tray.head new.tray.turns new.tray.told_by new.tray.net rs) (sym d.rows_are)
          (subst (λ o. Follows new.tray.head new.tray.turns o new.tray.net (old.tray.rows ++ rows)) (sym d.told_by)
          (subst (λ ts. Follows new.tray.head ts old.tray.told_by new.tray.net (old.tray.rows ++ rows)) (sym d.turns)
          (subst (λ h. Follows h old.tray.turns old.tray.told_by new.tray.net (old.tray.rows ++ rows)) (sym d.head) f)));
      bound = subst (λ (h : StackHead). 1 ≤ length h.bindings) (sym d.head) k.bound;
    }

-- so the event is done
pub did_event : (old new : BookView) (rows : List Row) (e : Event) (choice : Choice) (answer : Reply) → IsBook old → IsIdle old → Ends old new rows
    → answer ≡ (outcome old.tray.net e choice).reply → rows ≡ (outcome old.tray.net e choice).rows → told old.tray.net e answer ≡ old.tray.net
    → Balks e answer old.held new.held → IsStill e old.held new.held → DidEvent old new e answer
did_event old new rows e choice answer k i d reply outcome_is tells refused still =
    let all : new.tray.rows ≡ rows = d.rows_are ∙ ap (λ rs. rs ++ rows) i.rows in
    let none : new.tray.told_by ≡ None = d.told_by ∙ i.told_by in
    let begun : old.tray.net ≡ begun_by old.tray.net new.tray.told_by = sym (ap (begun_by old.tray.net) none) in
    let used : HasUsed old.tray new.tray.rows new.tray = subst (λ rs. HasUsed old.tray rs new.tray) (sym all) d.used in
    record {
      book = ended_book old new rows k d;
      choice = choice;
      reply = reply;
      rows = all ∙ outcome_is;
      tells = sym begun ∙ sym tells;
      goes = record {
        head = d.head;
        turns = d.turns;
        told_by = refl;
        net = d.net ∙ ap (λ rs. after_rows old.tray.net rs) (sym all) ∙ ap (λ n. after_rows n new.tray.rows) begun;
        rows = sym (ap (λ rs. rs ++ new.tray.rows) i.rows);
        used = record { rows_used = used.rows_used; frames = used.frames; bytes = used.bytes; slack = used.slack; turns = used.turns; payloads = used.payloads };
        did = subst (λ n. Did old.held.seats old.held new.held n new.tray.rows) begun (subst (λ rs. Did old.held.seats old.held new.held old.tray.net rs) (sym all) d.did);
      };
      refused = refused;
      still = still;
    }

-- an event of one call ends
pub ends_call : {old : BookView} {b t : TrayView} {front : List Carried} {m : ModuleId} {rows : List Row} {calls : List Call} {log : List (List (List ℕ))} {kept : List ListView} (held : HeldView) (pool : PoolView)
    → IsBook old → Begins old.tray b front → InCall b (hands_of (front ++ b.queue) old.held []) m rows calls log t (record { front = []; loose = []; kept = kept })
    → IsCalled old.held held m kept t.pool → Leaves old.held held → length held.miniport.kept ≤ old.tray.net.head.port.ring → Did old.held.seats old.held held b.net rows
    → Ends old (record { tray = record t { pool = pool }; held = held }) rows
ends_call {old} {b} {t} {front} {m} {rows} {calls} {log} {kept} held pool k g i c l ring did =
    let used : HasUsed old.tray rows t = used_then old.tray b t [] rows g.used i.used in
    record {
      head = i.head ∙ g.head;
      turns = i.turns ∙ g.turns;
      told_by = i.told_by ∙ g.told_by;
      net = i.net ∙ ap (λ n. after_rows n rows) g.net;
      rows_are = i.rows_are ∙ ap (λ rs. rs ++ rows) g.rows;
      used = record { rows_used = used.rows_used; frames = used.frames; bytes = used.bytes; slack = used.slack; turns = used.turns; payloads = used.payloads };
      did = subst (λ (n : Net). Did old.held.seats old.held held n rows) g.net did;
      stands = leaves (begins_stands k g) i c l (subst (λ (n : Net). length held.miniport.kept ≤ n.head.port.ring) (sym g.net) ring);
    }

-- an event without rows ends
pub ends_still : {old : BookView} (t : TrayView) → IsBook old → Begins old.tray t [] → Ends old (record { tray = t; held = old.held }) []
ends_still {old} t k g = record {
  head = g.head;
  turns = g.turns;
  told_by = g.told_by;
  net = g.net;
  rows_are = g.rows ∙ sym (append-nil old.tray.rows);
  used = g.used;
  did = did_none old.held.seats old.held old.tray.net;
  stands = begins_stands k g;
}

-- after want of memory
pub unmoved : {old : BookView} (t : TrayView) → IsBook old → Begins old.tray t [] → IsUnmoved old (record { tray = t; held = old.held })
unmoved {old} t k g = record {
  book = ended_book old (record { tray = t; held = old.held }) [] k (ends_still t k g);
  head = g.head;
  turns = g.turns;
  told_by = g.told_by;
  net = g.net;
  rows = g.rows;
  queue = sym g.queue;
  held = refl;
}
