-- The journal takes the event before it is worked, and its rows become a turn after.
use Rattle.std.proofs.Common.{◌≡◌, true, false, Option, None, refl, sym, ap, ◌∙◌, subst}
use Rattle.ndis_base.specs.declared.Who.{Who}
use Rattle.journal_types.specs.declared.Asked.{Asked}
use Rattle.journal_types.specs.declared.Event.{Event}
use Rattle.journal_types.specs.declared.Reply.{Reply}
use Rattle.journal_types.specs.declared.StackHead.{StackHead}
use Rattle.flat_journal.specs.declared.types.FlatEvent.{FlatEvent}
use Rattle.flat_journal.specs.declared.types.FlatReply.{FlatReply}
use Rattle.flat_journal.specs.Grows.{Grows}
use Rattle.flat_journal.specs.Payloads.{Payloads}
use Rattle.flat_journal.specs.Shown.{event_of, reply_of}
use Rattle.flat_journal.specs.Within.{EventWithin, ReplyWithin}
use Rattle.flat_journal.proofs.Grown.{event_of_same, event_within_grown}
use Rattle.stack_rules.specs.Conditions.{may_ask}
use Rattle.stack_rules.specs.Net.{Net, seen, told}
use Rattle.stack_rules.specs.Tests.{is_virtual}
use Rattle.driver_tray.specs.Tray.{TrayView, begun_by, turn_of, ended}
use Rattle.book_lemmas.specs.Turns.{AddsTurn}
use Rattle.book_lemmas.specs.Views.{BookView}
use Rattle.book_lemmas.proofs.Heads.{head_seen}
use Rattle.book_parts.specs.Events.{IsBook, IsIdle, DidEvent, IsUnmoved, CanEnd}
use Rattle.book_parts.proofs.Ended.{idle_state, turned, Ends, ends}
use Rattle.stack_steps.specs.Steps.{IsHeld, IsWorked, MovesShelf, Steps}
use Rattle.stack_steps.proofs.Shelved.{follows_shelf}

-- the book with other payloads and other room in its tray
abbrev pub with_tray : BookView → TrayView → BookView
with_tray old t = record old { tray = record old.tray { payloads = t.payloads; room = t.room } }

-- the event is held: nothing else of the tray changed
abbrev pub IsOnly : BookView → TrayView → Type 0
IsOnly old t = t ≡ record old.tray { payloads = t.payloads; room = t.room }

is_with : (old : BookView) {t : TrayView} (P : BookView → Type 0) → IsOnly old t → P (with_tray old t) → P (record { tray = t; held = old.held })
is_with old {t} P e p = subst (λ (x : TrayView). P (record { tray = x; held = old.held })) (sym e) p

pub held_book : {old : BookView} {t : TrayView} → IsOnly old t → IsBook old → IsBook (record { tray = t; held = old.held })
held_book {old} e k = is_with old IsBook e (record { stands = k.stands; follows = k.follows; bound = k.bound })

pub held_idle : {old : BookView} {t : TrayView} → IsOnly old t → IsIdle old → IsIdle (record { tray = t; held = old.held })
held_idle {old} e i = is_with old IsIdle e (record { rows = i.rows; told_by = i.told_by })

-- the state's head is the stack's
pub head_is : {v : BookView} → IsBook v → IsIdle v → v.tray.net.head ≡ v.tray.head
head_is {v} k i = ap (λ (n : Net). n.head) (idle_state v k i) ∙ head_seen v.tray.head v.tray.turns

pub held_rings : {old : BookView} {t : TrayView} → IsOnly old t → IsBook old → IsIdle old → is_virtual old.tray.head.kind ≡ false → is_virtual t.net.head.kind ≡ false
held_rings {old} {t} e k i rings = ap (λ (x : TrayView). is_virtual x.net.head.kind) e ∙ ap (λ (h : StackHead). is_virtual h.kind) (head_is k i) ∙ rings

pub held_event : {t : TrayView} {e : Event} {flat : FlatEvent} (old : BookView) → IsOnly old t → EventWithin t.payloads flat → event_of t.payloads flat ≡ e → may_ask old.tray.head e ≡ true → IsWorked e
    → IsHeld (record { tray = t; held = old.held }) e flat
held_event {t} {e} {flat} old is within shown may worked = record {
  within = within;
  shown = shown;
  may = ap (λ (x : TrayView). may_ask x.head (event_of t.payloads flat)) is ∙ ap (may_ask old.tray.head) shown ∙ may;
  worked = subst IsWorked (sym shown) worked;
}

-- after want of memory
pub unmoved_held : {old : BookView} {t : TrayView} → IsOnly old t → IsBook old → IsUnmoved old (record { tray = t; held = old.held })
unmoved_held {old} {t} e k =
    is_with old (IsUnmoved old) e
    (record { book = record { stands = k.stands; follows = k.follows; bound = k.bound }; head = refl; turns = refl; told_by = refl; net = refl; rows = refl; queue = refl; held = refl })

pub unmoved_then : {old new : BookView} {t : TrayView} → IsOnly old t → IsUnmoved (record { tray = t; held = old.held }) new → IsUnmoved old new
unmoved_then {old} {new} {t} e u = record {
  book = u.book;
  head = u.head ∙ ap (λ (x : TrayView). x.head) e;
  turns = u.turns ∙ ap (λ (x : TrayView). x.turns) e;
  told_by = u.told_by ∙ ap (λ (x : TrayView). x.told_by) e;
  net = u.net ∙ ap (λ (x : TrayView). x.net) e;
  rows = u.rows ∙ ap (λ (x : TrayView). x.rows) e;
  queue = u.queue ∙ ap (λ (x : TrayView). x.queue) e;
  held = u.held;
}

-- what was told is what the event and its reply tell
pub tells_seen : {mid new : BookView} {e : Event} {r : Reply} → IsBook mid → IsIdle mid → DidEvent mid new e r → begun_by (seen new.tray.head new.tray.turns) new.tray.told_by ≡ told (seen new.tray.head new.tray.turns) e r
tells_seen {mid} {new} {e} {r} k i d =
    let same : seen new.tray.head new.tray.turns ≡ mid.tray.net = ap (λ h. seen h new.tray.turns) d.goes.head ∙ ap (seen mid.tray.head) d.goes.turns ∙ sym (idle_state mid k i) in
    ap (λ (n : Net). begun_by n new.tray.told_by) same ∙ d.tells ∙ ap (λ (n : Net). told n e r) (sym same)

-- the event still shows
pub grown : {mid new : BookView} {e : Event} {r : Reply} → DidEvent mid new e r → Grows mid.tray.payloads new.tray.payloads
grown d = d.goes.used.payloads

pub still_within : {mid new : BookView} {e : Event} {r : Reply} (flat : FlatEvent) → DidEvent mid new e r → EventWithin mid.tray.payloads flat → EventWithin new.tray.payloads flat
still_within {mid} {new} flat d w = event_within_grown mid.tray.payloads new.tray.payloads (grown d) flat w

pub still_shown : {mid new : BookView} {e : Event} {r : Reply} (flat : FlatEvent) → DidEvent mid new e r → EventWithin mid.tray.payloads flat → event_of new.tray.payloads flat ≡ event_of mid.tray.payloads flat
still_shown {mid} {new} flat d w = event_of_same mid.tray.payloads new.tray.payloads (grown d) flat w

-- what `end_turn` asks for
pub told_seen : {mid new : BookView} {r : Reply} (flat : FlatEvent) → IsBook mid → IsIdle mid → (d : DidEvent mid new (event_of mid.tray.payloads flat) r) → EventWithin mid.tray.payloads flat
    → begun_by (seen new.tray.head new.tray.turns) new.tray.told_by ≡ told (seen new.tray.head new.tray.turns) (event_of new.tray.payloads flat) r
told_seen {mid} {new} {r} flat k i d w = tells_seen k i d ∙ ap (λ e. told (seen new.tray.head new.tray.turns) e r) (sym (still_shown flat d w))

-- the turn of an event that was held is one of the book before
added_with : {old new : BookView} {asked : Asked} {r : Reply} (t : TrayView) → AddsTurn (with_tray old t) new asked r → AddsTurn old new asked r
added_with t a = record { rows = a.rows; next = a.next; turns = a.turns; head = a.head; idle = a.idle; untold = a.untold; did = a.did; refused = a.refused; shelved = a.shelved }

pub added_held : {old : BookView} {t : TrayView} {new : BookView} {asked : Asked} {r : Reply} → IsOnly old t → AddsTurn (record { tray = t; held = old.held }) new asked r → AddsTurn old new asked r
added_held {old} {t} {new} {asked} {r} e a = added_with t (subst (λ (x : TrayView). AddsTurn (record { tray = x; held = old.held }) new asked r) e a)

-- a step
pub steps_by : {old new : BookView} {t t' : TrayView} {e : Event} {r : Reply} (who : Who) (flat : FlatEvent) → IsOnly old t → IsBook old → IsIdle old → IsHeld (record { tray = t; held = old.held }) e flat
    → DidEvent (record { tray = t; held = old.held }) new (event_of t.payloads flat) r → MovesShelf (record { tray = t; held = old.held }) new (event_of t.payloads flat) r → t' ≡ ended new.tray (turn_of new.tray who (event_of new.tray.payloads flat) r)
    → Steps old (record { tray = t'; held = new.held }) (record { who = who; event = e }) r
steps_by {old} {new} {t} {t'} {e} {r} who flat is k i h d m now =
    let mid : BookView = record { tray = t; held = old.held } in
    let k' : IsBook mid = held_book is k in
    let i' : IsIdle mid = held_idle is i in
    let x : Ends mid (turned new who (event_of t.payloads flat) r) who (event_of t.payloads flat) r = ends mid new who (event_of t.payloads flat) r k' i' d (follows_shelf mid new (event_of t.payloads flat) r h.worked d m) h.may in
    let step : Steps old (turned new who (event_of t.payloads flat) r) (record { who = who; event = event_of t.payloads flat }) r = record { book = x.book; idle = x.idle; adds = added_held is x.adds } in
    let named : Steps old (turned new who e r) (record { who = who; event = e }) r = subst (λ q. Steps old (turned new who q r) (record { who = who; event = q }) r) h.shown step in
    let same : t' ≡ ended new.tray (turn_of new.tray who e r) = now ∙ ap (λ q. ended new.tray (turn_of new.tray who q r)) (still_shown flat d h.within ∙ h.shown) in
    subst (λ (q : TrayView). Steps old (record { tray = q; held = new.held }) (record { who = who; event = e }) r) (sym same) named

-- with the reply as the journal shows it then
pub steps_shown : {old new : BookView} {t t' : TrayView} {e : Event} (who : Who) (flat : FlatEvent) (answer : FlatReply) → IsOnly old t → IsBook old → IsIdle old → IsHeld (record { tray = t; held = old.held }) e flat
    → DidEvent (record { tray = t; held = old.held }) new (event_of t.payloads flat) (reply_of new.tray.payloads answer) → MovesShelf (record { tray = t; held = old.held }) new (event_of t.payloads flat) (reply_of new.tray.payloads answer) → t' ≡ ended new.tray (turn_of new.tray who (event_of new.tray.payloads flat) (reply_of new.tray.payloads answer))
    → Steps old (record { tray = t'; held = new.held }) (record { who = who; event = e }) (reply_of t'.payloads answer)
steps_shown {old} {new} {t} {t'} {e} who flat answer is k i h d m now =
    let same : reply_of t'.payloads answer ≡ reply_of new.tray.payloads answer = ap (λ (q : TrayView). reply_of q.payloads answer) now in
    subst (λ r. Steps old (record { tray = t'; held = new.held }) (record { who = who; event = e }) r) (sym same) (steps_by who flat is k i h d m now)
