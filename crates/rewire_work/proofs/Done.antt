-- What an event's function ensures, from what its last step did.
use Rattle.std.proofs.Common.{◌≡◌, ℕ, ◌≤◌, [], Some, None, find, refl, sym, ap, ◌∙◌, subst}
use Rattle.std.specs.Prelude.{Result, Ok, Err, IfOk, OnOk, OnErr}
use Rattle.ndis_base.specs.declared.FilterKind.{FilterKind}
use Rattle.journal_types.specs.declared.Event.{Event}
use Rattle.journal_types.specs.declared.Event.TheVariants as event
use Rattle.journal_types.specs.declared.Refusal.{Refusal}
use Rattle.journal_types.specs.declared.Refusal.TheVariants as refusal
use Rattle.journal_types.specs.declared.Setup.{Setup}
use Rattle.flat_journal.specs.declared.types.FlatReply.{FlatReply}
use Rattle.flat_journal.specs.declared.types.FlatReply.TheVariants as flat_reply
use Rattle.flat_journal.specs.Shown.{reply_of}
use Rattle.flat_journal.specs.Within.{ReplyWithin}
use Rattle.driver_tray.specs.Tray.{TrayView}
use Rattle.book_lemmas.specs.Views.{BookView, HeldView}
use Rattle.book_parts.specs.Events.{IsBook, IsIdle, DidEvent, IsUnmoved, CanEnd}
use Rattle.book_parts.proofs.Events.{Begins, unmoved}
use Rattle.rewire_work.specs.Refusals.{insert_refusal}
use Rattle.rewire_work.specs.Rested.{IsAtRest, IsRoomed}
use Rattle.rewire_work.specs.Seated.{is_kind_at, Inserts, sits, balks}
use Rattle.book_lemmas.specs.Shelves.{FollowsShelf}
use Rattle.rewire_work.proofs.Begun.{roomed, begins_room, roomed_book, roomed_idle, did_begun, shelf_begun}
use Rattle.rewire_work.proofs.Causes.{paused_first}
use Rattle.rewire_work.proofs.Inserted.{IsFirst, is_first, did_refused, did_lack, shelf_refused, did_balk, shelf_balked, did_insert, shelf_insert}
use Rattle.rewire_work.proofs.Rested.{at_rest}

-- the event is done, with this reply
pub record IsDone (old new : BookView) (e : Event) (r : FlatReply) : Type 0 where
  pub did : DidEvent old new e (reply_of new.tray.payloads r)
  pub shelf : FollowsShelf old new e (reply_of new.tray.payloads r)
  pub within : ReplyWithin new.tray.payloads r
  pub turn : CanEnd new

pub book_is : (v : BookView) (t : TrayView) (h : HeldView) → v.tray ≡ t → v.held ≡ h → record { tray = t; held = h } ≡ v
book_is v t h e k =
    let of_tray : TrayView → BookView = λ x. record { tray = x; held = v.held } in
    let of_held : HeldView → BookView = λ x. record { tray = t; held = x } in
    sym (ap of_tray e ∙ ap of_held k)

pub if_ok : {A E : Type 0} (r : Result A E) (P Q : A → Type 0) → ((a : A) → P a → Q a) → IfOk r P → IfOk r Q
if_ok (Ok a) P Q f p = f a p
if_ok (Err e) P Q f p = p

pub on_ok : {A E : Type 0} (r : Result A E) (P : A → Type 0) (Q : Type 0) → ((a : A) → P a → Q) → IfOk r P → OnOk r Q
on_ok (Ok a) P Q f p = f a p
on_ok (Err e) P Q f p = p

pub on_err : {A E : Type 0} (r : Result A E) (P Q : Type 0) → (P → Q) → OnErr r P → OnErr r Q
on_err (Ok a) P Q f p = p
on_err (Err e) P Q f p = f p

-- with more room, and another literal for the same reply
pub done_at : (old : BookView) (t : TrayView) (new v : BookView) (e : Event) (r lit : FlatReply) → Begins old.tray t [] → v ≡ new → r ≡ lit → IsDone (roomed old t) v e lit → IsDone old new e r
done_at old t new v e r lit g same reply d =
    subst (λ (x : BookView). IsDone old x e r) same
    (subst (IsDone old v e) (sym reply)
    (record { did = did_begun old t v e _ g d.did; shelf = shelf_begun old t v e _ g d.shelf; within = d.within; turn = d.turn }))

-- an insertion that was refused
pub insert_refused : (old : BookView) (t : TrayView) (kind : FilterKind) (position : ℕ) (setup : Setup) (cause : Refusal) → IsBook old → IsIdle old → IsRoomed old.tray t → 1 ≤ t.room.turns → insert_refusal t.net position ≡ Some cause
    → IsDone old (roomed old t) (event.Insert kind position setup) (flat_reply.Refused cause)
insert_refused old t kind position setup cause k i room turns e =
    let g = begins_room old.tray t room in
    done_at old t (roomed old t) (roomed old t) (event.Insert kind position setup) (flat_reply.Refused cause) (flat_reply.Refused cause) g refl refl
    (record {
      did = did_refused (roomed old t) kind position setup cause (roomed_book old t k g) (roomed_idle old t i g) e;
      shelf = shelf_refused (roomed old t) kind position setup cause (roomed_idle old t i g);
      within = record {};
      turn = record { room = turns };
    })

pub insert_lacks : (old : BookView) (t : TrayView) (kind : FilterKind) (position : ℕ) (setup : Setup) → IsBook old → IsIdle old → IsRoomed old.tray t → 1 ≤ t.room.turns → insert_refusal t.net position ≡ None
    → IsDone old (roomed old t) (event.Insert kind position setup) (flat_reply.Refused refusal.ShelfEmpty)
insert_lacks old t kind position setup k i room turns e =
    let g = begins_room old.tray t room in
    done_at old t (roomed old t) (roomed old t) (event.Insert kind position setup) (flat_reply.Refused refusal.ShelfEmpty) (flat_reply.Refused refusal.ShelfEmpty) g refl refl
    (record {
      did = did_lack (roomed old t) kind position setup (roomed_book old t k g) (roomed_idle old t i g) e;
      shelf = shelf_refused (roomed old t) kind position setup refusal.ShelfEmpty (roomed_idle old t i g);
      within = record {};
      turn = record { room = turns };
    })

-- an insertion
pub insert_done : (old : BookView) (t : TrayView) (new : BookView) (kind : FilterKind) (position : ℕ) (setup : Setup) (place : ℕ) (r : FlatReply) → IsBook old → IsIdle old → IsRoomed old.tray t → 1 ≤ t.room.turns
    → insert_refusal t.net position ≡ None → find (is_kind_at kind old.held.filters) old.held.shelf ≡ Some place → Inserts kind position setup place (roomed old t) new r → IsDone old new (event.Insert kind position setup) r
insert_done old t new kind position setup place r k i room turns quiet found (sits free reply tray held) =
    let g = begins_room old.tray t room in
    let book = roomed_book old t k g in
    let idle = roomed_idle old t i g in
    let first : IsFirst (roomed old t) kind place = is_first (roomed old t) kind place book found in
    let rest : IsAtRest t.net = at_rest (roomed old t) book idle (paused_first t.net _ quiet) in
    done_at old t new _ (event.Insert kind position setup) r (flat_reply.Inserted t.net.next.filter) g (book_is new _ _ tray held) reply
    (record {
      did = did_insert (roomed old t) kind position setup place book idle rest quiet first free;
      shelf = shelf_insert (roomed old t) kind position setup place book idle rest quiet first free;
      within = record {};
      turn = record { room = turns };
    })
insert_done old t new kind position setup place r k i room turns quiet found (balks s reply tray balk held) =
    let g = begins_room old.tray t room in
    let book = roomed_book old t k g in
    let idle = roomed_idle old t i g in
    let first : IsFirst (roomed old t) kind place = is_first (roomed old t) kind place book found in
    done_at old t new _ (event.Insert kind position setup) r (flat_reply.Refused refusal.AttachRefused) g (book_is new _ _ tray held) reply
    (record {
      did = did_balk (roomed old t) kind position setup place s book idle quiet first balk;
      shelf = shelf_balked (roomed old t) kind position setup place s idle balk;
      within = record {};
      turn = record { room = turns };
    })

-- want of memory
pub still_unmoved : (old : BookView) (t : TrayView) → IsBook old → IsRoomed old.tray t → IsUnmoved old (roomed old t)
still_unmoved old t k room = unmoved t k (begins_room old.tray t room)
