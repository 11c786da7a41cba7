-- What removals and replacements ensure, from what their last step did.
use Rattle.std.proofs.Common.{◌≡◌, ℕ, ◌≤◌, Some, None, find, refl}
use Rattle.ndis_base.specs.declared.FilterKind.{FilterKind}
use Rattle.journal_types.specs.declared.Event.TheVariants as event
use Rattle.journal_types.specs.declared.Refusal.{Refusal}
use Rattle.journal_types.specs.declared.Refusal.TheVariants as refusal
use Rattle.journal_types.specs.declared.Setup.{Setup}
use Rattle.flat_journal.specs.declared.types.FlatReply.{FlatReply}
use Rattle.flat_journal.specs.declared.types.FlatReply.TheVariants as flat_reply
use Rattle.driver_tray.specs.Tray.{TrayView}
use Rattle.book_lemmas.specs.Views.{BookView}
use Rattle.book_parts.specs.Events.{IsBook, IsIdle}
use Rattle.rewire_work.specs.Refusals.{rewire_refusal}
use Rattle.rewire_work.specs.Rested.{IsAtRest, IsRoomed}
use Rattle.rewire_work.specs.Seated.{is_kind_at, Removes, Replaces, swaps, declines}
use Rattle.rewire_work.proofs.Begun.{roomed, begins_room, roomed_book, roomed_idle}
use Rattle.rewire_work.proofs.Causes.{paused_first}
use Rattle.rewire_work.proofs.Done.{IsDone, book_is, done_at}
use Rattle.rewire_work.proofs.Inserted.{IsFirst, is_first}
use Rattle.rewire_work.proofs.Removed.{did_not_remove, shelf_not_removed, did_remove, shelf_remove}
use Rattle.rewire_work.proofs.Replaced.{did_not_replace, did_lack_one, shelf_not_replaced, did_balk_replaced, shelf_balked_replaced, did_replace, shelf_replace}
use Rattle.rewire_work.proofs.Rested.{at_rest}

pub remove_refused : (old : BookView) (t : TrayView) (f : ℕ) (cause : Refusal) → IsBook old → IsIdle old → IsRoomed old.tray t → 1 ≤ t.room.turns → rewire_refusal t.net f ≡ Some cause
    → IsDone old (roomed old t) (event.Remove f) (flat_reply.Refused cause)
remove_refused old t f cause k i room turns e =
    let g = begins_room old.tray t room in
    done_at old t (roomed old t) (roomed old t) (event.Remove f) (flat_reply.Refused cause) (flat_reply.Refused cause) g refl refl
    (record {
      did = did_not_remove (roomed old t) f cause (roomed_book old t k g) (roomed_idle old t i g) e;
      shelf = shelf_not_removed (roomed old t) f cause (roomed_idle old t i g);
      within = record {};
      turn = record { room = turns };
    })

pub remove_done : (old : BookView) (t : TrayView) (new : BookView) (f : ℕ) → IsBook old → IsIdle old → IsRoomed old.tray t → 1 ≤ t.room.turns → rewire_refusal t.net f ≡ None → Removes f (roomed old t) new
    → IsDone old new (event.Remove f) flat_reply.Removed
remove_done old t new f k i room turns quiet r =
    let g = begins_room old.tray t room in
    let book = roomed_book old t k g in
    let idle = roomed_idle old t i g in
    let rest : IsAtRest t.net = at_rest (roomed old t) book idle (paused_first t.net _ quiet) in
    done_at old t new _ (event.Remove f) flat_reply.Removed flat_reply.Removed g (book_is new _ _ r.tray r.held) refl
    (record {
      did = did_remove (roomed old t) f r.place book idle rest quiet r.seat;
      shelf = shelf_remove (roomed old t) f r.place book idle rest quiet r.seat;
      within = record {};
      turn = record { room = turns };
    })

pub replace_refused : (old : BookView) (t : TrayView) (f : ℕ) (kind : FilterKind) (setup : Setup) (cause : Refusal) → IsBook old → IsIdle old → IsRoomed old.tray t → 1 ≤ t.room.turns → rewire_refusal t.net f ≡ Some cause
    → IsDone old (roomed old t) (event.Replace f kind setup) (flat_reply.Refused cause)
replace_refused old t f kind setup cause k i room turns e =
    let g = begins_room old.tray t room in
    done_at old t (roomed old t) (roomed old t) (event.Replace f kind setup) (flat_reply.Refused cause) (flat_reply.Refused cause) g refl refl
    (record {
      did = did_not_replace (roomed old t) f kind setup cause (roomed_book old t k g) (roomed_idle old t i g) e;
      shelf = shelf_not_replaced (roomed old t) f kind setup cause (roomed_idle old t i g);
      within = record {};
      turn = record { room = turns };
    })

pub replace_lacks : (old : BookView) (t : TrayView) (f : ℕ) (kind : FilterKind) (setup : Setup) → IsBook old → IsIdle old → IsRoomed old.tray t → 1 ≤ t.room.turns → rewire_refusal t.net f ≡ None
    → IsDone old (roomed old t) (event.Replace f kind setup) (flat_reply.Refused refusal.ShelfEmpty)
replace_lacks old t f kind setup k i room turns e =
    let g = begins_room old.tray t room in
    done_at old t (roomed old t) (roomed old t) (event.Replace f kind setup) (flat_reply.Refused refusal.ShelfEmpty) (flat_reply.Refused refusal.ShelfEmpty) g refl refl
    (record {
      did = did_lack_one (roomed old t) f kind setup (roomed_book old t k g) (roomed_idle old t i g) e;
      shelf = shelf_not_replaced (roomed old t) f kind setup refusal.ShelfEmpty (roomed_idle old t i g);
      within = record {};
      turn = record { room = turns };
    })

pub replace_done : (old : BookView) (t : TrayView) (new : BookView) (f : ℕ) (kind : FilterKind) (setup : Setup) (place : ℕ) (r : FlatReply) → IsBook old → IsIdle old → IsRoomed old.tray t → 1 ≤ t.room.turns
    → rewire_refusal t.net f ≡ None → find (is_kind_at kind old.held.filters) old.held.shelf ≡ Some place → Replaces f kind setup place (roomed old t) new r → IsDone old new (event.Replace f kind setup) r
replace_done old t new f kind setup place r k i room turns quiet found (swaps q seat free reply tray held) =
    let g = begins_room old.tray t room in
    let book = roomed_book old t k g in
    let idle = roomed_idle old t i g in
    let first : IsFirst (roomed old t) kind place = is_first (roomed old t) kind place book found in
    let rest : IsAtRest t.net = at_rest (roomed old t) book idle (paused_first t.net _ quiet) in
    done_at old t new _ (event.Replace f kind setup) r (flat_reply.Replaced t.net.next.filter) g (book_is new _ _ tray held) reply
    (record {
      did = did_replace (roomed old t) f kind setup place q book idle rest quiet first seat free;
      shelf = shelf_replace (roomed old t) f kind setup place q book idle rest quiet first seat free;
      within = record {};
      turn = record { room = turns };
    })
replace_done old t new f kind setup place r k i room turns quiet found (declines s reply tray balk held) =
    let g = begins_room old.tray t room in
    let book = roomed_book old t k g in
    let idle = roomed_idle old t i g in
    let first : IsFirst (roomed old t) kind place = is_first (roomed old t) kind place book found in
    done_at old t new _ (event.Replace f kind setup) r (flat_reply.Refused refusal.AttachRefused) g (book_is new _ _ tray held) reply
    (record {
      did = did_balk_replaced (roomed old t) f kind setup place s book idle quiet first balk;
      shelf = shelf_balked_replaced (roomed old t) f kind setup place s idle balk;
      within = record {};
      turn = record { room = turns };
    })
