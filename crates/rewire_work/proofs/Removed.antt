-- The event of a removal.
use Rattle.std.proofs.Common.{◌≡◌, ℕ, ◌==◌, not, true, List, [], ◌∷◌, ◌++◌, Option, Some, None, filter, length, refl, sym, ap, ◌∙◌, subst, arith, append-nil, ◌⊎◌, inl, inr}
use Rattle.std.proofs.lemmas.Bool.{cases_eq}
use Rattle.ndis_base.specs.declared.ModuleId.{ModuleId}
use Rattle.ndis_base.specs.declared.ModuleId.TheVariants.{Miniport, Filter, Binding}
use Rattle.ndis_base.specs.declared.ModuleState.TheVariants as state
use Rattle.ndis_base.specs.declared.Phase.TheVariants as phase
use Rattle.ndis_base.specs.declared.Who.{Who}
use Rattle.journal_types.specs.declared.Event.{Event}
use Rattle.journal_types.specs.declared.Event.TheVariants as event
use Rattle.journal_types.specs.declared.Refusal.{Refusal}
use Rattle.journal_types.specs.declared.Reply.TheVariants as reply
use Rattle.journal_types.specs.declared.Row.{Row}
use Rattle.stack_rules.specs.declared.Attached.{Attached}
use Rattle.stack_rules.specs.Net.{Net, lists, after_rows, attached}
use Rattle.stack_rules.specs.Outcome.{Outcome, refused}
use Rattle.stack_rules.specs.Pauses.{state_row}
use Rattle.stack_rules.specs.Rewires.{is_in, config_row, removed, remove_outcome}
use Rattle.promise_rules.specs.Drivers.{Shelf, shelf_in_rows, shelf_of, with_place, driver_of}
use Rattle.agenda_items.specs.declared.Carried.{Carried}
use Rattle.driver_views.specs.States.{FilterState}
use Rattle.driver_tray.specs.Tray.{begun_by, turn_of}
use Rattle.book_lemmas.proofs.Keeps.{keeps_set}
use Rattle.book_lemmas.specs.Did.{logs_in}
use Rattle.book_lemmas.specs.Stands.{Stands, IsShelved, DriversFit}
use Rattle.book_lemmas.specs.Views.{BookView, HeldView, filter_at, seat_of, hands_of}
use Rattle.book_lemmas.proofs.Goes.{used_none}
use Rattle.book_parts.specs.Events.{IsBook, IsIdle, DidEvent}
use Rattle.book_parts.proofs.Events.{did_event, ends_still}
use Rattle.rewire_work.specs.Refusals.{rewire_refusal, refused_or}
use Rattle.rewire_work.specs.Rested.{IsAtRest}
use Rattle.rewire_work.specs.Seated.{unseated, put_down, removed_tray}
use Rattle.book_lemmas.specs.Shelves.{FollowsShelf}
use Rattle.rewire_work.proofs.Balking.{did_still}
use Rattle.rewire_work.proofs.Causes.{attaches, remove_is, paused_first, is_there}
use Rattle.rewire_work.proofs.Empty.{kept_none}
use Rattle.rewire_work.proofs.Orders.{attached_gone, attached_less, in_shorter}
use Rattle.rewire_work.proofs.Reseated.{stands_reseated}
use Rattle.rewire_work.proofs.Rewired.{did_rewire}
use Rattle.rewire_work.proofs.Rising.{MayRise, are_left, left, theirs_unseated}
use Rattle.rewire_work.proofs.Shelving.{kinds_of, shelf_then, kinds_same, follows_still}

-- refused
pub did_not_remove : (old : BookView) (f : ℕ) (cause : Refusal) → IsBook old → IsIdle old → rewire_refusal old.tray.net f ≡ Some cause → DidEvent old old (event.Remove f) (reply.Refused cause)
did_not_remove old f cause k i e =
    let is : remove_outcome old.tray.net f ≡ refused cause = remove_is old.tray.net f ∙ ap (λ c. refused_or c (removed old.tray.net f)) e in
    did_event old old [] (event.Remove f) attaches (reply.Refused cause) k i
    (ends_still old.tray k (record { head = refl; turns = refl; told_by = refl; net = refl; rows = refl; queue = refl; used = used_none old.tray }))
    (sym (ap (λ (o : Outcome). o.reply) is)) (sym (ap (λ (o : Outcome). o.rows) is)) refl tt tt

pub shelf_not_removed : (old : BookView) (f : ℕ) (cause : Refusal) → IsIdle old → FollowsShelf old old (event.Remove f) (reply.Refused cause)
shelf_not_removed old f cause i = follows_still old old _ _ i.rows refl refl refl refl refl (λ kinds shelf. refl)

-- a filter of the order sits somewhere
pub record IsSitting (old : BookView) (f : ℕ) : Type 0 where
  pub entry : Attached
  pub there : attached f old.tray.net.modules.filters ≡ Some entry
  pub place : ℕ
  pub seat : seat_of old.held.seats f ≡ Some place

pub is_sitting : (old : BookView) (f : ℕ) → IsBook old → IsAtRest old.tray.net → is_in f old.tray.net.modules.order ≡ true → IsSitting old f
is_sitting old f k rest inside =
    let o = rest.ordered.attached f inside in
    let s = k.stands.seated f o.0 o.1 in
    record { entry = o.0; there = o.1; place = s.place; seat = ap (seat_of old.held.seats) (sym o.2) ∙ s.seat }

-- its driver keeps nothing
pub keeps_none : (old : BookView) (f place : ℕ) → IsBook old → IsAtRest old.tray.net → seat_of old.held.seats f ≡ Some place → (filter_at old.held.filters (Some place)).kept ≡ []
keeps_none old f place k rest seat =
    ap (λ o. (filter_at old.held.filters o).kept) (sym seat) ∙ kept_none old.tray.net (hands_of old.tray.queue old.held []) k.stands.agrees rest.nothing (Filter f)

pub may_rise : {net : Net} {queue : List Carried} {held : HeldView} (f place : ℕ) → Stands net queue held [] → lists net.things ≡ [] → seat_of held.seats f ≡ Some place → MayRise held f place (put_down (filter_at held.filters (Some place)))
may_rise {net} {queue} {held} f place b none seat = record {
  seat = seat;
  apart = b.apart;
  is = b.places f place seat;
  rests = record { setup = refl; kept = ap (λ o. (filter_at held.filters o).kept) (sym seat) ∙ kept_none net (hands_of queue held []) b.agrees none (Filter f) };
}

module _ (old : BookView) (f place : ℕ) (k : IsBook old) (i : IsIdle old) (rest : IsAtRest old.tray.net) (quiet : rewire_refusal old.tray.net f ≡ None) (seat : seat_of old.held.seats f ≡ Some place) where
  abbrev s : FilterState
  s = put_down (filter_at old.held.filters (Some place))

  abbrev new : BookView
  new = record { tray = removed_tray old.tray f; held = unseated old.held f place s }

  abbrev e : Event
  e = event.Remove f

  abbrev rows : List Row
  rows = (removed old.tray.net f).rows

  abbrev now : Net
  now = after_rows old.tray.net rows

  may : MayRise old.held f place s
  may = may_rise f place k.stands rest.nothing seat

  paused : old.tray.net.phase ≡ phase.Paused
  paused = paused_first old.tray.net _ quiet

  stands : Stands now old.tray.queue new.held []
  stands =
      stands_reseated old.tray.net now old.tray.queue old.held new.held k.stands rest.nothing (record { head = refl; bindings = refl; things = refl; next = refl }) (theirs_unseated old.held f place s)
      (are_left old.held f place s may {net = old.tray.net} {now = now} {queue = old.tray.queue} k.stands rest.nothing (attached_gone f old.tray.net.modules.filters)
      (λ g ne. attached_less g f old.tray.net.modules.filters ne) (λ g at. inr (in_shorter g f old.tray.net.modules.order at)))
      (subst (DriversFit old.tray.net.head.port new.held) (sym paused) drivers)
    where
      drivers : DriversFit old.tray.net.head.port old.held phase.Paused
      drivers = subst (DriversFit old.tray.net.head.port old.held) paused k.stands.drivers

  rows_are : new.tray.rows ≡ rows
  rows_are = ap (λ rs. (rs ++ state_row state.Detached (Filter f) ∷ []) ++ config_row old.tray.net (filter (λ g. not (g == f)) old.tray.net.modules.order) ∷ []) i.rows

  outcome_is : remove_outcome old.tray.net f ≡ removed old.tray.net f
  outcome_is = remove_is old.tray.net f ∙ ap (λ c. refused_or c (removed old.tray.net f)) quiet

  no_logs : (m : ModuleId) → logs_in m rows ≡ []
  no_logs Miniport = refl
  no_logs (Filter g) = refl
  no_logs (Binding b) = refl

  pub did_remove : DidEvent old new e reply.Removed
  did_remove =
      let two : length rows ≡ 2 = refl in
      did_rewire old new e reply.Removed attaches rows k i
      (record {
        head = refl;
        turns = refl;
        tells = ap (λ by. begun_by old.tray.net by) i.told_by;
        net = refl;
        rows_are = rows_are;
        used = record {
          rows_used = omega (arith, two);
          frames = omega arith;
          bytes = omega arith;
          slack = omega arith;
          turns = omega arith;
          payloads = record { frames = ([], sym (append-nil _)); filters = (filter (λ g. not (g == f)) old.tray.net.modules.order, refl); setups = ([], sym (append-nil _)) };
        };
        calls = refl;
        logs = no_logs;
        counts = record { miniport = refl; protocols = λ j. refl; filters = λ q. did_still old.held.filters place s may.is.driver refl q (cases_eq q place); keeps = keeps_set old.held new.held place s (omega arith) refl may.is.driver refl (omega arith) };
        stands = stands;
      })
      (sym (ap (λ (o : Outcome). o.reply) outcome_is)) (sym (ap (λ (o : Outcome). o.rows) outcome_is)) tt tt

  -- its driver is the one that is promised
  same_driver : IsShelved old.tray.net old.tray.turns old.held → Some place ≡ driver_of (shelf_of (kinds_of old.held) old.tray.turns).drivers f
  same_driver was =
      let at = is_sitting old f k rest (is_there old.tray.net f quiet) in
      sym seat ∙ was.seats f at.entry at.there

  after_shelf : (who : Who) → IsShelved old.tray.net old.tray.turns old.held
      → shelf_of (kinds_of new.held) (new.tray.turns ++ turn_of new.tray who e reply.Removed ∷ []) ≡ record (shelf_of (kinds_of old.held) old.tray.turns) { places = with_place (shelf_of (kinds_of old.held) old.tray.turns).places (Some place) }
  after_shelf who was =
      shelf_then (kinds_of new.held) old.tray.turns (turn_of new.tray who e reply.Removed)
      ∙ ap (λ rs. shelf_in_rows rs (shelf_of (kinds_of new.held) old.tray.turns)) rows_are
      ∙ ap (λ ks. shelf_in_rows rows (shelf_of ks old.tray.turns)) (kinds_same old.held.filters place s refl)
      ∙ ap (λ o. record (shelf_of (kinds_of old.held) old.tray.turns) { places = with_place (shelf_of (kinds_of old.held) old.tray.turns).places o }) (sym (same_driver was))

  none_there : (a : Attached) (o : Option Attached) → o ≡ None → o ≡ Some a → ⊥
  none_there a o none some = cc

  seat_shelved : IsShelved old.tray.net old.tray.turns old.held → (g : ℕ) (a : Attached) → attached g now.modules.filters ≡ Some a → (g ≡ f) ⊎ (g ≡ f → ⊥)
      → seat_of new.held.seats g ≡ driver_of (shelf_of (kinds_of old.held) old.tray.turns).drivers g
  seat_shelved was g a at (inl same) = absurd (none_there a (attached f now.modules.filters) (attached_gone f old.tray.net.modules.filters) (ap (λ k. attached k now.modules.filters) (sym same) ∙ at))
  seat_shelved was g a at (inr ne) = left old.held f place s may g ne ∙ was.seats g a (sym (attached_less g f old.tray.net.modules.filters ne) ∙ at)

  pub shelf_remove : FollowsShelf old new e reply.Removed
  shelf_remove = record {
    shelved = λ who was. record {
      shelf = ap (λ ps. ps ++ place ∷ []) was.shelf ∙ ap (λ (x : Shelf). x.places) (sym (after_shelf who was));
      seats = λ g a at. seat_shelved was g a at (cases_eq g f) ∙ ap (λ (x : Shelf). driver_of x.drivers g) (sym (after_shelf who was));
    };
  }
