-- Shelf and seats follow the journal after every event of a step.
use Rattle.std.proofs.Common.{◌≡◌, ℕ, Bool, false, List, [], ◌∷◌, ◌++◌, Some, map, refl, sym, ap, ◌∙◌, subst}
use Rattle.ndis_base.specs.declared.FilterKind.{FilterKind}
use Rattle.ndis_base.specs.declared.Who.{Who}
use Rattle.journal_types.specs.declared.Event.{Event}
use Rattle.journal_types.specs.declared.Event.TheVariants as event
use Rattle.journal_types.specs.declared.Reply.{Reply}
use Rattle.journal_types.specs.declared.Row.{Row}
use Rattle.stack_rules.specs.declared.Attached.{Attached}
use Rattle.stack_rules.specs.Net.{Net, attached, told, after_rows}
use Rattle.stack_rules.specs.Sound.{outcome}
use Rattle.promise_rules.specs.Drivers.{Shelf, shelf_of, shelf_told, shelf_in_rows, driver_of}
use Rattle.driver_views.specs.States.{FilterState}
use Rattle.driver_tray.specs.Tray.{begun_by, turn_of}
use Rattle.shelf_laws.specs.Shelves.{is_rewire, IsAttached}
use Rattle.shelf_laws.proofs.Leaving.{each_leaves}
use Rattle.shelf_laws.proofs.Was.{each_was}
use Rattle.book_lemmas.specs.Shelves.{FollowsShelf}
use Rattle.book_lemmas.specs.Stands.{IsShelved}
use Rattle.book_lemmas.specs.Views.{BookView, HeldView, seat_of}
use Rattle.book_parts.specs.Events.{DidEvent}
use Rattle.rewire_work.proofs.Shelving.{kinds_of, shelf_then}
use Rattle.stack_steps.specs.Steps.{IsWorked, MovesShelf}

stays : (old new : BookView) (e : Event) (answer : Reply) → is_rewire e ≡ false → DidEvent old new e answer → (new.held.shelf ≡ old.held.shelf) × (new.held.seats ≡ old.held.seats) → FollowsShelf old new e answer
stays old new e answer other d still = record { shelved = λ who was. record { shelf = still.0 ∙ was.shelf ∙ ap (λ (s : Shelf). s.places) (sym (same who)); seats = λ f a there. seats_are who was f a there } }
  where
    same : (who : Who) → shelf_of (kinds_of new.held) (new.tray.turns ++ turn_of new.tray who e answer ∷ []) ≡ shelf_of (kinds_of old.held) old.tray.turns
    same who =
        shelf_then (kinds_of new.held) new.tray.turns (turn_of new.tray who e answer)
        ∙ ap (λ rs. shelf_in_rows rs (shelf_told (kinds_of new.held) e answer (shelf_of (kinds_of new.held) new.tray.turns))) d.rows
        ∙ each_leaves old.tray.net e d.choice answer (kinds_of new.held) (shelf_of (kinds_of new.held) new.tray.turns) other
        ∙ ap (λ ks. shelf_of ks new.tray.turns) d.goes.did.keeps.kinds
        ∙ ap (shelf_of (kinds_of old.held)) d.goes.turns

    net_is : new.tray.net ≡ after_rows (told old.tray.net e answer) new.tray.rows
    net_is = d.goes.net ∙ ap (λ (n : Net). after_rows n new.tray.rows) d.tells

    was_there : (f : ℕ) (a : Attached) → attached f new.tray.net.modules.filters ≡ Some a → IsAttached old.tray.net f
    was_there f a there = each_was old.tray.net e answer new.tray.rows f other (record { entry = a; there = ap (λ (n : Net). attached f n.modules.filters) (sym net_is) ∙ there })

    seats_are : (who : Who) → IsShelved old.tray.net old.tray.turns old.held → (f : ℕ) (a : Attached) → attached f new.tray.net.modules.filters ≡ Some a
        → seat_of new.held.seats f ≡ driver_of (shelf_of (kinds_of new.held) (new.tray.turns ++ turn_of new.tray who e answer ∷ [])).drivers f
    seats_are who was f a there =
        let before : IsAttached old.tray.net f = was_there f a there in
        ap (λ ss. seat_of ss f) still.1
        ∙ was.seats f before.entry before.there
        ∙ ap (λ (s : Shelf). driver_of s.drivers f) (sym (same who))

pub follows_shelf : (old new : BookView) (e : Event) (answer : Reply) → IsWorked e → DidEvent old new e answer → MovesShelf old new e answer → FollowsShelf old new e answer
follows_shelf old new event.Initialize answer worked d moves = stays old new event.Initialize answer refl d d.still
follows_shelf old new (event.Insert kind position setup) answer worked d moves = moves
follows_shelf old new (event.Remove filter) answer worked d moves = moves
follows_shelf old new (event.Replace filter kind setup) answer worked d moves = moves
follows_shelf old new (event.Send binding cancel frames) answer worked d moves = stays old new (event.Send binding cancel frames) answer refl d d.still
follows_shelf old new (event.Indicate frames) answer worked d moves = stays old new (event.Indicate frames) answer refl d d.still
follows_shelf old new (event.Lend frames) answer worked d moves = stays old new (event.Lend frames) answer refl d d.still
follows_shelf old new (event.GiveBack binding list) answer worked d moves = stays old new (event.GiveBack binding list) answer refl d d.still
follows_shelf old new (event.Cancel id) answer worked d moves = stays old new (event.Cancel id) answer refl d d.still
follows_shelf old new (event.Status name) answer worked d moves = stays old new (event.Status name) answer refl d d.still
follows_shelf old new (event.Ask binding kind code value) answer worked d moves = stays old new (event.Ask binding kind code value) answer refl d d.still
follows_shelf old new event.Transmit answer worked d moves = stays old new event.Transmit answer refl d d.still
follows_shelf old new event.Pump answer worked d moves = stays old new event.Pump answer refl d d.still
follows_shelf old new event.Drain answer worked d moves = stays old new event.Drain answer refl d d.still
follows_shelf old new event.BeginPause answer worked d moves = stays old new event.BeginPause answer refl d d.still
follows_shelf old new event.PauseNext answer worked d moves = stays old new event.PauseNext answer refl d d.still
follows_shelf old new event.RestartNext answer worked d moves = stays old new event.RestartNext answer refl d d.still
follows_shelf old new event.Halt answer worked d moves = moves
follows_shelf old new e answer worked d moves = absurd worked
