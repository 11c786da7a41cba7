-- What an event does to the shelf, and which drivers count that they refused.
use Rattle.std.specs.Prelude.{◌≡◌, ℕ, [], ◌∷◌, ◌++◌, Option, Some, find}
use Rattle.ndis_base.specs.declared.FilterKind.{FilterKind}
use Rattle.ndis_base.specs.declared.Who.{Who}
use Rattle.journal_types.specs.declared.Event.{Event}
use Rattle.journal_types.specs.declared.Event.TheVariants as event
use Rattle.journal_types.specs.declared.Refusal.TheVariants as refusal
use Rattle.journal_types.specs.declared.Reply.{Reply}
use Rattle.journal_types.specs.declared.Reply.TheVariants as reply
use Rattle.promise_rules.specs.Drivers.{same_filter_kind}
use Rattle.driver_views.specs.States.{IsRisen}
use Rattle.driver_tray.specs.Tray.{turn_of}
use Rattle.book_lemmas.specs.Views.{BookView, HeldView, filter_at}
use Rattle.book_lemmas.specs.Stands.{IsShelved}

-- Where shelf and seats were those that are promised of the journal, they are so again once the turn is ended.
pub record FollowsShelf (old new : BookView) (e : Event) (answer : Reply) : Type 0 where
  pub shelved : (who : Who) → IsShelved old.tray.net old.tray.turns old.held
      → IsShelved new.tray.net (new.tray.turns ++ turn_of new.tray who e answer ∷ []) new.held

-- the place of the first driver of a kind on the shelf
abbrev pub first_on_shelf : FilterKind → HeldView → Option ℕ
first_on_shelf kind held = find (λ place. same_filter_kind (filter_at held.filters (Some place)).kind kind) held.shelf

-- that driver counted that it refused
pub record HasBalked (kind : FilterKind) (old new : HeldView) : Type 0 where
  pub place : ℕ
  pub first : first_on_shelf kind old ≡ Some place
  pub rose : IsRisen (filter_at old.filters (Some place)).refusals (filter_at new.filters (Some place)).refusals

-- where a driver refused, it counted that: the miniport that was to be initialised, or the first driver of the kind on
-- the shelf
abbrev pub Balks : Event → Reply → HeldView → HeldView → Type 0
Balks event.Initialize (reply.Refused refusal.InitRefused) old new = IsRisen old.miniport.refusals new.miniport.refusals
Balks (event.Insert kind position setup) (reply.Refused refusal.AttachRefused) old new = HasBalked kind old new
Balks (event.Replace f kind setup) (reply.Refused refusal.AttachRefused) old new = HasBalked kind old new
Balks _ _ old new = Unit {0}

-- the shelf and the seats stay, but where filters come and go
abbrev pub IsStill : Event → HeldView → HeldView → Type 0
IsStill (event.Insert kind position setup) old new = Unit {0}
IsStill (event.Remove f) old new = Unit {0}
IsStill (event.Replace f kind setup) old new = Unit {0}
IsStill event.Halt old new = Unit {0}
IsStill _ old new = (new.shelf ≡ old.shelf) × (new.seats ≡ old.seats)
