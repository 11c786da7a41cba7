-- One step of a stack: an event is asked, and becomes a turn.
use Rattle.std.specs.Prelude.{◌≡◌, true}
use Rattle.journal_types.specs.declared.Asked.{Asked}
use Rattle.journal_types.specs.declared.Event.{Event}
use Rattle.journal_types.specs.declared.Event.TheVariants as event
use Rattle.journal_types.specs.declared.Reply.{Reply}
use Rattle.flat_journal.specs.declared.types.FlatEvent.{FlatEvent}
use Rattle.flat_journal.specs.Shown.{event_of}
use Rattle.flat_journal.specs.Within.{EventWithin}
use Rattle.stack_rules.specs.Conditions.{may_ask}
use Rattle.book_lemmas.specs.Shelves.{FollowsShelf}
use Rattle.book_lemmas.specs.Turns.{AddsTurn}
use Rattle.book_lemmas.specs.Views.{BookView}
use Rattle.book_parts.specs.Events.{IsBook, IsIdle}

-- the events that a step works
abbrev pub IsWorked : Event → Type 0
IsWorked event.Initialize = Unit {0}
IsWorked (event.Insert kind position setup) = Unit {0}
IsWorked (event.Remove filter) = Unit {0}
IsWorked (event.Replace filter kind setup) = Unit {0}
IsWorked (event.Send binding cancel frames) = Unit {0}
IsWorked (event.Indicate frames) = Unit {0}
IsWorked (event.Lend frames) = Unit {0}
IsWorked (event.GiveBack binding list) = Unit {0}
IsWorked (event.Cancel id) = Unit {0}
IsWorked (event.Status name) = Unit {0}
IsWorked (event.Ask binding kind code value) = Unit {0}
IsWorked event.Transmit = Unit {0}
IsWorked event.Pump = Unit {0}
IsWorked event.Drain = Unit {0}
IsWorked event.BeginPause = Unit {0}
IsWorked event.PauseNext = Unit {0}
IsWorked event.RestartNext = Unit {0}
IsWorked event.Halt = Unit {0}
IsWorked _ = ⊥

-- where filters come and go, shelf and seats follow the journal
abbrev pub MovesShelf : BookView → BookView → Event → Reply → Type 0
MovesShelf old new (event.Insert kind position setup) answer = FollowsShelf old new (event.Insert kind position setup) answer
MovesShelf old new (event.Remove filter) answer = FollowsShelf old new (event.Remove filter) answer
MovesShelf old new (event.Replace filter kind setup) answer = FollowsShelf old new (event.Replace filter kind setup) answer
MovesShelf old new event.Halt answer = FollowsShelf old new event.Halt answer
MovesShelf old new _ answer = Unit {0}

-- a turn was added that may come next, the drivers did what its rows say, and the book is between turns again
pub record Steps (old new : BookView) (asked : Asked) (answer : Reply) : Type 0 where
  pub book : IsBook new
  pub idle : IsIdle new
  pub adds : AddsTurn old new asked answer

-- the journal has the event, which may be asked and is one that a step works
pub record IsHeld (v : BookView) (e : Event) (flat : FlatEvent) : Type 0 where
  pub within : EventWithin v.tray.payloads flat
  pub shown : event_of v.tray.payloads flat ≡ e
  pub may : may_ask v.tray.head (event_of v.tray.payloads flat) ≡ true
  pub worked : IsWorked (event_of v.tray.payloads flat)
