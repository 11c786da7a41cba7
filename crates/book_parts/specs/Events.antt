-- What holds of a stack's book, in the middle of a turn too, and what an event does to it.
use Rattle.std.specs.Prelude.{◌≡◌, ℕ, ◌≤◌, List, [], ◌∷◌, Option, Some, None, length}
use Rattle.ndis_base.specs.declared.ModuleId.{ModuleId}
use Rattle.journal_types.specs.declared.Event.{Event}
use Rattle.journal_types.specs.declared.Reply.{Reply}
use Rattle.journal_types.specs.declared.PassWay.{PassWay}
use Rattle.journal_types.specs.declared.Target.{Target}
use Rattle.stack_rules.specs.declared.Choice.{Choice}
use Rattle.stack_rules.specs.Net.{seen, told}
use Rattle.stack_rules.specs.Sound.{outcome}
use Rattle.buffer_pools.specs.Views.{ListView}
use Rattle.agenda_items.specs.declared.Carried.{Carried}
use Rattle.agenda_items.specs.declared.Carried.TheVariants.{List as a_list}
use Rattle.driver_tray.specs.Tray.{TrayView, begun_by}
use Rattle.book_lemmas.specs.Views.{BookView}
use Rattle.book_lemmas.specs.Follows.{Follows}
use Rattle.book_lemmas.specs.Shelves.{Balks, IsStill}
use Rattle.book_lemmas.specs.Stands.{Stands}
use Rattle.book_lemmas.specs.Turns.{Goes}

-- what is in hand agrees with the state, and the state follows the journal, which is sound
pub record IsBook (v : BookView) : Type 0 where
  pub stands : Stands v.tray.net v.tray.queue v.held []
  pub follows : Follows v.tray.head v.tray.turns v.tray.told_by v.tray.net v.tray.rows
  pub bound : 1 ≤ length v.tray.head.bindings

-- no turn is under way
pub record IsIdle (v : BookView) : Type 0 where
  pub rows : v.tray.rows ≡ []
  pub told_by : v.tray.told_by ≡ None

-- the book once the event and its reply told what they tell beside the rows
abbrev pub begun_with : BookView → Option (Event × Reply) → BookView
begun_with v told_by = record v { tray = record v.tray { told_by = told_by; net = begun_by v.tray.net told_by } }

-- the rows of an event were written, with this reply, as the rules have them for what the drivers chose; nothing else of
-- the journal changed, and the drivers did what the rows say; where one refused it counted that; and shelf and seats
-- stay, but where filters come and go
pub record DidEvent (old new : BookView) (e : Event) (answer : Reply) : Type 0 where
  pub book : IsBook new
  pub choice : Choice
  pub reply : answer ≡ (outcome old.tray.net e choice).reply
  pub rows : new.tray.rows ≡ (outcome old.tray.net e choice).rows
  pub tells : begun_by old.tray.net new.tray.told_by ≡ told old.tray.net e answer
  pub goes : Goes old.held.seats (begun_with old new.tray.told_by) new new.tray.rows
  pub refused : Balks e answer old.held new.held
  pub still : IsStill e old.held new.held

-- all but the room and what rows may refer to is as it was
pub record IsUnmoved (old new : BookView) : Type 0 where
  pub book : IsBook new
  pub head : new.tray.head ≡ old.tray.head
  pub turns : new.tray.turns ≡ old.tray.turns
  pub told_by : new.tray.told_by ≡ old.tray.told_by
  pub net : new.tray.net ≡ old.tray.net
  pub rows : new.tray.rows ≡ old.tray.rows
  pub queue : new.tray.queue ≡ old.tray.queue
  pub held : new.held ≡ old.held

-- the first thing on its way is a list that is passed so
pub record FirstIs (v : BookView) (way : PassWay) (to : Target) : Type 0 where
  pub list : ListView
  pub rest : List Carried
  pub first : v.tray.queue ≡ a_list list way to ∷ rest

-- a turn can be ended
pub record CanEnd (v : BookView) : Type 0 where
  pub room : 1 ≤ v.tray.room.turns
