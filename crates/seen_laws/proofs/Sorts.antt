-- The sorts of turns, by what their rows tell of statuses.
use Rattle.std.proofs.Common.{◌≡◌, List, [], ◌∷◌, Option, Some, None, refl}
use Rattle.ndis_base.specs.declared.ModuleId.TheVariants.{Miniport}
use Rattle.ndis_base.specs.declared.StatusName.{StatusName}
use Rattle.journal_types.specs.declared.Event.{Event}
use Rattle.journal_types.specs.declared.Event.TheVariants as event
use Rattle.journal_types.specs.declared.Row.{Row}
use Rattle.journal_types.specs.declared.Row.TheVariants as row
use Rattle.stack_rules.specs.declared.Choice.{Choice}
use Rattle.stack_rules.specs.declared.StatusAway.{StatusAway}
use Rattle.stack_rules.specs.declared.Thing.{Thing}
use Rattle.stack_rules.specs.declared.Thing.TheVariants as thing
use Rattle.stack_rules.specs.Tests.{is_halted}
use Rattle.stack_rules.specs.Net.{Net, told}
use Rattle.stack_rules.specs.Outcome.{Outcome, status_no}
use Rattle.stack_rules.specs.Places.{position, agenda_first}
use Rattle.stack_rules.specs.Pumps.{pump_of, is_pump_moving}
use Rattle.stack_rules.specs.Requests.{next_giving, answer_rows}
use Rattle.stack_rules.specs.Statuses.{status_rows}
use Rattle.stack_rules.specs.Targets.{next_status}
use Rattle.stack_rules.specs.Sound.{outcome}
use Rattle.state_laws.proofs.Rows.{by_test}
use Rattle.seen_laws.proofs.Mutes.{AreMute, mute_moved, mute_request, mute_drained, mute_event}

-- the row by which a status is told
abbrev pub told_row : Net → StatusName → Row
told_row net name = row.Status (status_no net.next.status) name (next_status net.modules (position net.modules.order Miniport))

-- A turn tells nothing of statuses, or tells a new one, or works the first thing on its way, a status. now is the
-- state with what the event tells.
pub data Sorts (net now : Net) : List Row → Type 0 where
  mute : (rows : List Row) → AreMute rows → Sorts net now rows
  tells : (name : StatusName) → now ≡ net → Sorts net now (told_row net name ∷ [])
  works : (s : StatusAway) → agenda_first net ≡ Some (thing.Status s) → now ≡ net → Sorts net now (status_rows net s.number s.name s.to)

abbrev SortsBy : Net → Outcome → Type 0
SortsBy net o = Sorts net net o.rows

sorted_pump : (net : Net) (c : Choice) (o : Option Thing) → agenda_first net ≡ o → SortsBy net (pump_of net c.keeps o)
sorted_pump net c None e = mute _ (mute_request net (next_giving net))
sorted_pump net c (Some (thing.List l)) e = mute _ (mute_moved net l l.stand c.keeps)
sorted_pump net c (Some (thing.Status s)) e = works s e refl
sorted_pump net c (Some (thing.Answer a)) e = mute (answer_rows a.parent a.status a.value) (refl, tt)

pub sorted : (net : Net) (e : Event) (c : Choice) → Sorts net (told net e (outcome net e c).reply) (outcome net e c).rows
sorted net (event.Status name) c = by_test (SortsBy net) (is_halted net.modules.miniport) _ _ (λ _. mute [] tt) (λ _. tells name refl)
sorted net event.Pump c = sorted_pump net c (agenda_first net) refl
sorted net event.Drain c =
    by_test (SortsBy net) (is_pump_moving net) _ _ (λ _. sorted_pump net c (agenda_first net) refl) (λ _. mute _ (mute_drained net))
sorted net e c = mute _ (mute_event net e c refl)
