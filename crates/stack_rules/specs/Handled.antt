-- What a filter does with a list that it is given: it passes it on, keeps it, turns it back, or sends a
-- changed clone in its place (WDK, "Sending Data from a Filter Driver", "Receiving Data in a Filter
-- Driver" and "Derived NET_BUFFER_LIST structures": a clone keeps its original until it is done).
use Rattle.std.specs.Prelude.{ℕ, ◌&&◌, Bool, List, [], ◌∷◌, Option, Some, None, if◌then◌else◌}
use Rattle.ndis_base.specs.declared.ModuleId.TheVariants.{Filter}
use Rattle.ndis_base.specs.declared.Direction.{Direction}
use Rattle.ndis_base.specs.declared.Direction.TheVariants as direction
use Rattle.ndis_base.specs.declared.Origin.TheVariants as origin
use Rattle.ndis_base.specs.declared.ListStatus.TheVariants.{Dropped, Resources}
use Rattle.program_types.specs.declared.Rule.{Rule}
use Rattle.program_types.specs.Apply.{applied}
use Rattle.journal_types.specs.declared.Handler.{Handler}
use Rattle.journal_types.specs.declared.Handler.TheVariants as handler
use Rattle.journal_types.specs.declared.Setup.{Setup}
use Rattle.journal_types.specs.declared.Row.{Row}
use Rattle.journal_types.specs.declared.Row.TheVariants as row
use Rattle.stack_rules.specs.declared.LiveList.{LiveList}
use Rattle.stack_rules.specs.declared.Attached.{Attached}
use Rattle.stack_rules.specs.Tests.{is_hold, same_frames}
use Rattle.stack_rules.specs.Net.{Net}
use Rattle.stack_rules.specs.Places.{position, is_full}
use Rattle.stack_rules.specs.Targets.{onward, turned_back}
use Rattle.stack_rules.specs.Outcome.{max_frame, list_no, config_no}

-- the program for a direction; a lent list is handled where it is lent, so its case never comes here
abbrev pub program : Setup → Direction → List Rule
program setup direction.Down = setup.send
program setup direction.Up = setup.receive
program setup direction.Lent = setup.receive

-- what the filter makes of the list's frames
abbrev pub made_of : Net → Attached → LiveList → Option (List (List ℕ))
made_of net a l = applied (max_frame net.head) (program a.setup l.direction) l.frames

-- a clone with changed frames goes on, and the original is kept
abbrev pub cloned : Net → Attached → LiveList → List (List ℕ) → List Row
cloned net a l frames =
    row.Issue (list_no net.next.list) (Filter a.filter) (config_no net.modules.config) l.direction l.cancel (origin.Clone l.list) frames
    ∷ row.Keep l.list (Filter a.filter)
    ∷ onward net.modules (list_no net.next.list) l.direction (position net.modules.order (Filter a.filter))
    ∷ []

-- frames that stay are passed on, or kept by a hold filter that so chooses
abbrev pub stays : Net → Attached → LiveList → Bool → List Row
stays net a l keeps =
    if keeps && is_hold a.kind
    then row.Keep l.list (Filter a.filter) ∷ []
    else onward net.modules l.list l.direction (position net.modules.order (Filter a.filter)) ∷ []

abbrev pub changes : Net → Attached → LiveList → List (List ℕ) → List Row
changes net a l frames =
    if is_full net (Filter a.filter) then turned_back net.modules l (Filter a.filter) Resources else cloned net a l frames

abbrev pub handled_as : Net → Attached → LiveList → Bool → Option (List (List ℕ)) → List Row
handled_as net a l keeps None = turned_back net.modules l (Filter a.filter) Dropped
handled_as net a l keeps (Some frames) = if same_frames frames l.frames then stays net a l keeps else changes net a l frames

-- the rows of a list that a filter is given, after its Give row
abbrev pub handled : Net → Attached → LiveList → Bool → List Row
handled net a l keeps = handled_as net a l keeps (made_of net a l)

abbrev pub given_by : Direction → Handler
given_by direction.Down = handler.Send
given_by direction.Up = handler.Receive
given_by direction.Lent = handler.ReceiveLent

abbrev pub filter_rows : Net → Attached → LiveList → Bool → List Row
filter_rows net a l keeps = row.Give l.list (Filter a.filter) (given_by l.direction) ∷ handled net a l keeps
