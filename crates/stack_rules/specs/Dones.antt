-- Lists on their way home: a done send goes up, a returned receive goes down, through the filters that had
-- passed it, and is home at its owner. A clone that is home releases its original (WDK, "Send and Receive
-- Complete": MiniportReturnNetBufferLists, FilterSendNetBufferListsComplete).
use Rattle.std.specs.Prelude.{List, [], ◌∷◌, Option, Some, None, if◌then◌else◌}
use Rattle.ndis_base.specs.declared.ModuleId.{ModuleId}
use Rattle.ndis_base.specs.declared.ListStatus.{ListStatus}
use Rattle.ndis_base.specs.declared.Origin.{Origin}
use Rattle.ndis_base.specs.declared.Origin.TheVariants as origin
use Rattle.ndis_base.specs.declared.Direction.{Direction}
use Rattle.ndis_base.specs.declared.Direction.TheVariants as direction
use Rattle.journal_types.specs.declared.Handler.{Handler}
use Rattle.journal_types.specs.declared.Handler.TheVariants as handler
use Rattle.journal_types.specs.declared.Row.{Row}
use Rattle.journal_types.specs.declared.Row.TheVariants as row
use Rattle.stack_rules.specs.declared.LiveList.{LiveList}
use Rattle.stack_rules.specs.Tests.{same_module}
use Rattle.stack_rules.specs.Net.{Net, lists, list_of}
use Rattle.stack_rules.specs.Places.{position}
use Rattle.stack_rules.specs.Targets.{homeward}

abbrev pub released_list : Net → ModuleId → ListStatus → Option LiveList → List Row
released_list net m status None = []
released_list net m status (Some original) = homeward net.modules original (position net.modules.order m) status ∷ []

-- the original of a clone that is home goes homewards with the clone's status; a copy releases nothing
abbrev pub released : Net → ModuleId → Origin → ListStatus → List Row
released net m origin.Root status = []
released net m (origin.Clone o) status = released_list net m status (list_of o.0 (lists net.things))
released net m (origin.Copy o) status = []

abbrev pub home_rows : Net → LiveList → ListStatus → List Row
home_rows net l status = row.Home l.list l.owner status ∷ released net l.owner l.origin status

-- the handler of a list on its way home; a lent list is never on its way, so its case never comes
abbrev pub completed_by : Direction → Handler
completed_by direction.Down = handler.SendComplete
completed_by direction.Up = handler.Returned
completed_by direction.Lent = handler.Returned

-- a list on its way done or back is worked: at its owner it is home, at a filter that had passed it it is
-- passed on
abbrev pub homeward_rows : Net → LiveList → ModuleId → ListStatus → List Row
homeward_rows net l m status =
    if same_module m l.owner
    then home_rows net l status
    else row.Give l.list m (completed_by l.direction) ∷ homeward net.modules l (position net.modules.order m) status ∷ []
