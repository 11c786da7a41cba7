-- Cancelling sends: each module that has queued lists with the identifier completes them as aborted (WDK,
-- "Canceling a Send Operation": NdisCancelSendNetBufferLists).
use Rattle.std.specs.Prelude.{ℕ, ◌&&◌, Bool, false, List, [], ◌∷◌, ◌++◌, Option, Some, None, filter, map, length}
use Rattle.std.specs.List.{flat_map}
use Rattle.ndis_base.specs.declared.ModuleId.{ModuleId}
use Rattle.ndis_base.specs.declared.ModuleId.TheVariants.{Miniport, Filter}
use Rattle.ndis_base.specs.declared.ListStatus.TheVariants.{Aborted}
use Rattle.journal_types.specs.declared.Row.{Row}
use Rattle.journal_types.specs.declared.Reply.TheVariants as reply
use Rattle.stack_rules.specs.declared.LiveList.{LiveList}
use Rattle.stack_rules.specs.declared.Attached.{Attached}
use Rattle.stack_rules.specs.Tests.{is_hold, is_down, same_number}
use Rattle.stack_rules.specs.Net.{Net, Modules, attached}
use Rattle.stack_rules.specs.Places.{ready_lists}
use Rattle.stack_rules.specs.Targets.{turned_back}
use Rattle.stack_rules.specs.Outcome.{Outcome}

abbrev pub hold_in : Option Attached → Bool
hold_in None = false
hold_in (Some a) = is_hold a.kind

-- the filter is a hold filter
abbrev pub is_hold_filter : Modules → ℕ → Bool
is_hold_filter ms f = hold_in (attached f ms.filters)

abbrev pub is_named : ℕ → LiveList → Bool
is_named id l = is_down l.direction && same_number l.cancel (Some id)

-- the lists that a module turns back: sends that it keeps ready and that carry the identifier
abbrev pub cancelled_at : Net → ℕ → ModuleId → List LiveList
cancelled_at net id m = filter (is_named id) (ready_lists net m)

abbrev pub aborted : Net → ModuleId → LiveList → List Row
aborted net m l = turned_back net.modules l m Aborted

abbrev pub cancel_rows_at : Net → ℕ → ModuleId → List Row
cancel_rows_at net id m = flat_map (aborted net m) (cancelled_at net id m)

-- the modules that queue sends, from the top down: the hold filters and the miniport
abbrev pub queues : Modules → List ModuleId
queues ms = map Filter (filter (is_hold_filter ms) ms.order) ++ Miniport ∷ []

abbrev pub cancel_outcome : Net → ℕ → Outcome
cancel_outcome net id = record {
  reply = reply.Cancelled (length (flat_map (cancelled_at net id) (queues net.modules)));
  rows = flat_map (cancel_rows_at net id) (queues net.modules);
}
