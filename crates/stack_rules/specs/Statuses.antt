-- Status indications go upwards from the miniport: to each filter with the status handler, and then to all
-- bindings at once (WDK, "Status Indications").
use Rattle.std.specs.Prelude.{ℕ, List, [], ◌∷◌, if◌then◌else◌}
use Rattle.std.specs.Prelude.{◌+◌}
use Rattle.ndis_base.specs.declared.ModuleId.TheVariants.{Miniport, Binding}
use Rattle.ndis_base.specs.declared.ModuleState.{ModuleState}
use Rattle.ndis_base.specs.declared.StatusName.{StatusName}
use Rattle.ndis_base.specs.declared.StatusNo.{StatusNo}
use Rattle.journal_types.specs.declared.Target.{Target}
use Rattle.journal_types.specs.declared.Target.TheVariants.{Module, Bindings}
use Rattle.journal_types.specs.declared.Row.{Row}
use Rattle.journal_types.specs.declared.Row.TheVariants as row
use Rattle.journal_types.specs.declared.Reply.TheVariants as reply
use Rattle.journal_types.specs.declared.Refusal.TheVariants as refusal
use Rattle.stack_rules.specs.Tests.{is_halted}
use Rattle.stack_rules.specs.Net.{Net}
use Rattle.stack_rules.specs.Places.{position}
use Rattle.stack_rules.specs.Targets.{next_status}
use Rattle.stack_rules.specs.Outcome.{Outcome, refused, status_no}

abbrev pub status_outcome : Net → StatusName → Outcome
status_outcome net name =
    if is_halted net.modules.miniport
    then refused refusal.HaltedNow
    else record {
      reply = reply.Ok;
      rows = row.Status (status_no net.next.status) name (next_status net.modules (position net.modules.order Miniport)) ∷ [];
    }

abbrev pub seen_by_all : StatusNo → ℕ → List ModuleState → List Row
seen_by_all number b [] = []
seen_by_all number b (s ∷ ss) = row.Seen number (Binding b) ∷ seen_by_all number (b + 1) ss

-- a status on its way is worked
abbrev pub status_rows : Net → StatusNo → StatusName → Target → List Row
status_rows net number name (Module m) =
    row.Seen number m ∷ row.Status number name (next_status net.modules (position net.modules.order m)) ∷ []
status_rows net number name Bindings = seen_by_all number 0 net.modules.bindings
