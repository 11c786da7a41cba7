-- The state without what a ledger hasn't, and the ledger after a row.
use Rattle.std.specs.Prelude.{ℕ, ◌+◌, ◌-◌, ◌==◌, not, [], if◌then◌else◌, filter}
use Rattle.ndis_base.specs.declared.ModuleId.{ModuleId}
use Rattle.ndis_base.specs.declared.ModuleId.TheVariants.{Miniport, Filter, Binding}
use Rattle.ndis_base.specs.declared.OidNo.{OidNo}
use Rattle.ndis_base.specs.declared.OidStatus.{OidStatus}
use Rattle.journal_types.specs.declared.OutWay.{OutWay}
use Rattle.journal_types.specs.declared.Row.{Row}
use Rattle.stack_rules.specs.Port.{port_after_done, port_after_out}
use Rattle.stack_rules.specs.Tests.{is_miniport}
use Rattle.stack_rules.specs.Net.{Net, after, number_past, request_of}

-- what contracts see of a ledger: the state, and for how many further requests there is room
pub record LedgerView : Type 0 where
  pub net : Net
  pub spare : ℕ

-- the state without its lists, statuses, answers and messages
abbrev pub bare : Net → Net
bare net = record net { things = []; messages = [] }

-- the ledger after one more row
abbrev pub noted : LedgerView → Row → LedgerView
noted l r = record l { net = bare (after l.net r) }

-- the ledger after a request, which takes room for one
abbrev pub asked : LedgerView → Row → LedgerView
asked l r = record (noted l r) { spare = l.spare - 1 }

-- the ledger with another state
abbrev pub with_net : LedgerView → Net → LedgerView
with_net l net = record l { net = net }

-- a module issued a list of so many frames
abbrev pub with_issued : ModuleId → ℕ → Net → Net
with_issued owner frames net = record net {
  port = record net.port { received = if is_miniport owner then net.port.received + frames else net.port.received };
  next = record net.next { list = net.next.list + 1 };
}

-- so many frames went onto the wire
abbrev pub with_wired : ℕ → Net → Net
with_wired frames net = record net { port = record net.port { sent = net.port.sent + frames } }

-- a status of this number is on its way
abbrev pub with_status : ℕ → Net → Net
with_status number net = record net { next = record net.next { status = number_past net.next.status number } }

-- a message of so many frames left the stack
abbrev pub with_out : OutWay → ℕ → Net → Net
with_out way frames net = record net {
  port = port_after_out way frames net.port;
  next = record net.next { message = net.next.message + 1 };
}

-- a request is done
abbrev pub with_done : OidNo → OidStatus → Net → Net
with_done request status net = record net {
  requests = filter (λ r. not (r.request.0 == request.0)) net.requests;
  port = port_after_done (request_of request.0 net.requests) status net.port;
}

-- the number of a filter; 0 for the other modules
abbrev pub filter_number : ModuleId → ℕ
filter_number (Filter f) = f
filter_number Miniport = 0
filter_number (Binding b) = 0
