-- A ledger from the inside.
use Rattle.std.specs.Prelude.{◌≡◌, ◌+◌, ◌≤◌, [], length}
use Rattle.std.specs.Vec.{vec_len, vec_capacity}
use Rattle.stack_rules.specs.Net.{Net, Counters}
use Rattle.stack_ledger.specs.declared.numbers.NextNumbers.{NextNumbers}
use Rattle.stack_ledger.specs.declared.ledger.StackLedger.TheInside.{Inside}
use Rattle.stack_ledger.specs.Bare.{LedgerView}

abbrev pub counters : NextNumbers → Counters
counters n = record { list = n.list; request = n.request; status = n.status; message = n.message; filter = n.filter }

abbrev pub net_in : Inside → Net
net_in l = record {
  head = l.head;
  phase = l.phase;
  modules = l.modules;
  things = [];
  requests = l.requests.items;
  port = l.port;
  messages = [];
  next = counters l.next;
}

abbrev pub ledger_view : Inside → LedgerView
ledger_view l = record { net = net_in l; spare = l.spare }

-- there are packet filters for each binding, and there is room for as many further requests as is said
pub record IsLedger (l : Inside) : Type 0 where
  pub answers : length l.port.answers_by ≡ length l.head.bindings
  pub delivers : length l.port.delivers_by ≡ length l.head.bindings
  pub room : vec_len l.requests + l.spare ≤ vec_capacity l.requests
