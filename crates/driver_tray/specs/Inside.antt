-- A tray from the inside.
use Rattle.std.specs.Prelude.{ℕ, ◌≡◌, ◌+◌, ◌≤◌, List, Option, None, Some}
use Rattle.std.specs.VecDeque.{deque_capacity, deque_len}
use Rattle.ndis_base.specs.declared.ModuleId.{ModuleId}
use Rattle.journal_types.specs.declared.Event.{Event}
use Rattle.journal_types.specs.declared.Reply.{Reply}
use Rattle.buffer_pools.specs.Views.{PoolView}
use Rattle.agenda_items.specs.declared.Carried.{Carried}
use Rattle.flat_journal.specs.Flat.{FlatView}
use Rattle.flat_journal.specs.Payloads.{Payloads}
use Rattle.flat_journal.specs.Shown.{event_of, reply_of}
use Rattle.flat_journal.specs.Within.{EventWithin, ReplyWithin}
use Rattle.stack_rules.specs.Net.{Net, seen, after_rows}
use Rattle.stack_ledger.specs.Bare.{bare}
use Rattle.driver_tray.specs.declared.telling.Telling.{Telling}
use Rattle.driver_tray.specs.declared.tray.Tray.TheInside.{Inside}
use Rattle.driver_tray.specs.Tray.{TrayView, begun_by}
use Rattle.driver_tray.specs.Waits.{HasWaits}

-- what was told, as it shows
abbrev pub told_of : Payloads → Option Telling → Option (Event × Reply)
told_of p None = None
told_of p (Some t) = Some (event_of p t.event, reply_of p t.reply)

-- what it refers to is there
abbrev pub ToldWithin : Payloads → Option Telling → Type 0
ToldWithin p None = Unit {0}
ToldWithin p (Some t) = EventWithin p t.event × ReplyWithin p t.reply

-- the state after the rows so far
abbrev pub net_of : FlatView → Option Telling → Net
net_of j t = after_rows (begun_by (seen j.head j.turns) (told_of j.payloads t)) j.rows

abbrev pub shown_of : FlatView → Option Telling → List Carried → ℕ → ModuleId → PoolView → TrayView
shown_of j t queue slack caller pool = record {
  head = j.head;
  turns = j.turns;
  told_by = told_of j.payloads t;
  net = net_of j t;
  rows = j.rows;
  payloads = j.payloads;
  room = j.room;
  queue = queue;
  slack = slack;
  caller = caller;
  pool = pool;
}

abbrev pub tray_view : Inside → TrayView
tray_view t = shown_of t.journal t.told t.queue.items t.slack t.caller t.pool

-- there is room for what was promised, and what is asked at run time is that of the state
pub record IsTray (t : Inside) : Type 0 where
  pub queue : deque_len t.queue + t.slack ≤ deque_capacity t.queue
  pub ledger : t.ledger.net ≡ bare (net_of t.journal t.told)
  pub within : ToldWithin t.journal.payloads t.told
  pub waits : HasWaits (net_of t.journal t.told) t.waits t.slack
  pub asks : t.slack ≤ t.ledger.spare
