-- Sends, and what becomes of them at the miniport (WDK, "Sending Data from a Protocol Driver" and
-- "Sending Data from a Miniport Driver").
use Rattle.std.specs.Prelude.{ℕ, ◌==◌, ◌&&◌, not, Bool, List, [], ◌∷◌, ◌++◌, length, Option, Some, None, if◌then◌else◌}
use Rattle.ndis_base.specs.declared.ModuleId.{ModuleId}
use Rattle.ndis_base.specs.declared.ModuleId.TheVariants.{Miniport, Filter, Binding}
use Rattle.ndis_base.specs.declared.Direction.TheVariants as direction
use Rattle.ndis_base.specs.declared.ListStatus.TheVariants.{Success, Resources}
use Rattle.journal_types.specs.declared.Handler.TheVariants as handler
use Rattle.journal_types.specs.declared.Row.{Row}
use Rattle.journal_types.specs.declared.Row.TheVariants as row
use Rattle.journal_types.specs.declared.Reply.TheVariants as reply
use Rattle.journal_types.specs.declared.Refusal.TheVariants as refusal
use Rattle.stack_rules.specs.declared.LiveList.{LiveList}
use Rattle.stack_rules.specs.declared.Attached.{Attached}
use Rattle.stack_rules.specs.Tests.{phase_is_running, is_loop, is_virtual}
use Rattle.stack_rules.specs.Net.{Net, attached}
use Rattle.stack_rules.specs.Places.{position, is_full, kept_lists}
use Rattle.stack_rules.specs.Targets.{onward, homeward, turned_back}
use Rattle.stack_rules.specs.Outcome.{Outcome, answered, refused, root, list_no}
use Rattle.stack_rules.specs.Handled.{filter_rows}

-- a binding's list, on its way down
abbrev pub sent : Net → ℕ → Option ℕ → List (List ℕ) → List Row
sent net binding cancel frames =
    root net net.next.list (Binding binding) direction.Down cancel frames
    ∷ onward net.modules (list_no net.next.list) direction.Down 0
    ∷ []

abbrev pub send_outcome : Net → ℕ → Option ℕ → List (List ℕ) → Outcome
send_outcome net binding cancel frames =
    if phase_is_running net.phase
    then (if is_full net (Binding binding)
    then refused refusal.NoList
    else record { reply = reply.Sent (list_no net.next.list); rows = sent net binding cancel frames })
    else refused (refusal.Paused net.phase)

-- the ring holds its capacity; lists that have crossed are in it too
abbrev pub ring_is_full : Net → Bool
ring_is_full net = length (kept_lists net Miniport) == net.head.port.ring

-- the miniport keeps the list in its ring, or turns it back where the ring is full
abbrev pub miniport_rows : Net → LiveList → List Row
miniport_rows net l =
    row.Give l.list Miniport handler.Send
    ∷ (if ring_is_full net then turned_back net.modules l Miniport Resources else row.Keep l.list Miniport ∷ [])

abbrev pub at_filter : Net → Option Attached → LiveList → Bool → List Row
at_filter net None l keeps = []
at_filter net (Some a) l keeps = filter_rows net a l keeps

-- a list on its way down is worked
abbrev pub down_rows : Net → LiveList → ModuleId → Bool → List Row
down_rows net l Miniport keeps = miniport_rows net l
down_rows net l (Filter f) keeps = at_filter net (attached f net.modules.filters) l keeps
down_rows net l (Binding b) keeps = []

-- a loop adapter indicates what it transmits, only while the stack runs and its pool isn't full
abbrev pub loops : Net → Bool
loops net = is_loop net.head.kind && (phase_is_running net.phase && not (is_full net Miniport))

abbrev pub looped : Net → LiveList → List Row
looped net l =
    if loops net
    then root net net.next.list Miniport direction.Up None l.frames
    ∷ onward net.modules (list_no net.next.list) direction.Up (position net.modules.order Miniport)
    ∷ []
    else []

-- the list goes onto the wire, and is done
abbrev pub transmitted : Net → LiveList → List Row
transmitted net l =
    row.Wire l.list l.frames ∷ (looped net l ++ homeward net.modules l (position net.modules.order Miniport) Success ∷ [])

abbrev pub transmit_of : Net → Option LiveList → Outcome
transmit_of net None = answered reply.Idle
transmit_of net (Some l) = record { reply = reply.Wired l.list; rows = transmitted net l }

abbrev pub first_of : List LiveList → Option LiveList
first_of [] = None
first_of (l ∷ ls) = Some l

-- the oldest list of the ring of a ring or loop adapter
abbrev pub first_in_ring : Net → Option LiveList
first_in_ring net = if is_virtual net.head.kind then None else first_of (kept_lists net Miniport)

abbrev pub transmit_outcome : Net → Outcome
transmit_outcome net = transmit_of net (first_in_ring net)
