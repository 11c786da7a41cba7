-- Where everything stands in its place: which turns lower the work, and what others add.
use Rattle.std.proofs.Common.{◌≡◌, ℕ, ◌+◌, ◌≤◌, Bool, true, false, List, arith, inl, inr, ap, sym, subst, ◌∙◌}
use Rattle.journal_types.specs.declared.Event.{Event}
use Rattle.journal_types.specs.declared.Event.TheVariants as event
use Rattle.journal_types.specs.declared.Reply.{Reply}
use Rattle.journal_types.specs.declared.Reply.TheVariants as reply
use Rattle.journal_types.specs.declared.Row.{Row}
use Rattle.journal_types.specs.declared.Turn.{Turn}
use Rattle.stack_rules.specs.declared.Choice.{Choice}
use Rattle.stack_rules.specs.Tests.{phase_is_running}
use Rattle.stack_rules.specs.Net.{Net, after_rows, after_turn, told}
use Rattle.stack_rules.specs.Sound.{outcome, Next}
use Rattle.stack_rules.specs.Work.{work}
use Rattle.place_laws.specs.Kept.{IsInPlace}
use Rattle.work_laws.specs.Bounds.{receive_room, is_give_back, is_cancelling, is_done, is_transmit, is_drain, originates}
use Rattle.work_laws.proofs.Filters.{Lowers}
use Rattle.work_laws.proofs.Pumps.{pump_lowers}
use Rattle.work_laws.proofs.Drains.{IsStill, drain_lowers, loops_running}
use Rattle.stack_rules.specs.Work.{bottom}
use Rattle.work_laws.proofs.Adds.{AddsAtMost}
use Rattle.work_laws.proofs.Cancels.{cancel_adds}
use Rattle.work_laws.proofs.Others.{give_back_adds, done_adds, transmit_adds, drain_adds}

pumped : (net : Net) (e : Event) (r : Reply) (rows : List Row) (choice : Choice) → IsInPlace net → e ≡ event.Pump → r ≡ (outcome net e choice).reply → rows ≡ (outcome net e choice).rows → r ≡ reply.Moved → work (after_rows (told net e r) rows) + 1 ≤ work net
pumped net event.Pump r rows choice h e a b m = subst (Lowers net) (sym b) (pump_lowers net choice.keeps h (sym a ∙ m))
pumped net _ r rows choice h e a b m = cc

drained : (net : Net) (e : Event) (r : Reply) (rows : List Row) (choice : Choice) → IsInPlace net → e ≡ event.Drain → r ≡ (outcome net e choice).reply → rows ≡ (outcome net e choice).rows → r ≡ reply.Moved → IsStill net rows → work (after_rows (told net e r) rows) + 1 ≤ work net
drained net event.Drain r rows choice h e a b m q = subst (Lowers net) (sym b) (drain_lowers net choice.keeps h (subst (IsStill net) b q) (sym a ∙ m))
drained net _ r rows choice h e a b m q = cc

-- the turns that lower the work
abbrev pub LowersInPlace : Event → Type 0
LowersInPlace e =
    (net : Net) (turn : Turn) → IsInPlace net → Next net turn → turn.event ≡ e → turn.reply ≡ reply.Moved → originates turn.rows ≡ false →
    work (after_turn net turn) + 1 ≤ work net

abbrev pub LowersWhileStill : Event → Type 0
LowersWhileStill e =
    (net : Net) (turn : Turn) → IsInPlace net → phase_is_running net.phase ≡ false → Next net turn → turn.event ≡ e → turn.reply ≡ reply.Moved → work (after_turn net turn) + 1 ≤ work net

abbrev pub PumpLowers : Type 0
PumpLowers =
    (net : Net) (turn : Turn) → IsInPlace net → Next net turn → turn.event ≡ event.Pump → turn.reply ≡ reply.Moved → work (after_turn net turn) + 1 ≤ work net

pub each_pump : PumpLowers
each_pump net turn h n e m = pumped net turn.event turn.reply turn.rows n.choice h e n.reply n.rows m

pub each_drain : LowersInPlace event.Drain
each_drain net turn h n e m q = drained net turn.event turn.reply turn.rows n.choice h e n.reply n.rows m (inl q)

pub each_still_drain : LowersWhileStill event.Drain
each_still_drain net turn h still n e m = drained net turn.event turn.reply turn.rows n.choice h e n.reply n.rows m (inr (loops_running net still))

-- what other events add
abbrev AddsInPlace : (Event → Bool) → (Net → ℕ) → Type 0
AddsInPlace test room =
    (net : Net) (e : Event) (r : Reply) (rows : List Row) (choice : Choice) → IsInPlace net → test e ≡ true → rows ≡ (outcome net e choice).rows → work (after_rows (told net e r) rows) ≤ work net + room net

gives_back : AddsInPlace is_give_back (λ net. 0)
gives_back net (event.GiveBack binding list) r rows choice h q e = subst (AddsAtMost net 0) (sym e) (give_back_adds net binding list h)
gives_back net _ r rows choice h q e = cc

cancels : AddsInPlace is_cancelling (λ net. 0)
cancels net (event.Cancel id) r rows choice h q e = subst (AddsAtMost net 0) (sym e) (cancel_adds net id h)
cancels net _ r rows choice h q e = cc

dones : AddsInPlace is_done (λ net. bottom net)
dones net (event.CrossDone message status) r rows choice h q e = subst (AddsAtMost net (bottom net)) (sym e) (done_adds net message status h)
dones net _ r rows choice h q e = cc

transmits : AddsInPlace is_transmit receive_room
transmits net event.Transmit r rows choice h q e = subst (AddsAtMost net (receive_room net)) (sym e) (transmit_adds net h).0
transmits net _ r rows choice h q e = cc

drains : AddsInPlace is_drain receive_room
drains net event.Drain r rows choice h q e = subst (AddsAtMost net (receive_room net)) (sym e) (drain_adds net choice.keeps h)
drains net _ r rows choice h q e = cc

quiet_transmits : (net : Net) (e : Event) (r : Reply) (rows : List Row) (choice : Choice) → IsInPlace net → is_transmit e ≡ true → rows ≡ (outcome net e choice).rows → originates rows ≡ false → work (after_rows (told net e r) rows) ≤ work net
quiet_transmits net event.Transmit r rows choice h q e o =
    let least : AddsAtMost net 0 rows = subst (AddsAtMost net 0) (sym e) ((transmit_adds net h).1 (ap originates (sym e) ∙ o)) in
    omega (arith, least)
quiet_transmits net _ r rows choice h q e o = cc

-- each turn with such an event adds at most so much
abbrev pub EachAddsInPlace : (Event → Bool) → (Net → ℕ) → Type 0
EachAddsInPlace test room = (net : Net) (turn : Turn) → IsInPlace net → Next net turn → test turn.event ≡ true → work (after_turn net turn) ≤ work net + room net

abbrev pub QuietAddsNothing : (Event → Bool) → Type 0
QuietAddsNothing test = (net : Net) (turn : Turn) → IsInPlace net → Next net turn → test turn.event ≡ true → originates turn.rows ≡ false → work (after_turn net turn) ≤ work net

each_in_place : (test : Event → Bool) (room : Net → ℕ) → AddsInPlace test room → EachAddsInPlace test room
each_in_place test room adds net turn h n q = adds net turn.event turn.reply turn.rows n.choice h q n.rows

pub each_give_back : EachAddsInPlace is_give_back (λ net. 0)
each_give_back = each_in_place is_give_back (λ net. 0) gives_back

pub each_cancel : EachAddsInPlace is_cancelling (λ net. 0)
each_cancel = each_in_place is_cancelling (λ net. 0) cancels

pub each_done : EachAddsInPlace is_done (λ net. bottom net)
each_done = each_in_place is_done (λ net. bottom net) dones

pub each_transmit : EachAddsInPlace is_transmit receive_room
each_transmit = each_in_place is_transmit receive_room transmits

pub each_drain_adds : EachAddsInPlace is_drain receive_room
each_drain_adds = each_in_place is_drain receive_room drains

pub each_quiet_transmit : QuietAddsNothing is_transmit
each_quiet_transmit net turn h n q o = quiet_transmits net turn.event turn.reply turn.rows n.choice h q n.rows o
