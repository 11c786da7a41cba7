-- What each event adds to the work of a sound journal.
use Rattle.std.proofs.Common.{◌≡◌, ℕ, ◌+◌, ◌-◌, ◌*◌, ◌≤◌, Bool, true, List, sym, subst}
use Rattle.journal_types.specs.declared.Event.{Event}
use Rattle.journal_types.specs.declared.Event.TheVariants as event
use Rattle.journal_types.specs.declared.Reply.{Reply}
use Rattle.journal_types.specs.declared.Row.{Row}
use Rattle.stack_rules.specs.declared.Choice.{Choice}
use Rattle.stack_rules.specs.Net.{Net, after_rows, told, seen}
use Rattle.stack_rules.specs.Sound.{outcome}
use Rattle.stack_rules.specs.Work.{bottom, work}
use Rattle.rule_basics.specs.Numbers.{IsNumbered}
use Rattle.home_laws.proofs.Standing.{lists_stand}
use Rattle.work_laws.specs.Bounds.{send_room, receive_room, is_send, is_indication, is_status, is_ask, is_pause, is_take, EachAdds}
use Rattle.work_laws.proofs.Lends.{lend_adds}
use Rattle.work_laws.proofs.Adds.{AddsAtMost, send_adds, put_adds, indicate_adds, put_up_adds, status_adds, ask_adds, take_adds, begin_adds, pause_adds}

abbrev EventAdds : (Event → Bool) → (Net → ℕ) → Type 0
EventAdds test room =
    (net : Net) (e : Event) (reply : Reply) (rows : List Row) (choice : Choice) → IsNumbered net → test e ≡ true → rows ≡ (outcome net e choice).rows →
    work (after_rows (told net e reply) rows) ≤ work net + room net

each_adds : (test : Event → Bool) (room : Net → ℕ) → EventAdds test room → EachAdds test room
each_adds test room adds head turns turn s n q =
    adds (seen head turns) turn.event turn.reply turn.rows n.choice (lists_stand head turns s).numbered q n.rows

by : (net : Net) (k : ℕ) (rows others : List Row) → rows ≡ others → AddsAtMost net k others → AddsAtMost net k rows
by net k rows others e h = subst (AddsAtMost net k) (sym e) h

sends : EventAdds is_send send_room
sends net (event.Send binding cancel frames) reply rows choice h q e = by net (send_room net) rows _ e (send_adds net binding cancel frames h)
sends net (event.CrossPut stack message vlan frames) reply rows choice h q e = by net (send_room net) rows _ e (put_adds net stack message vlan frames h)
sends net _ reply rows choice h q e = cc

indications : EventAdds is_indication receive_room
indications net (event.Indicate frames) reply rows choice h q e = by net (receive_room net) rows _ e (indicate_adds net frames h)
indications net (event.Lend frames) reply rows choice h q e = by net (receive_room net) rows _ e (lend_adds net frames h)
indications net (event.CrossPutUp stack message frames) reply rows choice h q e = by net (receive_room net) rows _ e (put_up_adds net stack message frames h)
indications net _ reply rows choice h q e = cc

statuses : EventAdds is_status (λ net. bottom net)
statuses net (event.Status name) reply rows choice h q e = by net (bottom net) rows _ e (status_adds net name h)
statuses net _ reply rows choice h q e = cc

asks : EventAdds is_ask (λ net. 2 * bottom net - 1)
asks net (event.Ask binding kind code value) reply rows choice h q e = by net (2 * bottom net - 1) rows _ e (ask_adds net binding kind code value h)
asks net _ reply rows choice h q e = cc

pauses : EventAdds is_pause (λ net. 0)
pauses net event.BeginPause reply rows choice h q e = by net 0 rows _ e (begin_adds net)
pauses net event.PauseNext reply rows choice h q e = by net 0 rows _ e (pause_adds net)
pauses net _ reply rows choice h q e = cc

takes : EventAdds is_take (λ net. 0)
takes net event.CrossTake reply rows choice h q e = by net 0 rows _ e (take_adds net h)
takes net _ reply rows choice h q e = cc

pub each_send : EachAdds is_send send_room
each_send = each_adds is_send send_room sends

pub each_indication : EachAdds is_indication receive_room
each_indication = each_adds is_indication receive_room indications

pub each_status : EachAdds is_status (λ net. bottom net)
each_status = each_adds is_status (λ net. bottom net) statuses

pub each_ask : EachAdds is_ask (λ net. 2 * bottom net - 1)
each_ask = each_adds is_ask (λ net. 2 * bottom net - 1) asks

pub each_pause : EachAdds is_pause (λ net. 0)
each_pause = each_adds is_pause (λ net. 0) pauses

pub each_take : EachAdds is_take (λ net. 0)
each_take = each_adds is_take (λ net. 0) takes
