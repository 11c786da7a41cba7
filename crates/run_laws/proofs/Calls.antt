-- What calls leave as it is.
use Rattle.std.proofs.Common.{◌≡◌, true, refl, sym, subst}
use Rattle.journal_types.specs.declared.Event.{Event}
use Rattle.journal_types.specs.declared.Event.TheVariants as event
use Rattle.stack_rules.specs.Net.{Net, seen}
use Rattle.stack_rules.specs.Sound.{outcome}
use Rattle.state_laws.proofs.Rows.{IsSame}
use Rattle.state_laws.proofs.Quiet.{is_plain}
use Rattle.state_laws.proofs.Events.{state_after, plain_same, turn_is}
use Rattle.run_laws.specs.Turns.{EachTurn}
use Rattle.run_laws.specs.Calls.{is_call, IsStill, Stays}

-- calls
call_plain : (e : Event) → is_call e ≡ true → is_plain e ≡ true
call_plain event.Initialize h = cc
call_plain (event.Insert kind position setup) h = cc
call_plain (event.Remove filter) h = cc
call_plain (event.Replace filter kind setup) h = cc
call_plain event.BeginPause h = cc
call_plain event.PauseNext h = cc
call_plain event.RestartNext h = cc
call_plain event.Halt h = cc
call_plain _ h = refl

pub stays : EachTurn Stays
stays head turns turn s bound n c =
    let net : Net = seen head turns in
    let next : Net = state_after net turn.event (outcome net turn.event n.choice) in
    let same : IsSame net next = plain_same net turn.event n.choice (call_plain turn.event c) in
    subst (IsStill net) (sym (turn_is net turn n)) record { phase = same.phase; modules = same.modules }
