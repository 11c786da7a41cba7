use Rattle.std.proofs.Common.{◌≡◌, Some, Ok, arith}
use Rattle.std.proofs.lemmas.Result.{IfOk-weaker}
use Rattle.json.specs.Json.{read_key}
use Rattle.serde_json.specs.Data.{Data}
use Rattle.json_tokens.specs.Tokens.{IsValueAt}
use Rattle.script_forms.specs.Call.{call_in}
use Rattle.script_tokens.specs.Usual.{EndsCallBehind, laned_members}
use Rattle.script_tokens.proofs.Ends.{call-whole}
use Rattle.script_tokens.proofs.calls.call.Goals as goal

pub returns-in-Some : goal.returns-in-Some
returns-in-Some c =
    let lanes = c.args.lanes in
    let stacks = c.args.stacks.now in
    let lane = c.in_ok-lane.lane in
    let key = c.in-Some.key.now in
    let named : read_key c.number_at.new.reader ≡ Some (Some key, c.next_key.new.self) = grind arith in
    IfOk-weaker c.call_behind.result (λ call. EndsCallBehind lanes stacks (laned_members lane) key c.next_key.new.self c.call_behind.new.reader call)
    (λ call. (d : Data) × IsValueAt 125 c.args.reader.now d c.call_behind.new.reader × (call_in lanes stacks d ≡ Ok call))
    (λ call behind. call-whole lanes stacks call lane key _ _ _ _ _ c.in_ok-begin_object.ensures (c.in_ok-lane.ensures 124) named behind) c.call_behind.ensures
