use Rattle.std.proofs.Common.{◌≡◌, Ok, codes}
use Rattle.std.proofs.lemmas.Result.{IfOk-weaker}
use Rattle.serde_json.specs.Data.{Data, object}
use Rattle.script_forms.specs.Call.{call_in}
use Rattle.script_forms.specs.Values.{frames_in}
use Rattle.script_tokens.specs.Usual.{EndsCallBehind, placed_members, pumped_members, send_members}
use Rattle.script_tokens.proofs.Ends.{send-ends}
use Rattle.script_tokens.proofs.calls.bound_send.Goals as goal

pub returns : goal.returns
returns c =
    let lanes = c.args.lanes in
    let stacks = c.args.stacks.now in
    let lane = c.args.lane in
    let stack = c.args.stack in
    let binding = c.in_ok-binding.binding in
    let frames = c.in_ok-frames.ensures in
    let pump = c.in_ok-pump.pump in
    IfOk-weaker c.sent.result (λ call. (d : Data) → frames_in d ≡ Ok c.in_ok-frames.frames → call_in lanes stacks (object (pumped_members pump (send_members lane stack binding d))) ≡ Ok call)
    (λ call. EndsCallBehind lanes stacks (placed_members lane (codes "send") stack) (codes "binding") c.args.reader.now c.last_pump.new.reader call)
    (λ call is. send-ends lanes stacks call lane stack binding frames.0 pump _ _ _ _ _ (c.in_ok-binding.ensures 124) c.in_ok-name.ensures frames.1 (c.in_ok-pump.ensures (send_members lane stack binding frames.0)) (is frames.0 frames.2)) c.sent.ensures
