use Rattle.std.proofs.Common.{◌≡◌, Some, None, Ok, codes, arith}
use Rattle.std.proofs.lemmas.Result.{IfOk-weaker}
use Rattle.json.specs.Json.{read_key}
use Rattle.serde_json.specs.Data.{number, unsigned, object}
use Rattle.script_forms.specs.Call.{call_in}
use Rattle.script_tokens.specs.Usual.{EndsCall, EndsCallBehind, named_members, placed_members}
use Rattle.script_tokens.proofs.Ends.{nothing-ends, member-ends}
use Rattle.script_tokens.proofs.calls.transmit.Goals as goal

pub returns-in-None : goal.returns-in-None
returns-in-None c =
    let lanes = c.args.lanes in
    let stacks = c.args.stacks.now in
    let lane = c.args.lane in
    let stack = c.in_ok-stack.stack in
    let word = codes "transmit" in
    let over : read_key c.number_at.new.reader ≡ Some (None, c.next_key.new.self) = grind arith in
    IfOk-weaker c.transmitted.result (λ call. call_in lanes stacks (object (placed_members lane word stack)) ≡ Ok call) (λ call. EndsCall lanes stacks (named_members lane word) c.args.reader.now c.next_key.new.self call)
    (λ call is. member-ends lanes stacks call (named_members lane word) (codes "stack") (number (unsigned stack)) _ _ _ (c.in_ok-stack.ensures 124) (nothing-ends lanes stacks call (placed_members lane word stack) _ _ over is)) c.transmitted.ensures

pub returns-in-Some : goal.returns-in-Some
returns-in-Some c =
    let lanes = c.args.lanes in
    let stacks = c.args.stacks.now in
    let lane = c.args.lane in
    let stack = c.in_ok-stack.stack in
    let word = codes "transmit" in
    let named : read_key c.number_at.new.reader ≡ Some (Some c.in-Some.key.now, c.next_key.new.self) = grind arith in
    IfOk-weaker c.transmit_behind.result (λ call. EndsCallBehind lanes stacks (placed_members lane word stack) c.in-Some.key.now c.next_key.new.self c.transmit_behind.new.reader call) (λ call. EndsCall lanes stacks (named_members lane word) c.args.reader.now c.transmit_behind.new.reader call)
    (λ call behind. member-ends lanes stacks call (named_members lane word) (codes "stack") (number (unsigned stack)) _ _ _ (c.in_ok-stack.ensures 124) (behind c.number_at.new.reader named)) c.transmit_behind.ensures
