use Rattle.std.proofs.Common.{◌≡◌, Some, codes, arith}
use Rattle.std.proofs.lemmas.Result.{IfOk-weaker}
use Rattle.json.specs.Json.{read_key}
use Rattle.serde_json.specs.Data.{number, unsigned}
use Rattle.script_tokens.specs.Usual.{EndsCall, EndsCallBehind, named_members, placed_members}
use Rattle.script_tokens.proofs.Ends.{member-ends}
use Rattle.script_tokens.proofs.calls.send.Goals as goal

pub returns-in-Some : goal.returns-in-Some
returns-in-Some c =
    let lanes = c.args.lanes in
    let stacks = c.args.stacks.now in
    let lane = c.args.lane in
    let stack = c.in_ok-stack.stack in
    let word = codes "send" in
    let named : read_key c.number_at.new.reader ≡ Some (Some c.in-Some.key.now, c.next_key.new.self) = grind arith in
    IfOk-weaker c.send_behind.result (λ call. EndsCallBehind lanes stacks (placed_members lane word stack) c.in-Some.key.now c.next_key.new.self c.send_behind.new.reader call) (λ call. EndsCall lanes stacks (named_members lane word) c.args.reader.now c.send_behind.new.reader call)
    (λ call behind. member-ends lanes stacks call (named_members lane word) (codes "stack") (number (unsigned stack)) _ _ _ (c.in_ok-stack.ensures 124) (behind c.number_at.new.reader named)) c.send_behind.ensures
