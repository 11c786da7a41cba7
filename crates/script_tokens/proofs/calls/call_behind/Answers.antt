use Rattle.std.proofs.Common.{◌≡◌, List, ℕ, codes, sym, subst, rules}
use Rattle.std.proofs.lemmas.Result.{IfOk-weaker}
use Rattle.serde_json.specs.Data.{string}
use Rattle.script_tokens.specs.Usual.{EndsCall, EndsCallBehind, laned_members, named_members}
use Rattle.script_tokens.proofs.Ends.{value-ends}
use Rattle.script_tokens.proofs.calls.call_behind.Goals as goal

pub returns-in_ok-word-in-call : goal.returns-in_ok-word-in-call
returns-in_ok-word-in-call c =
    let lanes = c.args.lanes in
    let stacks = c.args.stacks.now in
    let lane = c.args.lane in
    let word = c.in_ok-word-in-call.word.now in
    let called : c.args.key.now ≡ codes "call" = search rules in
    IfOk-weaker c.call_of_word.result (λ call. EndsCall lanes stacks (named_members lane word) c.text.new.reader c.call_of_word.new.reader call) (λ call. EndsCallBehind lanes stacks (laned_members lane) c.args.key.now c.args.reader.now c.call_of_word.new.reader call)
    (λ call ends. subst (λ (key : List ℕ). EndsCallBehind lanes stacks (laned_members lane) key c.args.reader.now c.call_of_word.new.reader call) (sym called)
    (value-ends lanes stacks call (laned_members lane) (codes "call") (string word) _ _ _ (c.in_ok-word-in-call.ensures 124) ends)) c.call_of_word.ensures
