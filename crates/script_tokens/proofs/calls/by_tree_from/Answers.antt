use Rattle.std.proofs.Common.{subst}
use Rattle.std.proofs.lemmas.Result.{IfOk-weaker}
use Rattle.serde_json.specs.Data.{Members}
use Rattle.serde_json.specs.View.{view, members_view}
use Rattle.script_tokens.specs.Usual.{EndsCall, EndsCallBehind}
use Rattle.script_tokens.proofs.Ends.{value-ends}
use Rattle.script_tokens.proofs.calls.by_tree_from.Goals as goal

pub returns : goal.returns
returns c =
    let lanes = c.args.lanes in
    let stacks = c.args.stacks.now in
    let before = members_view c.args.found.entries in
    let key = c.args.key.now in
    IfOk-weaker c.by_tree.result (λ call. EndsCall lanes stacks (members_view c.put.new.map.entries) c.read_value.new.reader c.by_tree.new.reader call) (λ call. EndsCallBehind lanes stacks before key c.args.reader.now c.by_tree.new.reader call)
    (λ call ends. value-ends lanes stacks call before key (view c.in_ok-value.value) _ _ _ c.in_ok-value.ensures (subst (λ (ms : Members). EndsCall lanes stacks ms c.read_value.new.reader c.by_tree.new.reader call) c.in_ok-put.ensures.ok ends)) c.by_tree.ensures
