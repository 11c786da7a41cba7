use Rattle.std.proofs.Common.{◌≡◌, [], length, map, drop}
use Rattle.serde_json.specs.View.{view}
use Rattle.json_forms.specs.Lists.{read_all}
use Rattle.script_forms.specs.Script.{call_after}
use Rattle.script_file.proofs.whole.each_call.Given as goal

abbrev pub invariant-loop-place : goal.invariant-loop-place
invariant-loop-place l = record {
  so_far : read_all (call_after l.lanes l.fn.stacks) l.calls.items (map view (drop l.place l.items)) ≡ read_all (call_after l.lanes l.fn.stacks) [] (map view l.items);
  count : length l.calls.items ≡ l.place;
}
