use Rattle.std.proofs.Common.{◌≡◌, [], length, map, drop}
use Rattle.serde_json.specs.View.{view}
use Rattle.json_forms.specs.Lists.{read_all}
use Rattle.script_forms.specs.Script.{stack_after}
use Rattle.script_file.proofs.whole.each_stack.Given as goal

abbrev pub invariant-loop-place : goal.invariant-loop-place
invariant-loop-place l = record {
  so_far : read_all (stack_after (length l.items)) l.stacks.items (map view (drop l.place l.items)) ≡ read_all (stack_after (length l.items)) [] (map view l.items);
  count : length l.stacks.items ≡ l.place;
}
