use Rattle.std.proofs.Common.{◌≡◌, [], length, map, drop}
use Rattle.serde_json.specs.View.{view}
use Rattle.json_forms.specs.Lists.{read_all}
use Rattle.program_forms.specs.Form.{rule_after}
use Rattle.program_forms.proofs.reading.rules_of.Given as goal

abbrev pub invariant-loop-place : goal.invariant-loop-place
invariant-loop-place l = record {
  so_far : read_all rule_after l.rules.items (map view (drop l.place l.items)) ≡ read_all rule_after [] (map view l.items);
  count : length l.rules.items ≡ l.place;
}
