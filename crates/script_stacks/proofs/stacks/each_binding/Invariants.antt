use Rattle.std.proofs.Common.{◌≡◌, [], map, drop}
use Rattle.serde_json.specs.View.{view}
use Rattle.json_forms.specs.Lists.{read_all}
use Rattle.script_forms.specs.Stack.{binding_in}
use Rattle.script_stacks.proofs.stacks.each_binding.Given as goal

abbrev pub invariant-loop-item : goal.invariant-loop-item
invariant-loop-item l = read_all (λ earlier. binding_in) l.bindings.items (map view (drop l.item-index l.items)) ≡ read_all (λ earlier. binding_in) [] (map view l.items)
