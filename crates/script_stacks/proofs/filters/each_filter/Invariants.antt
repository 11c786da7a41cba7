use Rattle.std.proofs.Common.{◌≡◌, [], map, drop}
use Rattle.serde_json.specs.View.{view}
use Rattle.json_forms.specs.Lists.{read_all}
use Rattle.script_forms.specs.Filter.{filter_in}
use Rattle.script_stacks.proofs.filters.each_filter.Given as goal

abbrev pub invariant-loop-item : goal.invariant-loop-item
invariant-loop-item l = read_all (λ earlier. filter_in) l.filters.items (map view (drop l.item-index l.items)) ≡ read_all (λ earlier. filter_in) [] (map view l.items)
