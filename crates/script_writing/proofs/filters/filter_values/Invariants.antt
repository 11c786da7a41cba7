use Rattle.std.proofs.Common.{◌≡◌, map, take}
use Rattle.serde_json.specs.View.{view}
use Rattle.script_writing.specs.Written.{filter_data}
use Rattle.script_writing.proofs.filters.filter_values.Given as goal

abbrev pub invariant-loop-filter : goal.invariant-loop-filter
invariant-loop-filter l = map view l.values.items ≡ map (λ f. filter_data f.kind f.setup) (take l.filter-index l.filters)
