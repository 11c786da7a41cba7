use Rattle.std.proofs.Common.{◌≡◌, [], map, drop}
use Rattle.serde_json.specs.View.{view}
use Rattle.json_forms.specs.Lists.{read_all}
use Rattle.script_forms.specs.Values.{frame_in}
use Rattle.script_forms.proofs.parts.each_frame.Given as goal

abbrev pub invariant-loop-item : goal.invariant-loop-item
invariant-loop-item l = read_all (λ before. frame_in) l.frames.items (map view (drop l.item-index l.items)) ≡ read_all (λ before. frame_in) [] (map view l.items)
