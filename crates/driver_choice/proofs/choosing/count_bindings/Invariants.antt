use Rattle.std.proofs.Common.{◌≡◌, ◌≤◌, take, count_by}
use Rattle.driver_choice.specs.Chosen.{is_for}
use Rattle.driver_choice.proofs.choosing.count_bindings.Given as goal

abbrev pub invariant-loop-setup : goal.invariant-loop-setup
invariant-loop-setup l = record {
  counted : l.count ≡ count_by (is_for l.kind) (take l.setup-index l.setups);
  few : l.count ≤ l.setup-index;
}
