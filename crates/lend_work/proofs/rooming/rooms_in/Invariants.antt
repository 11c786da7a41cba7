use Rattle.std.proofs.Common.{◌≡◌, ◌≤◌, map, length}
use Rattle.std.specs.List.{AllWithin}
use Rattle.lend_work.specs.Lends.{CanVisit}
use Rattle.lend_work.proofs.rooming.rooms_in.Given as goal

abbrev pub invariant-loop-i : goal.invariant-loop-i
invariant-loop-i g l = record {
  count : length l.filters.items ≡ length l.initial.filters.items;
  states : map g.F.FilterCalls.state l.filters.items ≡ map g.F.FilterCalls.state l.initial.filters.items;
  rooms : AllWithin (λ r. 1 ≤ r) (map g.F.FilterCalls.room l.filters.items) 0 l.i;
  counts : AllWithin CanVisit (map g.F.FilterCalls.state l.filters.items) 0 l.i;
}
