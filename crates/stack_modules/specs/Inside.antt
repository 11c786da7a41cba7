-- The modules from the inside.
use Rattle.std.specs.Prelude.{◌≤◌}
use Rattle.std.specs.Vec.{vec_capacity}
use Rattle.stack_rules.specs.Net.{Modules}
use Rattle.stack_modules.specs.declared.modules.StackModules.TheInside.{Inside}

abbrev pub modules_view : Inside → Modules
modules_view m = record { miniport = m.miniport; bindings = m.bindings.items; filters = m.filters.items; config = m.config; order = m.order.items }

-- there is room for 16 filters in the order, and for one more that is attached
pub record IsRoomy (m : Inside) : Type 0 where
  pub filters : 17 ≤ vec_capacity m.filters
  pub order : 16 ≤ vec_capacity m.order
