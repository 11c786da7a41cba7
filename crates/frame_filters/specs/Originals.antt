-- The lists of whose frames clones were made.
use Rattle.std.specs.Prelude.{◌≡◌, List, Some}
use Rattle.ndis_base.specs.declared.Origin.{Origin}
use Rattle.buffer_pools.specs.Views.{ListView}
use Rattle.driver_calls.specs.Filters.{original_of, without_first}

-- the kept list of which a list is a clone is taken
pub record TakesOriginal (from : Origin) (kept : List ListView) (l : ListView) (kept' : List ListView) : Type 0 where
  pub is : original_of from kept ≡ Some l
  pub left : kept' ≡ without_first l.label.number.0 kept
