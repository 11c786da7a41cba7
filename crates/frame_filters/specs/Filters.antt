-- Filters that do with frames what their programs say.
use Rattle.std.specs.Prelude.{◌≡◌, ℕ, [], List, Option, None}
use Rattle.ndis_base.specs.declared.FilterKind.{FilterKind}
use Rattle.ndis_base.specs.declared.FilterKind.TheVariants.{Pass}
use Rattle.journal_types.specs.declared.Setup.{Setup}
use Rattle.buffer_pools.specs.Views.{ListView}
use Rattle.driver_views.specs.declared.Served.{Served}
use Rattle.driver_views.specs.States.{FilterState, not_called}

-- what a filter shows
abbrev pub filter_of : FilterKind → Option Setup → List ListView → Served → ℕ → FilterState
filter_of kind setup kept served refusals =
    record { kind = kind; setup = setup; kept = kept; did = record { served = served; log = [] }; refusals = refusals }

-- a filter on the shelf that was never called
abbrev pub new_filter : FilterKind → FilterState
new_filter kind = record { kind = kind; setup = None; kept = []; did = record { served = not_called; log = [] }; refusals = 0 }

-- both programs are empty
pub record IsEmpty (setup : Setup) : Type 0 where
  pub send : setup.send ≡ []
  pub receive : setup.receive ≡ []

-- a filter that keeps these lists, of which nothing else is told
abbrev pub keeping : List ListView → FilterState
keeping kept = filter_of Pass None kept not_called 0
