-- How often a journal calls each handed-in driver, through the modules that it stands for.
use Rattle.std.specs.Prelude.{ℕ, ◌+◌, ◌==◌, List, [], ◌∷◌, Option, Some, None, if◌then◌else◌}
use Rattle.ndis_base.specs.declared.ModuleId.{ModuleId}
use Rattle.ndis_base.specs.declared.ModuleId.TheVariants.{Miniport, Filter, Binding}
use Rattle.ndis_base.specs.declared.MiniportKind.{MiniportKind}
use Rattle.ndis_base.specs.declared.FilterKind.{FilterKind}
use Rattle.ndis_base.specs.declared.ProtocolKind.{ProtocolKind}
use Rattle.journal_types.specs.declared.StackHead.{StackHead}
use Rattle.journal_types.specs.declared.Turn.{Turn}
use Rattle.promise_rules.specs.declared.Place.{Place}
use Rattle.promise_rules.specs.declared.Place.TheVariants as place
use Rattle.promise_rules.specs.declared.Called.{Called}
use Rattle.promise_rules.specs.Calls.{served}
use Rattle.promise_rules.specs.Drivers.{miniport_place, protocol_places, shelf_of}

-- how often a journal calls the driver at a place through a module: never, unless the module's driver has that place
abbrev pub served_through : List Turn → ℕ → Called → ModuleId → Option ℕ → ℕ
served_through turns at what m None = 0
served_through turns at what m (Some driver) = if driver == at then served turns m what else 0

-- through the bindings from this number on, of which these are the drivers' places
abbrev pub served_through_bindings : List Turn → ℕ → Called → ℕ → List (Option ℕ) → ℕ
served_through_bindings turns at what b [] = 0
served_through_bindings turns at what b (driver ∷ drivers) =
    served_through turns at what (Binding b) driver + served_through_bindings turns at what (b + 1) drivers

-- through the filters that have or had a driver, of which these are the numbers with the drivers' places
abbrev pub served_through_filters : List Turn → ℕ → Called → List (ℕ × ℕ) → ℕ
served_through_filters turns at what [] = 0
served_through_filters turns at what (driver ∷ drivers) =
    served_through turns at what (Filter driver.0) (Some driver.1) + served_through_filters turns at what drivers

-- how often a journal calls the driver at a place for this, where the handed-in drivers have these kinds
abbrev pub served_at : StackHead → List MiniportKind → List FilterKind → List ProtocolKind → List Turn → Place → Called → ℕ
served_at head miniports filters protocols turns (place.Miniport at) what =
    served_through turns at what Miniport (miniport_place head.kind miniports)
served_at head miniports filters protocols turns (place.Filter at) what =
    served_through_filters turns at what (shelf_of filters turns).drivers
served_at head miniports filters protocols turns (place.Protocol at) what =
    served_through_bindings turns at what 0 (protocol_places [] head.bindings protocols)
