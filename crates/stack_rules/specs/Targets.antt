-- Where a list or a status goes next: to the nearest module in its direction that has the needed pair of
-- handlers, and past all others (WDK, "Filter Module Bypass Mode"); on the way back to its owner.
use Rattle.std.specs.Prelude.{ℕ, ◌-◌, Bool, false, List, [], ◌∷◌, Option, Some, None, if◌then◌else◌, reverse, take, drop}
use Rattle.ndis_base.specs.declared.ModuleId.{ModuleId}
use Rattle.ndis_base.specs.declared.ModuleId.TheVariants.{Miniport, Filter}
use Rattle.ndis_base.specs.declared.ListNo.{ListNo}
use Rattle.ndis_base.specs.declared.ListStatus.{ListStatus}
use Rattle.ndis_base.specs.declared.Direction.{Direction}
use Rattle.ndis_base.specs.declared.Direction.TheVariants as direction
use Rattle.journal_types.specs.declared.Target.{Target}
use Rattle.journal_types.specs.declared.Target.TheVariants.{Module, Bindings}
use Rattle.journal_types.specs.declared.PassWay.TheVariants as way
use Rattle.journal_types.specs.declared.Row.{Row}
use Rattle.journal_types.specs.declared.Row.TheVariants as row
use Rattle.stack_rules.specs.declared.LiveList.{LiveList}
use Rattle.stack_rules.specs.declared.Attached.{Attached}
use Rattle.stack_rules.specs.Net.{Modules, attached, handlers_of}
use Rattle.stack_rules.specs.Places.{position}

-- whether a filter has the send pair, the receive pair, or the status handler
abbrev pub has_send : Modules → ℕ → Bool
has_send ms f = (handlers_of (attached f ms.filters)).send

abbrev pub has_receive : Modules → ℕ → Bool
has_receive ms f = (handlers_of (attached f ms.filters)).receive

abbrev pub has_status : Modules → ℕ → Bool
has_status ms f = (handlers_of (attached f ms.filters)).status

-- the first of these filters that has the handlers, and where none has them the other target
abbrev pub first_filter : (ℕ → Bool) → List ℕ → Target → Target
first_filter has [] other = other
first_filter has (f ∷ fs) other = if has f then Module (Filter f) else first_filter has fs other

-- the filters strictly between two positions, and those above or below one, from top to bottom
abbrev pub filters_between : Modules → ℕ → ℕ → List ℕ
filters_between ms top bottom = drop top (take (bottom - 1) ms.order)

abbrev pub filters_above : Modules → ℕ → List ℕ
filters_above ms i = take (i - 1) ms.order

abbrev pub filters_below : Modules → ℕ → List ℕ
filters_below ms i = drop i ms.order

-- a send goes down to the next filter with the send pair, else to the miniport
abbrev pub next_down : Modules → ℕ → Target
next_down ms i = first_filter (has_send ms) (filters_below ms i) (Module Miniport)

-- a receive goes up to the next filter with the receive pair, else to the bindings
abbrev pub next_up : Modules → ℕ → Target
next_up ms i = first_filter (has_receive ms) (reverse (filters_above ms i)) Bindings

-- a done send goes up through the filters that had passed it, and to its owner
abbrev pub next_done : Modules → ℕ → ModuleId → Target
next_done ms i owner = first_filter (has_send ms) (reverse (filters_between ms (position ms.order owner) i)) (Module owner)

-- a returned receive goes down through the filters that had passed it, and to its owner
abbrev pub next_back : Modules → ℕ → ModuleId → Target
next_back ms i owner = first_filter (has_receive ms) (filters_between ms i (position ms.order owner)) (Module owner)

-- a status goes up to the next filter with the status handler, else to the bindings
abbrev pub next_status : Modules → ℕ → Target
next_status ms i = first_filter (has_status ms) (reverse (filters_above ms i)) Bindings

-- onwards: down for a send, up for a receive; a lent list itself never goes on its way, so its case never comes
abbrev pub onward : Modules → ListNo → Direction → ℕ → Row
onward ms list direction.Down i = row.Pass list way.Down (next_down ms i)
onward ms list direction.Up i = row.Pass list way.Up (next_up ms i)
onward ms list direction.Lent i = row.Pass list way.Up (next_up ms i)

-- homewards: done for a send, back for a receive; a lent list is home in its own turn, so its case never comes
abbrev pub homeward_by : Modules → ListNo → ModuleId → Direction → ℕ → ListStatus → Row
homeward_by ms list owner direction.Down i status = row.Pass list (way.Done status) (next_done ms i owner)
homeward_by ms list owner direction.Up i status = row.Pass list (way.Back status) (next_back ms i owner)
homeward_by ms list owner direction.Lent i status = row.Pass list (way.Back status) (next_back ms i owner)

abbrev pub homeward : Modules → LiveList → ℕ → ListStatus → Row
homeward ms l i status = homeward_by ms l.list l.owner l.direction i status

-- a module turns the list back, and it goes homewards from there
abbrev pub turned_back : Modules → LiveList → ModuleId → ListStatus → List Row
turned_back ms l m status = row.TurnBack l.list m status ∷ homeward ms l (position ms.order m) status ∷ []
