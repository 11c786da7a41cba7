-- Which lists on their way count at a position, by the queue alone: a list on its way up or done is at the nearest
-- module below its target that passes such lists.
use Rattle.std.specs.Prelude.{ℕ, ◌==◌, ◌&&◌, not, Bool, false}
use Rattle.ndis_base.specs.declared.ModuleId.TheVariants.{Miniport}
use Rattle.journal_types.specs.declared.PassWay.{PassWay}
use Rattle.journal_types.specs.declared.PassWay.TheVariants as way
use Rattle.journal_types.specs.declared.Target.{Target}
use Rattle.journal_types.specs.declared.Target.TheVariants.{Module}
use Rattle.agenda_items.specs.declared.Carried.{Carried}
use Rattle.agenda_items.specs.declared.Carried.TheVariants.{List as a_list, Status as a_status, Answer as an_answer}
use Rattle.stack_rules.specs.Net.{Modules}
use Rattle.stack_rules.specs.Places.{position, position_of_target}
use Rattle.stack_rules.specs.Targets.{has_send, has_receive, first_filter, filters_below}

-- the position of the nearest filter below a position that has the pair, else that of the miniport
abbrev pub nearest_below : Modules → (ℕ → Bool) → ℕ → ℕ
nearest_below ms has i = position_of_target ms.order (first_filter has (filters_below ms i) (Module Miniport))

-- the position of a list on its way
abbrev pub position_on_way : Modules → PassWay → Target → ℕ
position_on_way ms way.Down to = position_of_target ms.order to
position_on_way ms (way.Back status) to = position_of_target ms.order to
position_on_way ms (way.Done status) to = nearest_below ms (has_send ms) (position_of_target ms.order to)
position_on_way ms way.Up to = nearest_below ms (has_receive ms) (position_of_target ms.order to)

-- the list is at the position, and its owner isn't
abbrev pub counts_there : Modules → ℕ → Carried → Bool
counts_there ms i (a_list l way to) = not (position ms.order l.label.owner == i) && (position_on_way ms way to == i)
counts_there ms i (a_status s) = false
counts_there ms i (an_answer a) = false
