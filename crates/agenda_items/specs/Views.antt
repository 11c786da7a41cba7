-- What is on its way in a queue, and how it looks once it is taken out.
use Rattle.std.specs.Prelude.{ℕ, ◌==◌, Bool, false, List, [], ◌∷◌}
use Rattle.journal_types.specs.declared.Row.{Row}
use Rattle.journal_types.specs.declared.Row.TheVariants as row
use Rattle.buffer_pools.specs.Views.{ListView}
use Rattle.agenda_items.specs.declared.Carried.{Carried}
use Rattle.agenda_items.specs.declared.Carried.TheVariants as carried
use Rattle.agenda_items.specs.declared.Carried.TheVariants.{List as a_list, Status as a_status, Answer as an_answer}
use Rattle.agenda_items.specs.declared.Item.{Item}
use Rattle.agenda_items.specs.declared.Item.TheVariants as item

-- how something that was taken out looked in the queue
abbrev pub kept_as : Item → Carried
kept_as (item.List l way to) = carried.List l way to
kept_as (item.Status s) = carried.Status s
kept_as (item.Answer a) = carried.Answer a

-- a list is on its way as a Pass row says; no other row passes it
abbrev pub passed_by : ListView → Row → List Carried
passed_by l (row.Pass n way to) = carried.List l way to ∷ []
passed_by l _ = []

-- the status of this number
abbrev pub carries_status : ℕ → Carried → Bool
carries_status n (a_status s) = s.number.0 == n
carries_status n (a_list l way to) = false
carries_status n (an_answer a) = false

-- the answer to this request
abbrev pub carries_answer : ℕ → Carried → Bool
carries_answer parent (an_answer a) = a.parent.0 == parent
carries_answer parent (a_list l way to) = false
carries_answer parent (a_status s) = false
