-- Filters change while the stack is Paused (WDK, "Inserting a Filter Module" and "Removing a Filter Module":
-- the stack is paused first and restarted afterwards).
use Rattle.std.specs.Prelude.{ℕ, ◌+◌, ◌-◌, ◌==◌, ◌||◌, not, Bool, List, [], ◌∷◌, ◌++◌, if◌then◌else◌, length, nat_lt, map, filter, insert}
use Rattle.std.specs.List.{list_any}
use Rattle.ndis_base.specs.declared.ModuleId.TheVariants.{Filter}
use Rattle.ndis_base.specs.declared.ModuleState.TheVariants as state
use Rattle.journal_types.specs.declared.Row.{Row}
use Rattle.journal_types.specs.declared.Row.TheVariants as row
use Rattle.journal_types.specs.declared.Reply.TheVariants as reply
use Rattle.journal_types.specs.declared.Refusal.TheVariants as refusal
use Rattle.stack_rules.specs.declared.Choice.{Choice}
use Rattle.stack_rules.specs.Tests.{phase_is_paused}
use Rattle.stack_rules.specs.Net.{Net}
use Rattle.stack_rules.specs.Outcome.{Outcome, refused, config_no, max_filters}
use Rattle.stack_rules.specs.Pauses.{state_row, live_items}

abbrev pub config_row : Net → List ℕ → Row
config_row net order = row.Config (config_no (net.modules.config + 1)) order

abbrev pub attach_rows : ℕ → List Row
attach_rows f = state_row state.Attaching (Filter f) ∷ state_row state.Paused (Filter f) ∷ []

abbrev pub is_in : ℕ → List ℕ → Bool
is_in f order = list_any (λ g. g == f) order

abbrev pub is_bad_position : Net → ℕ → Bool
is_bad_position net position = position == 0 || nat_lt (length net.modules.order + 1) position

-- the driver that the shelf gives refuses, or there is none
abbrev pub when_attached : Choice → Outcome → Outcome
when_attached choice outcome =
    if choice.shelf_empty
    then refused refusal.ShelfEmpty
    else (if choice.refuses then refused refusal.AttachRefused else outcome)

-- what every change is refused for first
abbrev pub when_quiet : Net → Outcome → Outcome
when_quiet net outcome =
    if phase_is_paused net.phase
    then (if live_items net == 0 then outcome else refused (refusal.Busy (live_items net)))
    else refused refusal.NotPaused

abbrev pub inserted : Net → ℕ → Outcome
inserted net position = record {
  reply = reply.Inserted net.next.filter;
  rows = attach_rows net.next.filter ++ config_row net (insert net.modules.order (position - 1) net.next.filter) ∷ [];
}

abbrev pub insert_outcome : Net → ℕ → Choice → Outcome
insert_outcome net position choice =
    when_quiet net
    (if length net.modules.order == max_filters net.head
    then refused refusal.Full
    else (if is_bad_position net position then refused refusal.BadPosition else when_attached choice (inserted net position)))

abbrev pub removed : Net → ℕ → Outcome
removed net f = record {
  reply = reply.Removed;
  rows = state_row state.Detached (Filter f) ∷ config_row net (filter (λ g. not (g == f)) net.modules.order) ∷ [];
}

abbrev pub remove_outcome : Net → ℕ → Outcome
remove_outcome net f = when_quiet net (if is_in f net.modules.order then removed net f else refused refusal.NoModule)

abbrev pub swapped : ℕ → ℕ → ℕ → ℕ
swapped old new g = if g == old then new else g

abbrev pub replaced : Net → ℕ → Outcome
replaced net f = record {
  reply = reply.Replaced net.next.filter;
  rows = state_row state.Detached (Filter f)
      ∷ (attach_rows net.next.filter ++ config_row net (map (swapped f net.next.filter) net.modules.order) ∷ []);
}

abbrev pub replace_outcome : Net → ℕ → Choice → Outcome
replace_outcome net f choice =
    when_quiet net (if is_in f net.modules.order then when_attached choice (replaced net f) else refused refusal.NoModule)
