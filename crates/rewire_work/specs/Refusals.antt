-- What a change of the filters is refused for, in the order of the rules.
use Rattle.std.specs.Prelude.{ℕ, ◌==◌, Option, Some, None, if◌then◌else◌, length}
use Rattle.journal_types.specs.declared.Refusal.{Refusal}
use Rattle.journal_types.specs.declared.Refusal.TheVariants as refusal
use Rattle.stack_rules.specs.Net.{Net}
use Rattle.stack_rules.specs.Outcome.{Outcome, refused, max_filters}
use Rattle.stack_rules.specs.Pauses.{live_items}
use Rattle.stack_rules.specs.Rewires.{is_in, is_bad_position}
use Rattle.stack_rules.specs.Tests.{phase_is_paused}

-- what every change is refused for first
abbrev pub quiet_refusal : Net → Option Refusal
quiet_refusal net =
    if phase_is_paused net.phase
    then (if live_items net == 0 then None else Some (refusal.Busy (live_items net)))
    else Some refusal.NotPaused

-- the first cause, or else another one
abbrev pub or_cause : Option Refusal → Option Refusal → Option Refusal
or_cause None other = other
or_cause (Some cause) other = Some cause

-- the order has no room, or not this position
abbrev pub order_refusal : Net → ℕ → Option Refusal
order_refusal net position =
    if length net.modules.order == max_filters net.head
    then Some refusal.Full
    else (if is_bad_position net position then Some refusal.BadPosition else None)

abbrev pub insert_refusal : Net → ℕ → Option Refusal
insert_refusal net position = or_cause (quiet_refusal net) (order_refusal net position)

-- the filter isn't in the order
abbrev pub module_refusal : Net → ℕ → Option Refusal
module_refusal net f = if is_in f net.modules.order then None else Some refusal.NoModule

abbrev pub rewire_refusal : Net → ℕ → Option Refusal
rewire_refusal net f = or_cause (quiet_refusal net) (module_refusal net f)

-- refused for a cause, or else this
abbrev pub refused_or : Option Refusal → Outcome → Outcome
refused_or None outcome = outcome
refused_or (Some cause) outcome = refused cause
