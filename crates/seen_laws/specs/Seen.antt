-- Who sees a status: each filter that has the status handler, and each binding, once (WDK, "Status Indications").
use Rattle.std.specs.Prelude.{◌≡◌, ℕ, ◌≤◌, ◌==◌, ◌&&◌, Bool, false, List, ◌∷◌, ◌++◌, count_by, if◌then◌else◌}
use Rattle.std.specs.List.{list_any}
use Rattle.ndis_base.specs.declared.ModuleId.{ModuleId}
use Rattle.ndis_base.specs.declared.ModuleId.TheVariants.{Miniport, Filter, Binding}
use Rattle.ndis_base.specs.declared.StatusName.{StatusName}
use Rattle.journal_types.specs.declared.Event.TheVariants as event
use Rattle.journal_types.specs.declared.Reply.TheVariants as reply
use Rattle.journal_types.specs.declared.Row.{Row}
use Rattle.journal_types.specs.declared.Row.TheVariants as row
use Rattle.journal_types.specs.declared.StackHead.{StackHead}
use Rattle.journal_types.specs.declared.Turn.{Turn}
use Rattle.stack_rules.specs.Tests.{same_module}
use Rattle.stack_rules.specs.Conditions.{has_binding}
use Rattle.stack_rules.specs.Net.{Net, is_status, seen}
use Rattle.stack_rules.specs.Rewires.{is_in}
use Rattle.stack_rules.specs.Targets.{has_status}
use Rattle.stack_rules.specs.Sound.{Sound}
use Rattle.home_laws.specs.Rows.{rows_of}

-- a status that is told in this state reaches each filter of the configuration that has the status handler, and
-- each binding of the stack
abbrev pub is_reached : Net → ModuleId → Bool
is_reached net Miniport = false
is_reached net (Filter f) = is_in f net.modules.order && has_status net.modules f
is_reached net (Binding b) = has_binding net.head b

-- the row tells that a module sees the status of this number
abbrev pub sees : ℕ → ModuleId → Row → Bool
sees n m (row.Seen number module_id) = (number.0 == n) && same_module module_id m
sees n m _ = false

-- how often the rows tell so
abbrev pub times_seen : ℕ → ModuleId → List Row → ℕ
times_seen n m rows = count_by (sees n m) rows

-- a status of this number is on its way
abbrev pub is_on_its_way : ℕ → Net → Bool
is_on_its_way n net = list_any (is_status n) net.things

-- once by a module that a status of this state reaches, never by another
abbrev pub once_if_reached : Net → ModuleId → ℕ
once_if_reached net m = if is_reached net m then 1 else 0

-- A status is told in the first state, and has its next number; nobody has seen it before. From then on a module
-- that it reaches sees it at most once, and no other does; once it isn't on its way, each that it reaches has seen it.
pub record IsSeenOnce (at : Net) (before since : List Row) (now : Net) : Type 0 where
  pub new : (m : ModuleId) → times_seen at.next.status m before ≡ 0
  pub most : (m : ModuleId) → times_seen at.next.status m since ≤ once_if_reached at m
  pub once : is_on_its_way at.next.status now ≡ false → (m : ModuleId) → times_seen at.next.status m since ≡ once_if_reached at m

-- Each status of a sound journal is seen once, from the turn on that tells it.
abbrev pub EachStatusIsSeenOnce : Type 0
EachStatusIsSeenOnce =
    (head : StackHead) (before later : List Turn) (turn : Turn) (name : StatusName) → Sound head (before ++ turn ∷ later) →
    turn.event ≡ event.Status name → turn.reply ≡ reply.Ok →
    IsSeenOnce (seen head before) (rows_of before) (rows_of (turn ∷ later)) (seen head (before ++ turn ∷ later))
