-- What the drivers choose where a script is walked: hold filters and retain protocols keep what they are
-- given, the miniports initialise, a driver of each kind is there, and a filter refuses to attach exactly
-- where its programs don't fit its kind.
use Rattle.std.specs.Prelude.{ℕ, ◌==◌, ◌&&◌, ◌%◌, Bool, true, false, not, List, [], ◌∷◌, Option, Some, None, if◌then◌else◌}
use Rattle.program_types.specs.declared.Rule.{Rule}
use Rattle.program_types.specs.declared.Test.{Test}
use Rattle.program_types.specs.declared.Test.TheVariants as test
use Rattle.program_types.specs.declared.Action.{Action}
use Rattle.program_types.specs.declared.Action.TheVariants as action
use Rattle.ndis_base.specs.declared.FilterKind.{FilterKind}
use Rattle.ndis_base.specs.declared.FilterKind.TheVariants as kind
use Rattle.journal_types.specs.declared.Setup.{Setup}
use Rattle.journal_types.specs.declared.Event.{Event}
use Rattle.journal_types.specs.declared.Event.TheVariants as event
use Rattle.stack_rules.specs.declared.Choice.{Choice}

abbrev pub is_any : Test → Bool
is_any test.Any = true
is_any _ = false

-- the EtherType of LLDP frames, 0x88CC (IEEE 802.1AB)
abbrev pub is_lldp : Test → Bool
is_lldp (test.EtherType n) = n == 35020
is_lldp _ = false

abbrev pub is_drop : Action → Bool
is_drop action.Drop = true
is_drop _ = false

abbrev pub is_pop : Action → Bool
is_pop action.Pop = true
is_pop _ = false

abbrev pub control_of : Action → Option ℕ
control_of (action.Push control) = Some control
control_of _ = None

abbrev pub vlan_of : Test → Option ℕ
vlan_of (test.Vlan vlan) = Some vlan
vlan_of _ = None

-- a classify filter drops LLDP frames, and does nothing else
abbrev pub drops_lldp : List Rule → Bool
drops_lldp [] = false
drops_lldp (rule ∷ []) = is_lldp rule.test && is_drop rule.action
drops_lldp (rule ∷ other ∷ others) = false

-- the tag that a program gives every frame, where it does nothing else
abbrev pub pushed_tag : List Rule → Option ℕ
pushed_tag [] = None
pushed_tag (rule ∷ []) = (if is_any rule.test then control_of rule.action else None)
pushed_tag (rule ∷ other ∷ others) = None

-- the VLAN whose tags a program takes off, where it does nothing else
abbrev pub popped_vlan : List Rule → Option ℕ
popped_vlan [] = None
popped_vlan (rule ∷ []) = (if is_pop rule.action then vlan_of rule.test else None)
popped_vlan (rule ∷ other ∷ others) = None

-- the low 12 bits of a tag are its VLAN
abbrev pub has_vlan : Option ℕ → Option ℕ → Bool
has_vlan None vlan = false
has_vlan (Some control) None = false
has_vlan (Some control) (Some vlan) = control % 4096 == vlan

abbrev pub is_empty : List Rule → Bool
is_empty [] = true
is_empty (rule ∷ rules) = false

abbrev pub fits : FilterKind → Setup → Bool
fits kind.Rule setup = true
fits kind.Pass setup = is_empty setup.send && is_empty setup.receive
fits kind.Hold setup = is_empty setup.send && is_empty setup.receive
fits kind.Count setup = is_empty setup.send && is_empty setup.receive
fits kind.Tag setup = has_vlan (pushed_tag setup.send) (popped_vlan setup.receive)
fits kind.Classify setup = drops_lldp setup.send && drops_lldp setup.receive

abbrev pub refuses : Event → Bool
refuses (event.Insert kind position setup) = not (fits kind setup)
refuses (event.Replace filter kind setup) = not (fits kind setup)
refuses _ = false

abbrev pub choice_for : Event → Choice
choice_for asked = record { keeps = true; refuses = refuses asked; shelf_empty = false }
