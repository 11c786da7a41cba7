-- Programs that tag what is sent and untag what is received (IEEE 802.1Q).
use Rattle.std.specs.Prelude.{ℕ, ◌%◌, ◌==◌, Bool, false, List, [], ◌∷◌, Option, Some, None}
use Rattle.program_types.specs.declared.Test.{Test}
use Rattle.program_types.specs.declared.Test.TheVariants as test
use Rattle.program_types.specs.declared.Action.{Action}
use Rattle.program_types.specs.declared.Action.TheVariants as action
use Rattle.program_types.specs.declared.Rule.{Rule}
use Rattle.journal_types.specs.declared.Setup.{Setup}

-- the tag control information that a rule puts on every frame
abbrev pub tag_of : Test → Action → Option ℕ
tag_of test.Any (action.Push control) = Some control
tag_of _ _ = None

-- the VLAN whose tag a rule takes off
abbrev pub vlan_of : Test → Action → Option ℕ
vlan_of (test.Vlan vlan) action.Pop = Some vlan
vlan_of _ _ = None

-- the same of a program's only rule
abbrev pub pushed_tag : List Rule → Option ℕ
pushed_tag (rule ∷ []) = tag_of rule.test rule.action
pushed_tag _ = None

abbrev pub popped_vlan : List Rule → Option ℕ
popped_vlan (rule ∷ []) = vlan_of rule.test rule.action
popped_vlan _ = None

-- the VLAN is that of the tag, in its low 12 bits
abbrev pub fits : Option ℕ → Option ℕ → Bool
fits (Some control) (Some vlan) = vlan == control % 4096
fits _ _ = false

-- sends get a tag, and receives of its VLAN lose theirs
abbrev pub is_tagging : Setup → Bool
is_tagging setup = fits (pushed_tag setup.send) (popped_vlan setup.receive)
