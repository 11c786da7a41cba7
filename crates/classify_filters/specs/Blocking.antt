-- Programs that drop the lists with a frame of one EtherType (IEEE 802.3), and what such a filter does.
use Rattle.std.specs.Prelude.{ℕ, ◌==◌, ◌&&◌, ◌||◌, Bool, false, List, [], ◌∷◌, if◌then◌else◌}
use Rattle.ndis_base.specs.declared.ListStatus.TheVariants.{Dropped}
use Rattle.program_types.specs.declared.Test.{Test}
use Rattle.program_types.specs.declared.Test.TheVariants as test
use Rattle.program_types.specs.declared.Action.{Action}
use Rattle.program_types.specs.declared.Action.TheVariants as action
use Rattle.program_types.specs.declared.Rule.{Rule}
use Rattle.program_types.specs.Apply.{pair_at}
use Rattle.journal_types.specs.declared.Setup.{Setup}
use Rattle.buffer_pools.specs.Views.{ListView}
use Rattle.driver_calls.specs.declared.fates.LentFate.{LentFate}
use Rattle.driver_calls.specs.declared.fates.LentFate.TheVariants as fate
use Rattle.driver_tray.specs.Tray.{TrayView, turned_back, passed_on}

-- the rule drops frames of this EtherType
abbrev pub is_drop : ℕ → Test → Action → Bool
is_drop n (test.EtherType m) action.Drop = m == n
is_drop n _ _ = false

-- this is the program's only rule
abbrev pub is_only_drop : ℕ → List Rule → Bool
is_only_drop n (rule ∷ []) = is_drop n rule.test rule.action
is_only_drop n _ = false

-- both programs say just that
abbrev pub is_blocking : ℕ → Setup → Bool
is_blocking n setup = is_only_drop n setup.send && is_only_drop n setup.receive

-- one of the frames has the EtherType
abbrev pub carries : ℕ → List (List ℕ) → Bool
carries n [] = false
carries n (frame ∷ frames) = pair_at frame 12 == n || carries n frames

-- the list is turned back as Dropped, or passed on
abbrev pub blocked : ℕ → ListView → TrayView → TrayView
blocked n l t = if carries n l.frames then turned_back t l Dropped else passed_on t l

-- a list that is lent is dropped, or left
abbrev pub lent : ℕ → List (List ℕ) → LentFate
lent n frames = if carries n frames then fate.Dropped else fate.Left
