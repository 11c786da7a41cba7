-- In which order the calls of several lanes stand in a journal.
use Rattle.std.specs.Prelude.{◌≡◌, true, All, List, [], ◌∷◌, ◌++◌}
use Rattle.journal_types.specs.declared.StackHead.{StackHead}
use Rattle.journal_types.specs.declared.Turn.{Turn}
use Rattle.script_types.specs.declared.Call.{Call}
use Rattle.script_types.specs.declared.FilterSetup.{FilterSetup}
use Rattle.script_types.specs.declared.StackSetup.{StackSetup}
use Rattle.promise_rules.specs.Followed.{is_of_lane, IsFollowed, IsOpenedAndEnded}

-- the turns are those of a call and of its tail, and no other lane's
pub record IsCallAlone (stacks : List StackSetup) (call : Call) (turns : List Turn) : Type 0 where
  pub followed : IsFollowed stacks call.lane (call ∷ []) (turns ∷ [])
  pub alone : All (λ t. is_of_lane call.lane.0 t.who ≡ true) turns

-- the turns are those of these calls, one after the other, each with those of its tail
abbrev pub StandTogether : List StackSetup → List Call → List Turn → Type 0
StandTogether stacks [] turns = turns ≡ []
StandTogether stacks (c ∷ cs) turns = (first : List Turn) × (rest : List Turn) × (turns ≡ first ++ rest) × IsCallAlone stacks c first × StandTogether stacks cs rest

-- they stand so between the opening and the ending
pub record CallsInOrder (stacks : List StackSetup) (head : StackHead) (filters : List FilterSetup) (calls : List Call) (turns : List Turn) : Type 0 where
  pub ended : IsOpenedAndEnded head filters turns
  pub together : StandTogether stacks calls ended.middle
