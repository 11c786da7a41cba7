-- Which texts are scripts, and the first fault of each that is none.
use Rattle.std.specs.Prelude.{◌≡◌, ◌<◌, ◌≤◌, ℕ, ◌==◌, ◌&&◌, ◌||◌, Bool, true, false, not, List, [], ◌∷◌, length, codes, Option, Some, None, Result, Ok, Err, IsUtf8, if◌then◌else◌}
use Rattle.std.specs.List.{list_any, range_with_len}
use Rattle.serde_json.specs.Data.{Data}
use Rattle.serde_json.specs.Read.{read as read_text}
use Rattle.json_forms.specs.Lists.{read_all}
use Rattle.script_types.specs.declared.Call.{Call}
use Rattle.script_types.specs.declared.CallKind.{CallKind}
use Rattle.script_types.specs.declared.CallKind.TheVariants as ask
use Rattle.script_types.specs.declared.Script.{Script}
use Rattle.script_types.specs.declared.StackSetup.{StackSetup}
use Rattle.script_types.specs.declared.ScriptCause.{ScriptCause}
use Rattle.script_types.specs.declared.ScriptCause.TheVariants as cause
use Rattle.script_types.specs.declared.ScriptPlace.TheVariants as place
use Rattle.script_types.specs.declared.ScriptFault.{ScriptFault}
use Rattle.script_types.specs.declared.ScriptFault.TheVariants as fault
use Rattle.script_forms.specs.Call.{call_in}
use Rattle.script_forms.specs.Results.{◌>>=◌, placed}
use Rattle.script_forms.specs.Stack.{stack_in}
use Rattle.script_forms.specs.Values.{members_in, at, number_in, list_in}

-- the stack behind these, at its place
abbrev pub stack_after : ℕ → List StackSetup → Data → Result StackSetup ScriptFault
stack_after count before d = placed (place.Stack (length before)) (stack_in count before d)

-- the call behind these, at its place
abbrev pub call_after : ℕ → List StackSetup → List Call → Data → Result Call ScriptFault
call_after lanes stacks before d = placed (place.Call (length before)) (call_in lanes stacks d)

-- the call pauses, restarts or rewires its stack
abbrev pub rewires : CallKind → Bool
rewires ask.BeginPause = true
rewires ask.PauseNext = true
rewires ask.RestartNext = true
rewires (ask.Insert position kind setup) = true
rewires (ask.Remove filter) = true
rewires (ask.Replace filter kind setup) = true
rewires _ = false

-- it rewires this stack
abbrev pub rewires_stack : ℕ → Call → Bool
rewires_stack stack call = (call.stack == stack) && rewires call.kind

abbrev pub other_lane : Option ℕ → ℕ → Bool
other_lane None lane = false
other_lane (Some first) lane = not (first == lane)

-- a lane rewires this stack, that isn't the first one that did
abbrev pub two_lanes : ℕ → Option ℕ → List Call → Bool
two_lanes stack first [] = false
two_lanes stack first (call ∷ calls) =
    if rewires_stack stack call
    then other_lane first call.lane.0 || two_lanes stack (Some call.lane.0) calls
    else two_lanes stack first calls

-- two lanes rewire one of the stacks, of so many
abbrev pub two_rewirers : ℕ → List Call → Bool
two_rewirers count calls = list_any (λ stack. two_lanes stack None calls) (range_with_len 0 count)

abbrev pub one_rewirer : ℕ → List Call → Result (Unit {0}) ScriptFault
one_rewirer count calls = if two_rewirers count calls then Err (fault.Bad place.Whole cause.TwoRewirers) else Ok tt

-- the parts of a script: its version, its lanes, and the JSON of its stacks and of its calls
pub record Outline : Type 0 where
  pub version : ℕ
  pub lanes : ℕ
  pub stacks : List Data
  pub calls : List Data

abbrev pub outline_in : Data → Result Outline ScriptCause
outline_in d = do
  _ ← members_in (codes "version" ∷ codes "lanes" ∷ codes "stacks" ∷ codes "calls" ∷ []) [] d
  version ← at (codes "version") (number_in 1 1) d
  lanes ← at (codes "lanes") (number_in 1 8) d
  stacks ← at (codes "stacks") (list_in 1 4) d
  calls ← at (codes "calls") (list_in 0 16384) d
  Ok (record { version = version; lanes = lanes; stacks = stacks; calls = calls })

-- the script that the JSON is, or its first fault
abbrev pub script_in : Data → Result Script ScriptFault
script_in d = do
  outline ← placed place.Whole (outline_in d)
  stacks ← read_all (stack_after (length outline.stacks)) [] outline.stacks
  calls ← read_all (call_after outline.lanes stacks) [] outline.calls
  _ ← one_rewirer (length stacks) calls
  Ok (record { version = outline.version; lanes = outline.lanes; stacks = stacks; calls = calls })

-- the bytes are the JSON text of this data
pub record IsTextOf (bytes : List ℕ) (d : Data) : Type 0 where
  pub utf8 : IsUtf8 bytes
  pub read : read_text bytes ≡ Some d

-- what a text says: it is longer than 4,194,304 bytes, or it is no JSON, or it is JSON, and then a
-- script or faulty
pub data Says (bytes : List ℕ) (told : Result Script ScriptFault) : Type 0 where
  too_long : 4194304 < length bytes → told ≡ Err (fault.Bad place.Whole cause.TooLong) → Says bytes told
  not_json : length bytes ≤ 4194304 → ((d : Data) → IsTextOf bytes d → ⊥) → told ≡ Err (fault.Bad place.Whole cause.NotJson) → Says bytes told
  json : length bytes ≤ 4194304 → (d : Data) → IsTextOf bytes d → told ≡ script_in d → Says bytes told
