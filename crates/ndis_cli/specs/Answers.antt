-- What the top call answers, reads and writes.
use Rattle.std.specs.Prelude.{◌≡◌, ◌⊎◌, ℕ, true, false, Bool, List, [], ◌∷◌, map, Option, Some, Ok, Err, IfSome, String, string_bytes}
use Rattle.flat_journal.specs.Flat.{FlatView}
use Rattle.outside_io.specs.Edges.{after}
use Rattle.flat_report.specs.Report.{report}
use Rattle.journal_types.specs.declared.Turn.{Turn}
use Rattle.script_types.specs.declared.Script.{Script}
use Rattle.script_types.specs.declared.StackSetup.{StackSetup}
use Rattle.script_types.specs.declared.ScriptPlace.{ScriptPlace}
use Rattle.script_types.specs.declared.ScriptPlace.TheVariants as place
use Rattle.script_types.specs.declared.ScriptCause.{ScriptCause}
use Rattle.script_types.specs.declared.ScriptCause.TheVariants as cause
use Rattle.script_types.specs.declared.ScriptFault.TheVariants as fault
use Rattle.script_forms.specs.Script.{Says}
use Rattle.driver_views.specs.States.{MiniportState, ProtocolState, FilterState}
use Rattle.book_opening.specs.declared.opening.StackDrivers.{StackDrivers}
use Rattle.book_opening.specs.Opened.{HandedView, handed_of}
use Rattle.script_runs.specs.Built.{is_built, IsRun}
use Rattle.script_runs.specs.Drivers.{LacksDrivers, LeavesDrivers, ComesBack}
use Rattle.ndis_cli.specs.declared.top.Status.{Status}
use Rattle.ndis_cli.specs.declared.top.Status.TheVariants.{Done, Usage, BadScript, ReadFault, WriteFault, Memory, NoParts}

-- the words by their bytes, and the parts by their drivers' states
abbrev pub texts_of : {A : Type 0} → List (String A) → List (List ℕ)
texts_of words = map (λ w. string_bytes w) words

abbrev pub all_handed : {M P F : Type 0} → (M → MiniportState) → (P → ProtocolState) → (F → FilterState) → List (StackDrivers M P F) → List HandedView
all_handed m p f parts = map (λ part. handed_of m p f part) parts

-- the bytes are the text of this script, where they are told
abbrev pub IsOf : Option (List ℕ) → Script → Type 0
IsOf left script = IfSome left (λ bytes. Says bytes (Ok script))

-- the text is no script, and this is its first fault, or it is one that can't be run yet
pub data IsFaulty (bytes : List ℕ) (at : ScriptPlace) (why : ScriptCause) : Type 0 where
  no_script : Says bytes (Err (fault.Bad at why)) → IsFaulty bytes at why
  not_built : (script : Script) → Says bytes (Ok script) → is_built script ≡ false → at ≡ place.Whole → why ≡ cause.NotBuilt → IsFaulty bytes at why

-- the text was added, all of it
abbrev pub AddsAll : Option (List ℕ) → Option (List ℕ) → List ℕ → Type 0
AddsAll held held' text = held' ≡ after held text

-- the drivers of the first of the parts came back after a run of these turns, and the other parts are as they
-- were
pub record AreBack (stacks : List StackSetup) (turns : List Turn) (parts parts' : List HandedView) : Type 0 where
  pub first : HandedView
  pub more : List HandedView
  pub handed : parts ≡ first ∷ more
  pub now : HandedView
  pub returned : parts' ≡ now ∷ more
  pub back : ComesBack stacks turns first now

-- the drivers of the first of the parts that its stack took are gone, the others stand there, and the other parts are as
-- they were
pub record OthersAreLeft (stacks : List StackSetup) (parts parts' : List HandedView) : Type 0 where
  pub first : HandedView
  pub more : List HandedView
  pub handed : parts ≡ first ∷ more
  pub now : HandedView
  pub returned : parts' ≡ now ∷ more
  pub left : LeavesDrivers stacks first now

-- memory ran out in a run, or after it, when the drivers had come back
abbrev pub GivesUp : List StackSetup → List HandedView → List HandedView → Type 0
GivesUp stacks parts parts' = OthersAreLeft stacks parts parts' ⊎ ((turns : List Turn) × AreBack stacks turns parts parts')

-- the bytes are a script that can be run, and memory ran out then
pub record GaveUp (left : Option (List ℕ)) (parts parts' : List HandedView) : Type 0 where
  pub script : Script
  pub is : IsOf left script
  pub built : is_built script ≡ true
  pub gives_up : GivesUp script.stacks parts parts'

-- a script was run in an order of lanes over the first of the parts: its journal is of its stack, sound, and as the laws and the
-- script ask; the stack's drivers came back, and counted and logged what is promised of that journal; and what
-- was written is the report of that journal, or, with AddsPrefix, a prefix of it
pub record Replayed (How : Option (List ℕ) → Option (List ℕ) → List ℕ → Type 0) (script : Script) (order : List ℕ) (parts parts' : List HandedView) (held held' : Option (List ℕ)) : Type 0 where
  pub journal : FlatView
  pub ran : IsRun script order journal.head journal.turns
  pub back : AreBack script.stacks journal.turns parts parts'
  pub written : How held held' (report (journal ∷ []) [])

-- the bytes are a script that can be run, and it was, in an order of lanes
pub record Wrote (How : Option (List ℕ) → Option (List ℕ) → List ℕ → Type 0) (order : List ℕ) (left : Option (List ℕ)) (parts parts' : List HandedView) (held held' : Option (List ℕ)) : Type 0 where
  pub script : Script
  pub is : IsOf left script
  pub built : is_built script ≡ true
  pub replayed : Replayed How script order parts parts' held held'

-- the bytes are a script that can be run
pub record IsFine (left : Option (List ℕ)) : Type 0 where
  pub bytes : List ℕ
  pub script : Script
  pub told : left ≡ Some bytes
  pub is : Says bytes (Ok script)
  pub built : is_built script ≡ true

-- no drivers were handed in, or those for the first stack are too few
abbrev pub LacksFirst : Script → List HandedView → Type 0
LacksFirst script [] = Unit {0}
LacksFirst script (first ∷ more) = LacksDrivers script.stacks first

-- the bytes are a script that can be run, and the stack is its only one, for which drivers are wanting
pub record LacksParts (left : Option (List ℕ)) (parts : List HandedView) (stack : ℕ) : Type 0 where
  pub script : Script
  pub is : IsOf left script
  pub built : is_built script ≡ true
  pub only : stack ≡ 0
  pub lacks : LacksFirst script parts

-- the call ended before its run
abbrev pub is_early : Status → Bool
is_early Usage = true
is_early (BadScript at why) = true
is_early ReadFault = true
is_early (NoParts stack) = true
is_early _ = false

-- the call ends while its script is read, or while it is run and its report written
abbrev pub ends_reading : Status → Bool
ends_reading (BadScript at why) = true
ends_reading ReadFault = true
ends_reading Memory = true
ends_reading _ = false

abbrev pub ends_replay : Status → Bool
ends_replay Done = true
ends_replay WriteFault = true
ends_replay Memory = true
ends_replay (NoParts stack) = true
ends_replay _ = false

-- done, or memory ran out
abbrev pub IsDone : Status → Type 0
IsDone Done = Unit {0}
IsDone Memory = Unit {0}
IsDone _ = ⊥

-- drivers are wanting for the first stack, or memory ran out
abbrev pub IsWanting : Status → Type 0
IsWanting (NoParts stack) = stack ≡ 0
IsWanting Memory = Unit {0}
IsWanting _ = ⊥
