-- Steps that give a value or tell a fault.
use Rattle.std.specs.Prelude.{◌≡◌, ℕ, List, map, Vec, Option, Some, None, Result, Ok, Err}
use Rattle.std.specs.Borrow.{Bor}
use Rattle.std.specs.declared.alloc.Global.{Global}
use Rattle.serde_json.specs.Data.{Data}
use Rattle.serde_json.specs.View.{view}
use Rattle.serde_json.specs.declared.value.Value.{Value}
use Rattle.script_types.specs.declared.ScriptCause.{ScriptCause}
use Rattle.script_types.specs.declared.ScriptPlace.{ScriptPlace}
use Rattle.script_types.specs.declared.ScriptFault.{ScriptFault}
use Rattle.script_types.specs.declared.ScriptFault.TheVariants as fault
use Rattle.script_forms.specs.declared.parts.Trouble.{Trouble}
use Rattle.script_forms.specs.declared.parts.Trouble.TheVariants.{Bad, Memory}

-- the second step with the value of the first; the first fault counts
infixl 10 ◌>>=◌
abbrev pub ◌>>=◌ : {A B E : Type 0} → Result A E → (A → Result B E) → Result B E
Ok a >>= more = more a
Err fault >>= more = Err fault

-- the value, or this fault where there is none
abbrev pub or_else : {A E : Type 0} → E → Option A → Result A E
or_else fault None = Err fault
or_else fault (Some a) = Ok a

-- the fault of a part, at its place in the script
abbrev pub placed : {A : Type 0} → ScriptPlace → Result A ScriptCause → Result A ScriptFault
placed place (Ok a) = Ok a
placed place (Err cause) = Err (fault.Bad place cause)

-- what a reader of a part answers: just that, but for want of memory
abbrev pub Gives : {A : Type 0} → Result A Trouble → Result A ScriptCause → Type 0
Gives (Ok a) told = told ≡ Ok a
Gives (Err (Bad cause)) told = told ≡ Err cause
Gives (Err Memory) told = Unit {0}

-- the same of a reader of bytes, of a value, of a text, and of a list of values
abbrev pub GivesItems : Result (Vec ℕ Global) Trouble → Result (List ℕ) ScriptCause → Type 0
GivesItems (Ok v) told = told ≡ Ok v.items
GivesItems (Err (Bad cause)) told = told ≡ Err cause
GivesItems (Err Memory) told = Unit {0}

abbrev pub GivesView : Result (Bor Value) Trouble → Result Data ScriptCause → Type 0
GivesView (Ok value) told = told ≡ Ok (view value.now)
GivesView (Err (Bad cause)) told = told ≡ Err cause
GivesView (Err Memory) told = Unit {0}

abbrev pub GivesText : Result (Bor (List ℕ)) Trouble → Result (List ℕ) ScriptCause → Type 0
GivesText (Ok text) told = told ≡ Ok text.now
GivesText (Err (Bad cause)) told = told ≡ Err cause
GivesText (Err Memory) told = Unit {0}

abbrev pub GivesViews : Result (Bor (List Value)) Trouble → Result (List Data) ScriptCause → Type 0
GivesViews (Ok values) told = told ≡ Ok (map view values.now)
GivesViews (Err (Bad cause)) told = told ≡ Err cause
GivesViews (Err Memory) told = Unit {0}

-- the same of a reader that knows the place
abbrev pub GivesAtPlace : {A : Type 0} → Result A ScriptFault → Result A ScriptFault → Type 0
GivesAtPlace (Ok a) told = told ≡ Ok a
GivesAtPlace (Err (fault.Bad place cause)) told = told ≡ Err (fault.Bad place cause)
GivesAtPlace (Err fault.Memory) told = Unit {0}
