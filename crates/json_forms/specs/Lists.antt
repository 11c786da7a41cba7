-- Lists that are read one after the other.
use Rattle.std.specs.Prelude.{List, [], ◌∷◌, ◌++◌, Result, Ok, Err}
use Rattle.serde_json.specs.Data.{Data, Items, no_items, item}

-- a JSON list as a list
abbrev pub list_of : Items → List Data
list_of no_items = []
list_of (item d ds) = d ∷ list_of ds

-- the second step, where the first gave a value
abbrev pub then_read : {A B E : Type 0} → Result A E → (A → Result B E) → Result B E
then_read (Ok a) more = more a
then_read (Err fault) more = Err fault

-- reads the values of a list, each with those before it, or tells the first fault
abbrev pub read_all : {A E : Type 0} → (List A → Data → Result A E) → List A → List Data → Result (List A) E
read_all read before [] = Ok before
read_all read before (d ∷ ds) = then_read (read before d) (λ a. read_all read (before ++ a ∷ []) ds)
