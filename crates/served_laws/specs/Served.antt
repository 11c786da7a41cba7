-- What is promised of the calls and the logs of a finished journal is what its rows tell, each by the state before
-- it: so it grows row by row and turn by turn.
use Rattle.std.specs.Prelude.{◌≡◌, ◌+◌, List, ◌++◌, count_by}
use Rattle.ndis_base.specs.declared.ModuleId.{ModuleId}
use Rattle.journal_types.specs.declared.StackHead.{StackHead}
use Rattle.journal_types.specs.declared.Turn.{Turn}
use Rattle.stack_rules.specs.Net.{start, seen}
use Rattle.stack_rules.specs.Sound.{Sound}
use Rattle.home_laws.specs.Rows.{rows_of}
use Rattle.promise_rules.specs.declared.Called.{Called}
use Rattle.promise_rules.specs.Calls.{is_call_of, served, log_of}
use Rattle.book_lemmas.specs.Did.{calls_of, logs_in}

-- A sound journal serves a module as often as the states before its rows tell.
abbrev pub EachIsServed : Type 0
EachIsServed =
    (head : StackHead) (turns : List Turn) → Sound head turns →
    (m : ModuleId) (what : Called) → served turns m what ≡ count_by (is_call_of m what) (calls_of (start head) turns)

-- A journal logs of a module what its rows log.
abbrev pub EachIsLogged : Type 0
EachIsLogged = (turns : List Turn) (m : ModuleId) → log_of turns m ≡ logs_in m (rows_of turns)

-- More turns add their calls, told from the state in which they begin.
abbrev pub EachAddsCalls : Type 0
EachAddsCalls =
    (head : StackHead) (before more : List Turn) (m : ModuleId) (what : Called) →
    count_by (is_call_of m what) (calls_of (start head) (before ++ more))
    ≡ count_by (is_call_of m what) (calls_of (start head) before) + count_by (is_call_of m what) (calls_of (seen head before) more)

-- More turns add what their rows log.
abbrev pub EachAddsLogs : Type 0
EachAddsLogs =
    (before more : List Turn) (m : ModuleId) → logs_in m (rows_of (before ++ more)) ≡ logs_in m (rows_of before) ++ logs_in m (rows_of more)
