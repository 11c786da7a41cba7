-- Which filters a turn calls (WDK, "Filter Module States and Operations": a filter that is detached gets no calls).
use Rattle.std.specs.Prelude.{◌≡◌, ◌≤◌, ℕ, List, None, length, count_by}
use Rattle.ndis_base.specs.declared.ModuleId.TheVariants.{Filter}
use Rattle.journal_types.specs.declared.StackHead.{StackHead}
use Rattle.journal_types.specs.declared.Turn.{Turn}
use Rattle.stack_rules.specs.Net.{attached, seen, told}
use Rattle.stack_rules.specs.Sound.{Next, Sound}
use Rattle.promise_rules.specs.declared.Called.{Called}
use Rattle.promise_rules.specs.Calls.{is_call_of}
use Rattle.book_lemmas.specs.Did.{calls_in}

-- A turn that may come after a sound journal of a stack with a binding calls no filter that isn't attached as it begins.
abbrev pub EachCallsAttached : Type 0
EachCallsAttached =
    (head : StackHead) (turns : List Turn) (turn : Turn) → Sound head turns → 1 ≤ length head.bindings → Next (seen head turns) turn →
    (f : ℕ) → attached f (seen head turns).modules.filters ≡ None →
    (what : Called) → count_by (is_call_of (Filter f) what) (calls_in (told (seen head turns) turn.event turn.reply) turn.rows) ≡ 0
