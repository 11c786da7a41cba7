-- A ledger of a stack without turns.
use Rattle.std.proofs.Common.{◌≡◌, ℕ, List, [], length, replicate, ap, ◌∙◌}
use Rattle.ndis_base.specs.declared.ModuleState.TheVariants as state
use Rattle.ndis_base.specs.declared.Phase.TheVariants as phase
use Rattle.journal_types.specs.declared.StackHead.{StackHead}
use Rattle.stack_rules.specs.declared.Request.{Request}
use Rattle.stack_rules.specs.Net.{Modules, Counters, start}
use Rattle.stack_rules.specs.Port.{Port, first_port}
use Rattle.stack_ledger.specs.declared.numbers.NextNumbers.{NextNumbers}
use Rattle.stack_ledger.specs.Bare.{LedgerView}
use Rattle.stack_ledger.specs.Inside.{counters}

abbrev pub modules_of : ℕ → Modules
modules_of n = record { miniport = state.Halted; bindings = replicate n state.Unbound; filters = []; config = 0; order = [] }

-- the counts and packet filters of so many bindings
abbrev pub port_of : ℕ → Port
port_of n = record { sent = 0; received = 0; answers_by = replicate n 32; delivers_by = replicate n 32 }

abbrev pub view : StackHead → Modules → List Request → Port → Counters → LedgerView
view h ms rs p n = record { net = record { head = h; phase = phase.Halted; modules = ms; things = []; requests = rs; port = p; messages = []; next = n }; spare = 0 }

-- with the parts as they begin
pub begun : (k h : StackHead) (ms : Modules) (rs : List Request) (p : Port) (n : NextNumbers) → k ≡ h → ms ≡ modules_of (length h.bindings)
    → rs ≡ [] → p ≡ first_port h → n ≡ record { list = 1; request = 1; status = 1; message = 1; filter = 1 }
    → view k ms rs p (counters n) ≡ record { net = start h; spare = 0 }
begun k h ms rs p n head modules requests port next =
    ap (λ x. view x ms rs p (counters n)) head
    ∙ ap (λ x. view h x rs p (counters n)) modules
    ∙ ap (λ x. view h (modules_of (length h.bindings)) x p (counters n)) requests
    ∙ ap (λ x. view h (modules_of (length h.bindings)) [] x (counters n)) port
    ∙ ap (λ x. view h (modules_of (length h.bindings)) [] (first_port h) (counters x)) next
