-- Where the OID requests of a stack wait, and what those that are given wait for.
use Rattle.std.specs.Prelude.{◌≡◌, ℕ, ◌==◌, ◌||◌, Bool, true, false, List, Option, Some, None}
use Rattle.std.specs.List.{list_any}
use Rattle.ndis_base.specs.declared.ModuleId.{ModuleId}
use Rattle.ndis_base.specs.declared.ModuleId.TheVariants.{Miniport, Filter, Binding}
use Rattle.ndis_base.specs.declared.OidNo.{OidNo}
use Rattle.journal_types.specs.declared.StackHead.{StackHead}
use Rattle.journal_types.specs.declared.Turn.{Turn}
use Rattle.stack_rules.specs.declared.Request.{Request}
use Rattle.stack_rules.specs.declared.RequestAt.{RequestAt}
use Rattle.stack_rules.specs.declared.RequestAt.TheVariants as at
use Rattle.stack_rules.specs.declared.Thing.{Thing}
use Rattle.stack_rules.specs.Net.{Net, Modules, is_answer_to, has_oid, seen}
use Rattle.stack_rules.specs.Rewires.{is_in}
use Rattle.stack_rules.specs.Sound.{Sound}
use Rattle.rule_basics.specs.Live.{EachRequest}

-- a module that takes requests: the miniport, or a filter of the order with the OID pair
abbrev pub Takes : Modules → ModuleId → Type 0
Takes ms Miniport = Unit {0}
Takes ms (Filter f) = (is_in f ms.order ≡ true) × (has_oid ms f ≡ true)
Takes ms (Binding b) = ⊥

-- a clone of the request isn't done, or its answer is on its way
abbrev pub is_clone : ℕ → Option OidNo → Bool
is_clone n None = false
is_clone n (Some parent) = parent.0 == n

abbrev pub has_clone_of : ℕ → List Request → Bool
has_clone_of n rs = list_any (λ r. is_clone n r.parent) rs

abbrev pub has_answer : ℕ → List Thing → Bool
has_answer n ts = list_any (is_answer_to n) ts

abbrev pub is_served : Net → ℕ → Bool
is_served net n = has_clone_of n net.requests || has_answer n net.things

-- a request waits at a module that takes requests, or is given to a filter that has it served
abbrev pub IsServed : Modules → (ℕ → Bool) → ℕ → RequestAt → Type 0
IsServed ms served n at.Entry = Unit {0}
IsServed ms served n (at.Waiting m) = Takes ms m
IsServed ms served n (at.Given (Filter f)) = served n ≡ true
IsServed ms served n (at.Given _) = ⊥

-- After every sound journal each request waits so, or is served.
abbrev pub AreServed : Net → Type 0
AreServed net = EachRequest (λ r. IsServed net.modules (is_served net) r.request.0 r.at) net.requests

abbrev pub RequestsAreServed : Type 0
RequestsAreServed = (head : StackHead) (turns : List Turn) → Sound head turns → AreServed (seen head turns)
