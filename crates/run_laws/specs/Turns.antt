-- What a turn that may come next leads to.
use Rattle.std.specs.Prelude.{◌≡◌, ◌≤◌, ◌<◌, ℕ, List, length}
use Rattle.ndis_base.specs.declared.Phase.{Phase}
use Rattle.journal_types.specs.declared.Reply.{Reply}
use Rattle.journal_types.specs.declared.StackHead.{StackHead}
use Rattle.journal_types.specs.declared.Turn.{Turn}
use Rattle.stack_rules.specs.Net.{Net, after_turn, seen}
use Rattle.stack_rules.specs.Sound.{Next, Sound}

-- After every sound journal of a stack with a binding each turn that may come next leads to this.
abbrev pub EachTurn : (Net → Turn → Type 0) → Type 0
EachTurn Leads =
    (head : StackHead) (turns : List Turn) (turn : Turn) → Sound head turns → 1 ≤ length head.bindings →
    Next (seen head turns) turn → Leads (seen head turns) turn

-- the turn is answered so, and the stack is in this phase
pub record LeadsTo (net : Net) (turn : Turn) (answer : Reply) (to : Phase) : Type 0 where
  pub reply : turn.reply ≡ answer
  pub phase : (after_turn net turn).phase ≡ to

-- the turn is answered so, and changes nothing
pub record ChangesNothing (net : Net) (turn : Turn) (answer : Reply) : Type 0 where
  pub reply : turn.reply ≡ answer
  pub same : after_turn net turn ≡ net

-- the turn is answered so, the stack is in this phase, and there is less to do
pub record GoesOn (net : Net) (turn : Turn) (answer : Reply) (to : Phase) (to_go : Net → ℕ) : Type 0 where
  pub leads : LeadsTo net turn answer to
  pub less : to_go (after_turn net turn) < to_go net
