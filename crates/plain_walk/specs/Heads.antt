-- The heads of the journals of a script's stacks.
use Rattle.std.specs.Prelude.{ℕ, ◌==◌, ◌+◌, List, [], ◌∷◌, Option, Some, None, if◌then◌else◌}
use Rattle.journal_types.specs.declared.StackHead.{StackHead}
use Rattle.script_types.specs.declared.MiniportSetup.{MiniportSetup}
use Rattle.script_types.specs.declared.StackSetup.{StackSetup}

-- a virtual miniport, of the stack with the number upper, as the stack that its link names sees it
abbrev pub upper_by : ℕ → ℕ → Option (ℕ × ℕ) → Option ℕ → Option (ℕ × ℕ × ℕ)
upper_by number upper None vlan = None
upper_by number upper (Some link) None = None
upper_by number upper (Some link) (Some vlan) = (if link.0 == number then Some (upper, link.1, vlan) else None)

abbrev pub upper_of : ℕ → ℕ → MiniportSetup → Option (ℕ × ℕ × ℕ)
upper_of number upper miniport = upper_by number upper miniport.link miniport.port.vlan

abbrev pub with_upper : Option (ℕ × ℕ × ℕ) → List (ℕ × ℕ × ℕ) → List (ℕ × ℕ × ℕ)
with_upper None uppers = uppers
with_upper (Some upper) uppers = upper ∷ uppers

-- the virtual miniports above a stack among the stacks from a number on
abbrev pub uppers_from : ℕ → ℕ → List StackSetup → List (ℕ × ℕ × ℕ)
uppers_from number upper [] = []
uppers_from number upper (stack ∷ stacks) = with_upper (upper_of number upper stack.miniport) (uppers_from number (upper + 1) stacks)

-- the head of the stack of this number among the stacks of a script
abbrev pub head_of : ℕ → StackSetup → List StackSetup → StackHead
head_of number stack stacks = record {
  stack = number;
  kind = stack.miniport.kind;
  port = stack.miniport.port;
  link = stack.miniport.link;
  bindings = stack.bindings;
  uppers = uppers_from number 0 stacks;
}
