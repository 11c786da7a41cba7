-- The JSON of a script nests few levels, and has no float.
use Rattle.std.proofs.Common.{◌≡◌, ℕ, suc, ◌≤◌, false, List, [], ◌∷◌, map, Option, Some, None, refl, arith}
use Rattle.std.proofs.Math.Nat.{max-le}
use Rattle.std.proofs.lemmas.Bool.{or_from}
use Rattle.ndis_base.specs.declared.FilterKind.{FilterKind}
use Rattle.ndis_base.specs.declared.MiniportKind.{MiniportKind}
use Rattle.ndis_base.specs.declared.ProtocolKind.{ProtocolKind}
use Rattle.journal_types.specs.declared.PortSetup.{PortSetup}
use Rattle.journal_types.specs.declared.Setup.{Setup}
use Rattle.program_types.specs.declared.Test.{Test}
use Rattle.program_types.specs.declared.Test.TheVariants as test
use Rattle.program_types.specs.declared.Action.{Action}
use Rattle.program_types.specs.declared.Action.TheVariants as action
use Rattle.program_types.specs.declared.Rule.{Rule}
use Rattle.program_forms.specs.Written.{hex_data, test_data, action_data, rule_data, program_data}
use Rattle.serde_json.specs.Data.{Data, depth, items_depth}
use Rattle.serde_json.specs.View.{items_of}
use Rattle.serde_json.specs.Written.{has_float, items_have_float}
use Rattle.script_types.specs.declared.Call.{Call}
use Rattle.script_types.specs.declared.CallKind.{CallKind}
use Rattle.script_types.specs.declared.CallKind.TheVariants as ask
use Rattle.script_types.specs.declared.FilterSetup.{FilterSetup}
use Rattle.script_types.specs.declared.Script.{Script}
use Rattle.script_types.specs.declared.StackSetup.{StackSetup}
use Rattle.script_writing.specs.Written.{filter_data, port_data, binding_data, stack_data, frames_data, kind_data, call_data, script_data}

-- ---- levels

items_depth-le : {A : Type 0} (write : A → Data) (k : ℕ) → ((x : A) → depth (write x) ≤ k) → (xs : List A) → items_depth (items_of (map write xs)) ≤ k
items_depth-le write k each [] = omega arith
items_depth-le write k each (x ∷ xs) = max-le (each x) (items_depth-le write k each xs)

deeper : (m k : ℕ) → m ≤ k → suc m ≤ suc k
deeper m k h = omega arith

none : (k : ℕ) → 0 ≤ k
none k = omega arith

test_data-depth : (t : Test) → depth (test_data t) ≤ 2
test_data-depth test.Any = omega arith
test_data-depth test.Tagged = omega arith
test_data-depth test.Untagged = omega arith
test_data-depth (test.Dst address) = omega arith
test_data-depth (test.Src address) = omega arith
test_data-depth (test.EtherType n) = omega arith
test_data-depth (test.Vlan n) = omega arith
test_data-depth (test.Longer n) = omega arith
test_data-depth (test.Byte at value) = omega arith

action_data-depth : (a : Action) → depth (action_data a) ≤ 2
action_data-depth action.Drop = omega arith
action_data-depth action.Pop = omega arith
action_data-depth (action.Push t) = omega arith
action_data-depth (action.SetDst address) = omega arith
action_data-depth (action.SetSrc address) = omega arith
action_data-depth (action.SetByte at value) = omega arith

rule_data-depth : (rule : Rule) → depth (rule_data rule) ≤ 3
rule_data-depth rule = deeper _ 2 (max-le (action_data-depth rule.action) (max-le (test_data-depth rule.test) (none 2)))

program_data-depth : (rules : List Rule) → depth (program_data rules) ≤ 4
program_data-depth rules = deeper _ 3 (items_depth-le rule_data 3 rule_data-depth rules)

filter_data-depth : (kind : FilterKind) (setup : Setup) → depth (filter_data kind setup) ≤ 5
filter_data-depth kind setup =
    deeper _ 4 (max-le (none 4) (max-le (none 4) (max-le (none 4) (max-le (program_data-depth setup.receive) (max-le (program_data-depth setup.send) (none 4))))))

port_data-depth : (kind : MiniportKind) (port : PortSetup) (link : Option (ℕ × ℕ)) (vlan : Option ℕ) → depth (port_data kind port link vlan) ≤ 6
port_data-depth kind port (Some link) (Some vlan) = omega arith
port_data-depth kind port (Some link) None = omega arith
port_data-depth kind port None vlan = omega arith

binding_data-depth : (binding : ProtocolKind × ℕ) → depth (binding_data binding) ≤ 5
binding_data-depth binding = omega arith

stack_data-depth : (stack : StackSetup) → depth (stack_data stack) ≤ 7
stack_data-depth stack =
    let bindings = deeper _ 5 (items_depth-le binding_data 5 binding_data-depth stack.bindings) in
    let filters = deeper _ 5 (items_depth-le (λ (filter : FilterSetup). filter_data filter.kind filter.setup) 5 (λ filter. filter_data-depth filter.kind filter.setup) stack.filters) in
    let port = port_data-depth stack.miniport.kind stack.miniport.port stack.miniport.link stack.miniport.port.vlan in
    deeper _ 6 (max-le bindings (max-le filters (max-le port (none 6))))

frames_data-depth : (frames : List (List ℕ)) → depth (frames_data frames) ≤ 5
frames_data-depth frames = deeper _ 4 (items_depth-le hex_data 4 (λ frame. none 4) frames)

kind_data-depth : (call : Call) (kind : CallKind) → depth (kind_data call kind) ≤ 6
kind_data-depth call (ask.Send binding None frames) = deeper _ 5 (max-le (none 5) (max-le (none 5) (max-le (frames_data-depth frames) (none 5))))
kind_data-depth call (ask.Send binding (Some id) frames) = deeper _ 5 (max-le (none 5) (max-le (none 5) (max-le (none 5) (max-le (frames_data-depth frames) (none 5)))))
kind_data-depth call (ask.Indicate frames) = deeper _ 5 (max-le (none 5) (max-le (frames_data-depth frames) (none 5)))
kind_data-depth call (ask.Lend frames) = deeper _ 5 (max-le (none 5) (max-le (frames_data-depth frames) (none 5)))
kind_data-depth call (ask.GiveBack binding list) = omega arith
kind_data-depth call (ask.Cancel id) = omega arith
kind_data-depth call (ask.Ask binding kind code value) = omega arith
kind_data-depth call (ask.Status name) = omega arith
kind_data-depth call ask.Transmit = omega arith
kind_data-depth call ask.Pump = omega arith
kind_data-depth call ask.Drain = omega arith
kind_data-depth call ask.BeginPause = omega arith
kind_data-depth call ask.PauseNext = omega arith
kind_data-depth call ask.RestartNext = omega arith
kind_data-depth call (ask.Insert position kind setup) = deeper _ 5 (max-le (none 5) (max-le (filter_data-depth kind setup) (none 5)))
kind_data-depth call (ask.Remove filter) = omega arith
kind_data-depth call (ask.Replace filter kind setup) = deeper _ 5 (max-le (none 5) (max-le (filter_data-depth kind setup) (none 5)))
kind_data-depth call (ask.Relay way) = omega arith

call_data-depth : (call : Call) → depth (call_data call) ≤ 7
call_data-depth call = omega (arith, kind_data-depth call call.kind)

pub script_data-depth : (script : Script) → depth (script_data script) ≤ 9
script_data-depth script =
    let calls = deeper _ 7 (items_depth-le call_data 7 call_data-depth script.calls) in
    let stacks = deeper _ 7 (items_depth-le stack_data 7 stack_data-depth script.stacks) in
    deeper _ 8 (max-le calls (max-le (none 8) (max-le stacks (none 8))))

-- ---- no float

items-whole : {A : Type 0} (write : A → Data) → ((x : A) → has_float (write x) ≡ false) → (xs : List A) → items_have_float (items_of (map write xs)) ≡ false
items-whole write each [] = refl
items-whole write each (x ∷ xs) = or_from _ _ (each x) (items-whole write each xs)

test_data-whole : (t : Test) → has_float (test_data t) ≡ false
test_data-whole test.Any = refl
test_data-whole test.Tagged = refl
test_data-whole test.Untagged = refl
test_data-whole (test.Dst address) = refl
test_data-whole (test.Src address) = refl
test_data-whole (test.EtherType n) = refl
test_data-whole (test.Vlan n) = refl
test_data-whole (test.Longer n) = refl
test_data-whole (test.Byte at value) = refl

action_data-whole : (a : Action) → has_float (action_data a) ≡ false
action_data-whole action.Drop = refl
action_data-whole action.Pop = refl
action_data-whole (action.Push t) = refl
action_data-whole (action.SetDst address) = refl
action_data-whole (action.SetSrc address) = refl
action_data-whole (action.SetByte at value) = refl

rule_data-whole : (rule : Rule) → has_float (rule_data rule) ≡ false
rule_data-whole rule = or_from _ _ (action_data-whole rule.action) (or_from _ _ (test_data-whole rule.test) refl)

program_data-whole : (rules : List Rule) → has_float (program_data rules) ≡ false
program_data-whole rules = items-whole rule_data rule_data-whole rules

filter_data-whole : (kind : FilterKind) (setup : Setup) → has_float (filter_data kind setup) ≡ false
filter_data-whole kind setup = or_from _ _ (program_data-whole setup.receive) (or_from _ _ (program_data-whole setup.send) refl)

port_data-whole : (kind : MiniportKind) (port : PortSetup) (link : Option (ℕ × ℕ)) (vlan : Option ℕ) → has_float (port_data kind port link vlan) ≡ false
port_data-whole kind port (Some link) (Some vlan) = refl
port_data-whole kind port (Some link) None = refl
port_data-whole kind port None vlan = refl

stack_data-whole : (stack : StackSetup) → has_float (stack_data stack) ≡ false
stack_data-whole stack =
    or_from _ _ (items-whole binding_data (λ binding. refl) stack.bindings)
    (or_from _ _ (items-whole (λ (filter : FilterSetup). filter_data filter.kind filter.setup) (λ filter. filter_data-whole filter.kind filter.setup) stack.filters)
    (or_from _ _ (port_data-whole stack.miniport.kind stack.miniport.port stack.miniport.link stack.miniport.port.vlan) refl))

frames_data-whole : (frames : List (List ℕ)) → has_float (frames_data frames) ≡ false
frames_data-whole frames = items-whole hex_data (λ frame. refl) frames

kind_data-whole : (call : Call) (kind : CallKind) → has_float (kind_data call kind) ≡ false
kind_data-whole call (ask.Send binding None frames) = or_from _ _ (frames_data-whole frames) refl
kind_data-whole call (ask.Send binding (Some id) frames) = or_from _ _ (frames_data-whole frames) refl
kind_data-whole call (ask.Indicate frames) = or_from _ _ (frames_data-whole frames) refl
kind_data-whole call (ask.Lend frames) = or_from _ _ (frames_data-whole frames) refl
kind_data-whole call (ask.GiveBack binding list) = refl
kind_data-whole call (ask.Cancel id) = refl
kind_data-whole call (ask.Ask binding kind code value) = refl
kind_data-whole call (ask.Status name) = refl
kind_data-whole call ask.Transmit = refl
kind_data-whole call ask.Pump = refl
kind_data-whole call ask.Drain = refl
kind_data-whole call ask.BeginPause = refl
kind_data-whole call ask.PauseNext = refl
kind_data-whole call ask.RestartNext = refl
kind_data-whole call (ask.Insert position kind setup) = or_from _ _ (filter_data-whole kind setup) refl
kind_data-whole call (ask.Remove filter) = refl
kind_data-whole call (ask.Replace filter kind setup) = or_from _ _ (filter_data-whole kind setup) refl
kind_data-whole call (ask.Relay way) = refl

pub script_data-whole : (script : Script) → has_float (script_data script) ≡ false
script_data-whole script =
    or_from _ _ (items-whole call_data (λ call. kind_data-whole call call.kind) script.calls) (or_from _ _ (items-whole stack_data stack_data-whole script.stacks) refl)
