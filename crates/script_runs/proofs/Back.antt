-- Which drivers the only stack takes, and how they come back.
use Rattle.std.proofs.Common.{◌≡◌, ℕ, ◌<◌, List, [], ◌∷◌, ◌++◌, length, map, slice_index_or, sym, ap, subst, ◌∙◌}
use Rattle.journal_types.specs.declared.StackHead.{StackHead}
use Rattle.journal_types.specs.declared.Turn.{Turn}
use Rattle.script_types.specs.declared.FilterSetup.{FilterSetup}
use Rattle.script_types.specs.declared.StackSetup.{StackSetup}
use Rattle.driver_views.specs.States.{FilterState, MiniportState, ProtocolState}
use Rattle.driver_choice.specs.Chosen.{Takes, Lacks}
use Rattle.driver_choice.proofs.Standing.{takes_stand}
use Rattle.stack_rules.specs.Heads.{kind_of_binding}
use Rattle.stack_rules.specs.Net.{Net}
use Rattle.book_lemmas.specs.Views.{BookView, HeldView, no_protocol}
use Rattle.book_lemmas.proofs.Heads.{head_seen}
use Rattle.book_parts.specs.Events.{IsBook, IsIdle}
use Rattle.book_parts.proofs.Ended.{idle_state}
use Rattle.book_opening.specs.Opened.{HandedView, kind_of}
use Rattle.book_scripts.specs.Served.{AreServed, DriversServed, FiltersServed, RunsUnlessRefused}
use Rattle.script_runs.specs.Built.{head_of}
use Rattle.script_runs.specs.Drivers.{LacksDrivers, LeavesDrivers, ComesBack}

same_stack : (a b : StackSetup) → a ∷ [] ≡ b ∷ [] → a ≡ b
same_stack a b e = cc

-- what is wanting for the head is wanting for the only stack
pub lacks_drivers : (stacks s : List StackSetup) (stack : StackSetup) (head : StackHead) (handed : HandedView) → s ≡ stacks → s ≡ stack ∷ [] → head ≡ head_of stack → Lacks head handed.drivers → LacksDrivers stacks handed
lacks_drivers stacks s stack head handed same only is l = record { stack = stack; only = sym same ∙ only; lacks = subst (λ h. Lacks h handed.drivers) is l }

-- and where nothing is wanting for the head, nothing is for the only stack
pub enough_drivers : (stacks s : List StackSetup) (stack : StackSetup) (head : StackHead) (handed : HandedView) → s ≡ stacks → s ≡ stack ∷ [] → head ≡ head_of stack → ¬ Lacks head handed.drivers → ¬ LacksDrivers stacks handed
enough_drivers stacks s stack head handed same only is enough l =
    let one : l.stack ≡ stack = same_stack l.stack stack (sym l.only ∙ sym same ∙ only) in
    enough (subst (λ h. Lacks h handed.drivers) (ap head_of one ∙ sym is) l.lacks)

-- the others are left
pub leaves_drivers : (stacks s : List StackSetup) (stack : StackSetup) (head : StackHead) (handed others : HandedView) (miniport : MiniportState) (protocols : List ProtocolState) → s ≡ stacks → s ≡ stack ∷ []
    → head ≡ head_of stack → Takes head handed.drivers miniport protocols others.drivers → others.shelf ≡ [] → LeavesDrivers stacks handed others
leaves_drivers stacks s stack head handed others miniport protocols same only is takes none = record {
  stack = stack;
  only = sym same ∙ only;
  miniport = miniport;
  protocols = protocols;
  takes = subst (λ h. Takes h handed.drivers miniport protocols others.drivers) is takes;
  no_shelf = none;
}

-- the drivers of a stack are of its head's kinds, before a run and after it
pub record AreOfKinds (old new : HeldView) : Type 0 where
  pub miniport_is : new.miniport.kind ≡ old.miniport.kind
  pub protocols_are : (i : ℕ) → i < length new.protocols → (slice_index_or new.protocols i no_protocol).kind ≡ (slice_index_or old.protocols i no_protocol).kind

state_head : (v : BookView) → IsBook v → IsIdle v → v.tray.net.head ≡ v.tray.head
state_head v k i = ap (λ (n : Net). n.head) (idle_state v k i) ∙ head_seen v.tray.head v.tray.turns

pub are_of_kinds : (x y : BookView) → IsBook x → IsIdle x → IsBook y → IsIdle y → y.tray.head ≡ x.tray.head → AreOfKinds x.held y.held
are_of_kinds x y k i l j same =
    let head : y.tray.net.head ≡ x.tray.net.head = state_head y l j ∙ same ∙ sym (state_head x k i) in
    record {
      miniport_is = l.stands.miniport_kind ∙ ap (λ (h : StackHead). h.kind) head ∙ sym k.stands.miniport_kind;
      protocols_are = λ b within.
          let there : b < length y.tray.net.head.bindings = subst (λ n. b < n) l.stands.protocols within in
          l.stands.protocol_kinds b there
          ∙ ap (λ h. kind_of_binding h b) head
          ∙ sym (k.stands.protocol_kinds b (subst (λ (h : StackHead). b < length h.bindings) head there));
    }

-- after the run the stack's drivers stand before them, and did what its journal tells
pub comes_back : (stacks s : List StackSetup) (stack : StackSetup) (head begun : StackHead) (fs : List FilterSetup) (handed others back : HandedView) (old new : HeldView) (turns after : List Turn) → s ≡ stacks → s ≡ stack ∷ [] → head ≡ head_of stack
    → Takes head handed.drivers old.miniport old.protocols others.drivers → others.shelf ≡ [] → begun ≡ head → fs ≡ stack.filters → DriversServed begun fs turns old new → after ≡ turns
    → back.drivers.miniports ≡ new.miniport ∷ others.drivers.miniports → back.drivers.protocols ≡ new.protocols ++ others.drivers.protocols → back.shelf ≡ new.filters → old.filters ≡ handed.shelf → FiltersServed turns old.filters new.filters → AreOfKinds old new
    → ComesBack stacks after handed back
unfolding leaves_drivers
comes_back stacks s stack head begun fs handed others back old new turns after same only is takes none kept filters served journal miniports protocols shelf_new shelf_old filters_did kinds =
    let did : DriversServed (head_of stack) stack.filters after old new =
    subst (λ h. DriversServed h stack.filters after old new) (kept ∙ is) (subst (λ xs. DriversServed begun xs after old new) filters (subst (λ ts. DriversServed begun fs ts old new) (sym journal) served)) in
    record {
      others = others;
      left = leaves_drivers stacks s stack head handed others old.miniport old.protocols same only is takes none;
      miniport = new.miniport;
      protocols = new.protocols;
      miniports_are = miniports;
      protocols_are = protocols;
      miniport_kind = kinds.miniport_is;
      protocol_kinds = kinds.protocols_are;
      stood = takes_stand (head_of stack) handed.drivers others.drivers old.miniport old.protocols (subst (λ h. Takes h handed.drivers old.miniport old.protocols others.drivers) is takes);
      served = did.are;
      ran = did.ran;
      filters = ap (map kind_of) shelf_new ∙ did.kinds ∙ ap (map kind_of) shelf_old;
      filters_served = subst (λ ts. FiltersServed ts handed.shelf back.shelf) (sym journal)
          (subst (λ fs. FiltersServed turns fs back.shelf) shelf_old (subst (λ fs. FiltersServed turns old.filters fs) (sym shelf_new) filters_did));
    }
